use Rattle.pef_num.proofs.PutBytes.{gives_bytes}
use Rattle.pef_num.proofs.laws.put_gives_bytes.Goals as goal

pub returns : goal.returns
returns c = gives_bytes
