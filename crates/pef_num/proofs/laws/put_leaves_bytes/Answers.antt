use Rattle.pef_num.proofs.PutBytes.{leaves_bytes}
use Rattle.pef_num.proofs.laws.put_leaves_bytes.Goals as goal

pub returns : goal.returns
returns c = leaves_bytes
