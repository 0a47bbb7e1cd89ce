use Rattle.pef_slots.proofs.Bytes.{its_bytes}
use Rattle.pef_slots.proofs.laws.slot_has_its_bytes.Goals as goal

-- start and size are whole pages
pub returns : goal.returns
returns c = its_bytes
