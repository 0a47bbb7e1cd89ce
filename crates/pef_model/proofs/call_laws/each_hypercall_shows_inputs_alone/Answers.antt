use Rattle.std.proofs.Common.{refl}
use Rattle.pef_model.specs.declared.hypercall.TheConstants.{HCALLS}
use Rattle.pef_model.proofs.HypercallTables.{IsRow-within, IsTable-from_test}
use Rattle.pef_model.proofs.Scrubs.{each_row}
use Rattle.pef_model.proofs.call_laws.each_hypercall_shows_inputs_alone.Goals as goal

pub returns : goal.returns
returns c = λ row regs within long. each_row row regs (IsRow-within HCALLS row (IsTable-from_test 0 HCALLS refl) within) long
