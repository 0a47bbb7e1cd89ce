use Rattle.pef_model.proofs.HypercallTables.{IsRow-within}
use Rattle.pef_model.proofs.ReturnRows.{takes_alone}
use Rattle.pef_model.proofs.call_laws.each_row_takes_outputs_alone.Goals as goal

pub returns : goal.returns
returns c = λ rows row regs r0 outs table within long nine. takes_alone row regs r0 outs (IsRow-within rows row table within) long nine
