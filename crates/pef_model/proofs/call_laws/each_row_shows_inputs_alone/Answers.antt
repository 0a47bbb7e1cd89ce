use Rattle.pef_model.proofs.HypercallTables.{IsRow-within}
use Rattle.pef_model.proofs.Scrubs.{each_row}
use Rattle.pef_model.proofs.call_laws.each_row_shows_inputs_alone.Goals as goal

pub returns : goal.returns
returns c = λ rows row regs table within long. each_row row regs (IsRow-within rows row table within) long
