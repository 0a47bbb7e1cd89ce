use Rattle.pef_script.proofs.ScriptLines.{lines_first}
use Rattle.pef_script.proofs.reader.next_line.Goals as goal

pub returns-in-Some-clause-line : goal.returns-in-Some-clause-line
returns-in-Some-clause-line c = lines_first c.args.text.now c.in-Some.line.now c.in-Some.rest.now c.in-Some.ensures.parts
