use Rattle.pef_script.proofs.ReadScripts.{script_is_script}
use Rattle.pef_script.proofs.reader.check_script.Goals as goal

-- what is read is a script
pub returns-clause-is : goal.returns-clause-is
returns-clause-is c = script_is_script c.args.text.now _ c.in_ok-script.ensures.script
