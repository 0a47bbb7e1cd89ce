use Rattle.pef_script.proofs.Commands.{command_is}
use Rattle.pef_script.proofs.laws.writable_is_command.Goals as goal

pub returns : goal.returns
returns c = command_is
