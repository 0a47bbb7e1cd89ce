-- A command line as it is read: where a pair stands in it, the left number is in the line and the right one beside it.
use Rattle.std.specs.Prelude.{ℕ}
use Rattle.pef_model.specs.declared.command.Cmd.{Cmd}
use Rattle.pef_model.specs.declared.command.Cmd.TheVariants.{GLi}
use Rattle.pef_model.specs.declared.command.Directive.{Directive}
use Rattle.pef_model.specs.declared.command.Directive.TheVariants.{Once, GoAll}
use Rattle.pef_model.specs.Script.{Line}

-- a line with the left number of its pair, and the right number: the left one again where one number stands there, and 0 where no pair may stand
pub record ReadLine : Type 0 where
  pub line : Line
  pub right : ℕ

-- a command with this number in the place of the one that a pair gives
abbrev pub right_cmd : ℕ → Cmd → Cmd
right_cmd right (GLi rd value) = GLi rd right
right_cmd right cmd = cmd

-- what a line tells its CPU to do where the right number of a pair counts
abbrev pub right_directive : ℕ → Directive → Directive
right_directive right (Once cmd) = Once (right_cmd right cmd)
right_directive right GoAll = GoAll
