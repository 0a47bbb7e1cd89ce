-- What a script is: a configuration, and command lines.
use Rattle.std.specs.Prelude.{ℕ, ◌<◌, List, map}
use Rattle.std.specs.List.{AllByRecursion}
use Rattle.std.specs.List.Sorted.{IsStrictlyIncreasing}
use Rattle.pef_model.specs.declared.config.Config.{Config}
use Rattle.pef_model.specs.declared.command.Directive.{Directive}
use Rattle.pef_model.specs.declared.command.Directive.TheVariants.{Once, GoAll}
use Rattle.pef_model.specs.declared.command.Cmd.{Cmd}
use Rattle.pef_model.specs.declared.command.Cmd.TheVariants.{Go}
use Rattle.pef_model.specs.Commands.{IsCommand}
use Rattle.pef_model.specs.Plan.{IsInRange}

-- a command line: its number from 1, its CPU, what it tells the CPU to do
pub record Line : Type 0 where
  pub number : ℕ
  pub cpu : ℕ
  pub directive : Directive

-- a script: a configuration, and command lines
pub record Script : Type 0 where
  pub config : Config
  pub lines : List Line

-- the first command that a directive gives
abbrev pub first_command : Directive → Cmd
first_command (Once cmd) = cmd
first_command GoAll = Go

-- a script's configuration is in its ranges, its line numbers rise strictly, each line's CPU is one of the machine's, and the numbers of its command are in their ranges
pub record IsScript (script : Script) : Type 0 where
  pub config : IsInRange script.config
  pub rises : IsStrictlyIncreasing (map (λ (line : Line). line.number) script.lines)
  pub cpus : AllByRecursion (λ (line : Line). line.cpu < script.config.cpus) script.lines
  pub commands : AllByRecursion (λ (line : Line). IsCommand (first_command line.directive)) script.lines
