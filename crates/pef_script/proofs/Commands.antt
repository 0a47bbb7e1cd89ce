-- What can be written is a command that a history can have.
use Rattle.std.proofs.Common.{ℕ, ◌^◌, ◌<◌, List, [], ◌∷◌, map, rules}
use Rattle.std.specs.List.{AllByRecursion}
use Rattle.pef_model.specs.declared.command.Cmd.{Cmd}
use Rattle.pef_model.specs.declared.command.Cmd.TheVariants.{UReturn}
use Rattle.pef_model.specs.declared.command.Directive.{Directive}
use Rattle.pef_model.specs.declared.command.Directive.TheVariants.{Once, GoAll}
use Rattle.pef_model.specs.Commands.{IsCommand}
use Rattle.pef_model.specs.Script.{Line, first_command}
use Rattle.pef_script.specs.Line.{ReadLine}
use Rattle.pef_script.specs.Written.{Fits, Number, CanBeWritten}

-- numbers that can be written have 64 bits
fit_below : (ns : List ℕ) → AllByRecursion Fits (map (λ n. Number n) ns) → AllByRecursion (λ (n : ℕ). n < 2 ^ 64) ns
fit_below [] fit = tt
fit_below (n ∷ ns) fit = (fit.0, fit_below ns fit.1)

-- the last line is for each command without outputs
pub command_is : (right : ℕ) (cmd : Cmd) → CanBeWritten right (Once cmd) → IsCommand cmd
command_is right (UReturn r0 r2 outs) can = let o = can.operands in (o.0, o.1.0, can.outputs, fit_below outs o.1.1)
command_is right cmd can = let o = can.operands in search rules

first_is : (right : ℕ) (d : Directive) → CanBeWritten right d → IsCommand (first_command d)
first_is right (Once cmd) can = command_is right cmd can
first_is right GoAll can = tt

-- and so are those of lines
pub each_command : (lines : List ReadLine) → AllByRecursion (λ (l : ReadLine). CanBeWritten l.right l.line.directive) lines →
    AllByRecursion (λ (line : Line). IsCommand (first_command line.directive)) (map (λ (l : ReadLine). l.line) lines)
each_command [] can = tt
each_command (l ∷ lines) can = (first_is l.right l.line.directive can.0, each_command lines can.1)
