-- What is written for a command line, and for a script, is read as it; and what is read can be written.
use Rattle.std.specs.Prelude.{◌≡◌, ℕ, ◌<◌, ◌^◌, Bool, List, length, Some, Ok}
use Rattle.std.specs.List.{AllByRecursion}
use Rattle.pef_model.specs.declared.command.Cmd.{Cmd}
use Rattle.pef_model.specs.declared.command.Directive.TheVariants.{Once}
use Rattle.pef_model.specs.Plan.{IsWithin}
use Rattle.pef_model.specs.Script.{Script, IsScript}
use Rattle.pef_model.specs.Commands.{IsCommand}
use Rattle.pef_script.specs.Command.{line_in}
use Rattle.pef_script.specs.Line.{ReadLine}
use Rattle.pef_script.specs.Script.{ReadScript, lines_of, reads, left_script, Reads}
use Rattle.pef_script.specs.Written.{line_words, CanBeWritten, script_text, AreSecrets, IsWritable}

-- the words of a line, with numbers in decimal or hexadecimal, are read as that line on each machine that has its CPU
abbrev pub EachLineIsRead : Type 0
EachLineIsRead =
    (hex : Bool) (cpus : ℕ) (l : ReadLine) → l.line.cpu < cpus → l.line.cpu < 2 ^ 64 → CanBeWritten l.right l.line.directive →
    line_in cpus l.line.number (line_words hex l) ≡ Ok l

-- the text that is written for a script, with numbers in decimal or hexadecimal, reads as it
abbrev pub ReadsWhatIsWritten : Type 0
ReadsWhatIsWritten = (hex : Bool) (s : ReadScript) → IsWritable hex s → reads (script_text hex s) ≡ Some s

-- each text reads as at most one script
abbrev pub ReadsOne : Type 0
ReadsOne = (text : List ℕ) (s t : Script) → Reads text s → Reads text t → s ≡ t

-- what is read is a script, whose lines have numbers of the text's lines, from the third on, and directives that can be written
pub record IsReadFrom (text : List ℕ) (s : ReadScript) : Type 0 where
  pub script : IsScript (left_script s)
  pub secrets : AreSecrets s.config.key s.config.entropy
  pub numbers : AllByRecursion (λ (l : ReadLine). IsWithin 3 (length (lines_of text)) l.line.number) s.lines
  pub directives : AllByRecursion (λ (l : ReadLine). CanBeWritten l.right l.line.directive) s.lines

-- what is read can be written
abbrev pub ReadsWhatCanBeWritten : Type 0
ReadsWhatCanBeWritten = (text : List ℕ) (s : ReadScript) → reads text ≡ Some s → IsReadFrom text s

-- each command that a script can say is one that a history can have
abbrev pub WritableIsCommand : Type 0
WritableIsCommand = (right : ℕ) (cmd : Cmd) → CanBeWritten right (Once cmd) → IsCommand cmd
