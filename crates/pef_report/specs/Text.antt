-- The line of an entry, by what it says.
use Rattle.std.specs.Prelude.{ℕ, List, ◌++◌, codes, decimal}
use Rattle.pef_model.specs.declared.command.Cmd.{Cmd}
use Rattle.pef_model.specs.declared.entry.Answer.{Answer}
use Rattle.pef_model.specs.Report.{command_name, answer_text}

-- the script's line, the CPU, the command's name, the answer
abbrev pub line_text : ℕ → ℕ → Cmd → Answer → List ℕ
line_text line cpu cmd answer =
    decimal line ++ (codes " " ++ (decimal cpu ++ (codes " " ++ (command_name cmd ++ (codes " " ++ (answer_text answer ++ codes "\n"))))))
