-- Command lines that are tried and counted.
use Rattle.std.specs.Prelude.{◌≡◌, ℕ, ◌+◌, ◌^◌, ◌≤◌, List, [], length, Result, Ok, Err}
use Rattle.pef_script.specs.declared.fault.ScriptFault.{ScriptFault}
use Rattle.pef_script.specs.Line.{ReadLine}
use Rattle.pef_script.specs.Script.{lines_of, commands_in}

-- how many lines there are, or the fault
abbrev pub count_of : Result (List ReadLine) ScriptFault → Result ℕ ScriptFault
count_of (Ok lines) = Ok (length lines)
count_of (Err f) = Err f

-- lines without a fault, and none where there is one
abbrev pub checked_lines : Result (List ReadLine) ScriptFault → List ReadLine
checked_lines (Ok lines) = lines
checked_lines (Err f) = []

-- a text whose first line has a number has so many command lines, on a machine with so many CPUs
abbrev pub IsChecked : ℕ → ℕ → ℕ → List ℕ → Type 0
IsChecked count cpus first text = (count_of (commands_in cpus first (lines_of text)) ≡ Ok count) × (count ≤ length text) × (first + length text ≤ 2 ^ 25)
