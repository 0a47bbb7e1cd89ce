-- What the program says on standard error of what a top call came to.
use Rattle.std.specs.Prelude.{◌==◌, if◌then◌else◌, ℕ, List, [], ◌++◌, codes, decimal}
use Rattle.pef_top.specs.declared.outcome.RunOutcome.{RunOutcome}

-- at which line an input is no script
abbrev pub script_text : ℕ → List ℕ
script_text line = codes "pef: script fault at line " ++ (decimal line ++ codes "\n")

-- which limit is passed, by what stood and what is allowed
abbrev pub limit_text : RunOutcome → List ℕ
limit_text outcome = codes "pef: limit " ++ (decimal outcome.line ++ (codes ": " ++ (decimal outcome.left ++ (codes " over " ++ (decimal outcome.right ++ codes "\n")))))

-- the line of each status from 1 to 6; none at 0
abbrev pub fault_text : RunOutcome → List ℕ
fault_text outcome =
    if outcome.status == 1 then script_text outcome.line
    else if outcome.status == 2 then codes "pef: words\n"
    else if outcome.status == 3 then codes "pef: read fault\n"
    else if outcome.status == 4 then codes "pef: write fault\n"
    else if outcome.status == 5 then codes "pef: no memory\n"
    else if outcome.status == 6 then limit_text outcome
    else []
