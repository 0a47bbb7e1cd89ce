-- Which bytes are a script, and where and why others are none: one function gives the script or the first fault.
use Rattle.std.specs.Prelude.{◌≡◌, ℕ, ◌+◌, ◌==◌, nat_eq, ◌&&◌, ◌||◌, if◌then◌else◌, Bool, true, false, List, [], ◌∷◌, map, codes, Option, Some, None, option_map, IsSome, ◌↔◌, Result, Ok, Err}
use Rattle.std.specs.List.{slice_split, starts_with}
use Rattle.std.specs.Str.{bytes_eq}
use Rattle.pef_model.specs.declared.config.Config.{Config}
use Rattle.pef_model.specs.Plan.{default_config}
use Rattle.pef_model.specs.Script.{Script, IsScript}
use Rattle.pef_script.specs.declared.fault.Cause.{Cause}
use Rattle.pef_script.specs.declared.fault.Cause.TheVariants as cause
use Rattle.pef_script.specs.declared.fault.ScriptFault.{ScriptFault}
use Rattle.pef_script.specs.declared.fault.ReadEnd.{ReadEnd}
use Rattle.pef_script.specs.declared.fault.ReadEnd.TheVariants.{Fault, NoMemory}
use Rattle.pef_script.specs.Cause.{◌>>=◌}
use Rattle.pef_script.specs.Line.{ReadLine}
use Rattle.pef_script.specs.Token.{has_bytes, tokens_of}
use Rattle.pef_script.specs.Command.{line_in}
use Rattle.pef_script.specs.Setting.{ok_of, setting_in}

-- the lines of the parts between LFs: an empty last part is none
abbrev pub lines_in : List (List ℕ) → List (List ℕ)
lines_in [] = []
lines_in (last ∷ []) = if has_bytes last then last ∷ [] else []
lines_in (line ∷ next ∷ more) = line ∷ lines_in (next ∷ more)

-- the lines of a text: the last one may lack its LF
abbrev pub lines_of : List ℕ → List (List ℕ)
lines_of text = lines_in (slice_split (λ b. b == 10) text)

-- whether there is none
abbrev pub is_empty : {A : Type 0} → List A → Bool
is_empty [] = true
is_empty (x ∷ xs) = false

-- whether a line behind the first says nothing: it begins with #, or has no token
abbrev pub is_skipped : List ℕ → Bool
is_skipped line = starts_with nat_eq line (codes "#") || is_empty (tokens_of line)

-- a line's fault with the line's number
abbrev pub at_line : {A : Type 0} → ℕ → Result A Cause → Result A ScriptFault
at_line number (Ok x) = Ok x
at_line number (Err c) = Err (record { line = number; cause = c })

-- a script as it is read: its configuration, its command lines
pub record ReadScript : Type 0 where
  pub config : Config
  pub lines : List ReadLine

-- the configuration before `begin`, the number of the first line behind it, and the lines from there on
pub record Begun : Type 0 where
  pub config : Config
  pub number : ℕ
  pub rest : List (List ℕ)

-- whether a line's tokens are the one word `begin`
abbrev pub is_begin : List (List ℕ) → Bool
is_begin (token ∷ []) = bytes_eq token (codes "begin")
is_begin tokens = false

-- the configuration lines, the first of which has a number, where the lines from a place on may come
abbrev pub header_in : ℕ → ℕ → Config → List (List ℕ) → Result Begun ScriptFault
header_in number place config [] = Err (record { line = number; cause = cause.NoBegin })
header_in number place config (line ∷ more) =
    if is_skipped line then header_in (number + 1) place config more
    else if is_begin (tokens_of line) then Ok (record { config = config; number = number + 1; rest = more })
    else at_line number (setting_in place config (tokens_of line)) >>= (λ h. header_in (number + 1) h.place h.config more)

-- a line before others: its fault comes first
abbrev pub before : Result ReadLine ScriptFault → Result (List ReadLine) ScriptFault → Result (List ReadLine) ScriptFault
before (Ok line) (Ok lines) = Ok (line ∷ lines)
before (Ok line) (Err f) = Err f
before (Err f) lines = Err f

-- the command lines of so many CPUs, where the first line has a number
abbrev pub commands_in : ℕ → ℕ → List (List ℕ) → Result (List ReadLine) ScriptFault
commands_in cpus number [] = Ok []
commands_in cpus number (line ∷ more) =
    if is_skipped line then commands_in cpus (number + 1) more
    else before (at_line number (line_in cpus number (tokens_of line))) (commands_in cpus (number + 1) more)

-- whether a line's tokens are `pef` and `1`
abbrev pub is_first : List (List ℕ) → Bool
is_first (name ∷ version ∷ []) = bytes_eq name (codes "pef") && bytes_eq version (codes "1")
is_first tokens = false

-- the lines behind the first
abbrev pub behind_first : List (List ℕ) → Result (List (List ℕ)) ScriptFault
behind_first [] = Err (record { line = 1; cause = cause.Header })
behind_first (line ∷ more) = if is_first (tokens_of line) then Ok more else Err (record { line = 1; cause = cause.Header })

-- the script that a text is, or its first fault
unfoldable pub script_or_fault : List ℕ → Result ReadScript ScriptFault
script_or_fault text = do
  more ← behind_first (lines_of text)
  h ← header_in 2 0 default_config more
  lines ← commands_in h.config.cpus h.number h.rest
  Ok (record { config = h.config; lines = lines })

-- the fault of a result that is none
abbrev pub err_of : {A E : Type 0} → Result A E → Option E
err_of (Ok x) = None
err_of (Err e) = Some e

-- the script that a text is, if it is one
abbrev pub reads : List ℕ → Option ReadScript
reads text = ok_of (script_or_fault text)

-- the first faulty line of a text and its cause, if it is no script
abbrev pub line_fault : List ℕ → Option ScriptFault
line_fault text = err_of (script_or_fault text)

-- the script in which the left number of each pair counts
abbrev pub left_script : ReadScript → Script
left_script s = record { config = s.config; lines = map (λ (l : ReadLine). l.line) s.lines }

-- the script that a run of a text does, if the text is one
abbrev pub script_of : List ℕ → Option Script
script_of text = option_map left_script (reads text)

-- a text reads as a script
pub record Reads (text : List ℕ) (script : Script) : Type 0 where
  pub is : script_of text ≡ Some script

-- a text has a faulty line exactly where it reads as nothing
abbrev pub FaultWhereNothingReads : Type 0
FaultWhereNothingReads = (text : List ℕ) → IsSome (line_fault text) ↔ (reads text ≡ None)

-- what is read is a script
abbrev pub ReadsScripts : Type 0
ReadsScripts = (text : List ℕ) (script : Script) → Reads text script → IsScript script

-- a function of the code ended with the fault that the definition gives, unless memory ran out
abbrev pub FailsSo : {Y : Type 0} → ReadEnd → Result Y ScriptFault → Type 0
FailsSo NoMemory wanted = Unit {0}
FailsSo (Fault f) wanted = wanted ≡ Err f

-- a function of the code gave what the definition gives, seen so, unless memory ran out
abbrev pub Answers : {X Y : Type 0} → (X → Y) → Result X ReadEnd → Result Y ScriptFault → Type 0
Answers view (Ok x) wanted = wanted ≡ Ok (view x)
Answers view (Err e) wanted = FailsSo e wanted
