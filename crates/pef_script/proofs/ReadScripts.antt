-- What is read is a script.
use Rattle.std.proofs.Common.{◌≡◌, ℕ, zero, suc, ◌+◌, ◌<◌, ◌≤◌, Bool, true, false, cond, List, [], ◌∷◌, length, map, drop, option_and_then, get_or, refl, ap, sym, subst, ◌∙◌, arith, Result, Ok, Err}
use Rattle.std.specs.Prelude.{nat_lt}
use Rattle.std.specs.List.{AllByRecursion}
use Rattle.std.proofs.lemmas.Bool.{ltb-true}
use Rattle.std.proofs.lemmas.Option.{cond_some, same_Some}
use Rattle.pef_model.specs.declared.config.Config.{Config}
use Rattle.pef_model.specs.Plan.{IsWithin, default_config}
use Rattle.pef_model.proofs.Lists.{both_give}
use Rattle.pef_model.specs.Words.{number_in}
use Rattle.pef_model.specs.Script.{Line, IsScript}
use Rattle.pef_script.specs.declared.fault.Cause.{Cause}
use Rattle.pef_script.specs.declared.fault.Cause.TheVariants as cause
use Rattle.pef_script.specs.declared.fault.ScriptFault.{ScriptFault}
use Rattle.pef_script.specs.declared.setting.Header.{Header}
use Rattle.pef_script.specs.Cause.{◌>>=◌, or_fault, first}
use Rattle.pef_script.specs.Command.{shape_of, counted, operands_in, line_in, below}
use Rattle.pef_script.specs.Line.{ReadLine}
use Rattle.pef_script.specs.declared.table.Operands.{Operands}
use Rattle.pef_script.specs.Table.{Shape, no_operands}
use Rattle.pef_script.specs.Setting.{setting_in}
use Rattle.pef_script.specs.Token.{tokens_of}
use Rattle.pef_script.specs.Script.{ReadScript, Begun, is_skipped, is_begin, at_line, header_in, before, commands_in, is_first, behind_first, lines_of, script_or_fault, reads, left_script, ReadsScripts}
use Rattle.pef_script.specs.Written.{CanBeWritten}
use Rattle.pef_script.specs.WrittenLaw.{ReadsOne, IsReadFrom, ReadsWhatCanBeWritten}
use Rattle.pef_script.proofs.ReadCommands.{read_can}
use Rattle.pef_script.proofs.Commands.{each_command}
use Rattle.pef_script.proofs.Results.{bind_ok, or_ok, ok_is, same_Ok, option_map_some}
use Rattle.pef_script.proofs.Ranges.{IsSettled, first_settled, setting_settles}

-- what has no fault at a line is the same without the line's number
at_line_ok : {A : Type 0} (number : ℕ) (r : Result A Cause) (x : A) → at_line number r ≡ Ok x → r ≡ Ok x
at_line_ok number (Ok y) x e = cc
at_line_ok number (Err c) x e = absurd (cc)

-- a configuration is in its ranges, and its commands stand behind a line, up to an end
record IsBegun (number end : ℕ) (begun : Begun) : Type 0 where
  place : ℕ
  settled : IsSettled place begun.config
  later : number < begun.number
  ends : begun.number + length begun.rest ≤ end

-- behind the next line they stand behind this one
sooner : (number end : ℕ) (begun : Begun) → IsBegun (number + 1) end begun → IsBegun number end begun
sooner number end begun is = record { place = is.place; settled = is.settled; later = omega (arith, is.later); ends = is.ends }

-- the configuration before `begin` is in its ranges
header_settles : (number place end : ℕ) (config : Config) (lines : List (List ℕ)) (begun : Begun) → IsSettled place config → number + length lines ≤ end → header_in number place config lines ≡ Ok begun →
    IsBegun number end begun
header_settles number place end config [] begun settled ends e = absurd (cc)
header_settles number place end config (line ∷ more) begun settled ends e =
    by_skip (λ at c s rest. sooner number end begun (header_settles (number + 1) at end c more begun s (omega (arith, ends)) rest)) (is_skipped line) (is_begin (tokens_of line)) refl refl
  where
    later : Result Header ScriptFault → Result Begun ScriptFault
    later r = r >>= (λ h. header_in (number + 1) h.place h.config more)

    now : Bool → Bool → Result Begun ScriptFault
    now skipped begins =
        cond skipped (header_in (number + 1) place config more)
        (cond begins (Ok (record { config = config; number = number + 1; rest = more })) (later (at_line number (setting_in place config (tokens_of line)))))

    by_skip : ((at : ℕ) (c : Config) → IsSettled at c → header_in (number + 1) at c more ≡ Ok begun → IsBegun number end begun) →
        (skipped begins : Bool) → is_skipped line ≡ skipped → is_begin (tokens_of line) ≡ begins → IsBegun number end begun
    by_skip others true begins one two =
        let rest : now true begins ≡ Ok begun = sym (ap (λ (b : Bool). now b (is_begin (tokens_of line))) one ∙ ap (now true) two) ∙ e in
        others place config settled rest
    by_skip others false true one two =
        let rest : now false true ≡ Ok begun = sym (ap (λ (b : Bool). now b (is_begin (tokens_of line))) one ∙ ap (now false) two) ∙ e in
        subst (IsBegun number end) (same_Ok _ _ rest) (record { place = place; settled = settled; later = omega arith; ends = omega (arith, ends) })
    by_skip others false false one two =
        let rest : now false false ≡ Ok begun = sym (ap (λ (b : Bool). now b (is_begin (tokens_of line))) one ∙ ap (now false) two) ∙ e in
        bind_ok (at_line number (setting_in place config (tokens_of line))) _ begun rest (λ h set more_lines.
        others h.place h.config (setting_settles place config (tokens_of line) h settled (at_line_ok number _ h set)) more_lines)

-- the numbers of lines rise from one on
abbrev Rise : ℕ → List ReadLine → Type 0
Rise least [] = Unit {0}
Rise least (line ∷ more) = (least ≤ line.line.number) × Rise (line.line.number + 1) more

-- or from a lower one
rise_from : (least higher : ℕ) (lines : List ReadLine) → least ≤ higher → Rise higher lines → Rise least lines
rise_from least higher [] h rise = tt
rise_from least higher (line ∷ more) h rise = (omega (arith, h, rise.0), rise.1)

-- lines that are read rise below an end, and each has one of the CPUs and can be written
record AreRead (cpus number end : ℕ) (lines : List ReadLine) : Type 0 where
  rise : Rise number lines
  ends : AllByRecursion (λ (line : ReadLine). line.line.number < end) lines
  can : AllByRecursion (λ (line : ReadLine). CanBeWritten line.right line.line.directive) lines
  cpus_below : AllByRecursion (λ (line : Line). line.cpu < cpus) (map (λ (line : ReadLine). line.line) lines)

-- a line that is read has its number and one of the CPUs, and can be written
record IsLine (cpus number : ℕ) (line : ReadLine) : Type 0 where
  number_is : line.line.number ≡ number
  cpu_below : line.line.cpu < cpus
  can : CanBeWritten line.right line.line.directive

line_is : (cpus number : ℕ) (tokens : List (List ℕ)) (line : ReadLine) → line_in cpus number tokens ≡ Ok line → IsLine cpus number line
unfolding line_in
line_is cpus number tokens line e =
    bind_ok (or_fault cause.Number (option_and_then number_in (first tokens))) _ line e (λ cpu is e1.
    bind_ok (or_fault cause.Word (shape_of (drop 1 tokens))) _ line e1 (λ (s : Shape) named e2.
    bind_ok (or_fault cause.Count (counted s (length (drop 2 tokens)))) _ line e2 (λ count fits e3.
    bind_ok (or_fault cause.Number (operands_in 0 s.kinds no_operands (drop 2 tokens))) _ line e3 (λ (o : Operands) given e4.
    bind_ok (or_fault cause.Range (below cpus cpu)) _ line e4 (λ (own : ℕ) is last.
    let found = cond_some (nat_lt cpu cpus) cpu own (or_ok cause.Range _ own is) in
    let below : cpu < cpus = ltb-true cpu cpus found.0 in
    let same : record { line = record { number = number; cpu = own; directive = s.make o }; right = o.right } ≡ line = same_Ok _ _ last in
    subst (IsLine cpus number) same (record { number_is = refl; cpu_below = omega (arith, below, found.1); can = read_can (drop 1 tokens) (drop 2 tokens) s o (or_ok cause.Word _ s named) (or_ok cause.Number _ o given) }))))))

-- a line that is read, before others that are
before_are : (cpus number end : ℕ) (first : Result ReadLine ScriptFault) (rest : Result (List ReadLine) ScriptFault) (lines : List ReadLine) → number < end →
    ((line : ReadLine) → first ≡ Ok line → IsLine cpus number line) → ((more : List ReadLine) → rest ≡ Ok more → AreRead cpus (number + 1) end more) →
    before first rest ≡ Ok lines → AreRead cpus number end lines
before_are cpus number end (Ok line) (Ok more) lines inside one others e =
    let is = one line refl in
    let are = others more refl in
    subst (AreRead cpus number end) (same_Ok _ _ e) (record {
      rise = (omega (arith, is.number_is), rise_from (line.line.number + 1) (number + 1) more (omega (arith, is.number_is)) are.rise);
      ends = (omega (arith, is.number_is, inside), are.ends);
      can = (is.can, are.can);
      cpus_below = (is.cpu_below, are.cpus_below);
    })
before_are cpus number end (Ok line) (Err f) lines inside one others e = absurd (cc)
before_are cpus number end (Err f) rest lines inside one others e = absurd (cc)

-- the command lines that are read
commands_are : (cpus number end : ℕ) (texts : List (List ℕ)) (lines : List ReadLine) → number + length texts ≤ end → commands_in cpus number texts ≡ Ok lines → AreRead cpus number end lines
commands_are cpus number end [] lines inside e = subst (AreRead cpus number end) (same_Ok _ _ e) (record { rise = tt; ends = tt; can = tt; cpus_below = tt })
commands_are cpus number end (text ∷ more) lines inside e = by_skip (λ others found. commands_are cpus (number + 1) end more others (omega (arith, inside)) found) (is_skipped text) refl
  where
    rest : Result (List ReadLine) ScriptFault
    rest = commands_in cpus (number + 1) more

    now : Bool → Result (List ReadLine) ScriptFault
    now skipped = cond skipped rest (before (at_line number (line_in cpus number (tokens_of text))) rest)

    by_skip : ((others : List ReadLine) → commands_in cpus (number + 1) more ≡ Ok others → AreRead cpus (number + 1) end others) → (skipped : Bool) → is_skipped text ≡ skipped → AreRead cpus number end lines
    by_skip others true is =
        let later : now true ≡ Ok lines = sym (ap now is) ∙ e in
        let are = others lines later in
        record { rise = rise_from number (number + 1) lines (omega arith) are.rise; ends = are.ends; can = are.can; cpus_below = are.cpus_below }
    by_skip others false is =
        let both : now false ≡ Ok lines = sym (ap now is) ∙ e in
        before_are cpus number end (at_line number (line_in cpus number (tokens_of text))) rest lines (omega (arith, inside))
        (λ line found. line_is cpus number (tokens_of text) line (at_line_ok number _ line found)) others both

-- numbers that rise do so at each place
rises_at : (least : ℕ) (lines : List ReadLine) (k : ℕ) → Rise least lines → k + 1 < length (map (λ (line : Line). line.number) (map (λ (line : ReadLine). line.line) lines)) →
    get_or (map (λ (line : Line). line.number) (map (λ (line : ReadLine). line.line) lines)) k 0 < get_or (map (λ (line : Line). line.number) (map (λ (line : ReadLine). line.line) lines)) (k + 1) 0
rises_at least [] k rise h = absurd (omega arith)
rises_at least (line ∷ []) k rise h = absurd (omega arith)
rises_at least (line ∷ next ∷ more) zero rise h = omega (arith, rise.1.0)
rises_at least (line ∷ next ∷ more) (suc k) rise h =
    let one_more : suc k + 1 ≡ suc (k + 1) = omega arith in
    rw one_more (rises_at (line.line.number + 1) (next ∷ more) k rise.1 (omega (arith, h)))

-- and are above what they rise from
all_above : (least : ℕ) (lines : List ReadLine) → Rise least lines → AllByRecursion (λ (line : ReadLine). least ≤ line.line.number) lines
all_above least [] rise = tt
all_above least (line ∷ more) rise = (rise.0, all_above least more (rise_from least (line.line.number + 1) more (omega (arith, rise.0)) rise.1))

first_taken : (lines more : List (List ℕ)) → behind_first lines ≡ Ok more → length lines ≡ length more + 1
first_taken [] more e = absurd (cc)
first_taken (line ∷ rest) more e = by_test (is_first (tokens_of line)) refl where
  now : Bool → Result (List (List ℕ)) ScriptFault
  now b = cond b (Ok rest) (Err (record { line = 1; cause = cause.Header }))

  by_test : (b : Bool) → is_first (tokens_of line) ≡ b → length (line ∷ rest) ≡ length more + 1
  by_test true is =
      let taken : now true ≡ Ok more = sym (ap now is) ∙ e in
      let same : rest ≡ more = same_Ok rest more taken in
      omega (arith, ap (λ (xs : List (List ℕ)). length xs) same)
  by_test false is =
      let none : now false ≡ Ok more = sym (ap now is) ∙ e in
      absurd (cc)

-- what is read is a script that can be written
pub is_read_from : (text : List ℕ) (s : ReadScript) → script_or_fault text ≡ Ok s → IsReadFrom text s
unfolding script_or_fault
is_read_from text s e =
    bind_ok (behind_first (lines_of text)) _ s e (λ (more : List (List ℕ)) start e1.
    bind_ok (header_in 2 0 default_config more) _ s e1 (λ (h : Begun) header e2.
    bind_ok (commands_in h.config.cpus h.number h.rest) _ s e2 (λ (lines : List ReadLine) read last.
    let taken = first_taken (lines_of text) more start in
    let begun = header_settles 2 0 (length (lines_of text) + 1) default_config more h first_settled (omega (arith, taken)) header in
    let are = commands_are h.config.cpus h.number (length (lines_of text) + 1) h.rest lines begun.ends read in
    subst (IsReadFrom text) (same_Ok _ _ last)
    (record {
      script = record { config = begun.settled.range; rises = λ k inside. rises_at h.number lines k are.rise inside; cpus = are.cpus_below; commands = each_command lines are.can };
      secrets = begun.settled.secrets;
      numbers =
          both_give (λ (l : ReadLine). h.number ≤ l.line.number) (λ (l : ReadLine). l.line.number < length (lines_of text) + 1) (λ (l : ReadLine). IsWithin 3 (length (lines_of text)) l.line.number) lines
          (λ l low high. (omega (arith, low, begun.later), omega (arith, high))) (all_above h.number lines are.rise) are.ends;
      directives = are.can;
    }))))

-- so it is a script
pub script_is_script : (text : List ℕ) (s : ReadScript) → script_or_fault text ≡ Ok s → IsScript (left_script s)
script_is_script text s e = (is_read_from text s e).script

pub reads_scripts : ReadsScripts
reads_scripts text script read =
    option_map_some left_script (reads text) script read.is (λ s is left.
    subst IsScript left (script_is_script text s (ok_is (script_or_fault text) s is)))

pub reads_what_can_be_written : ReadsWhatCanBeWritten
reads_what_can_be_written text s read = is_read_from text s (ok_is (script_or_fault text) s read)

pub reads_one : ReadsOne
reads_one text s t one two = same_Some s t (sym one.is ∙ two.is)
