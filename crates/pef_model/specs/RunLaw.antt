-- Laws of runs and reports.
use Rattle.std.specs.Prelude.{◌≡◌, ℕ, ◌+◌, ◌<◌, true, List, [], ◌∷◌, ◌++◌, length, reverse, replicate, map, codes, Option, Some, None}
use Rattle.std.specs.List.{AllByRecursion}
use Rattle.pef_model.specs.declared.config.Config.{Config}
use Rattle.pef_model.specs.declared.command.Directive.TheVariants.{Once, GoAll}
use Rattle.pef_model.specs.declared.command.Cmd.{Cmd}
use Rattle.pef_model.specs.declared.command.Code.TheVariants.{USuccess, UP2}
use Rattle.pef_model.specs.declared.command.Cmd.TheVariants.{HLd, HSt, UPagein, UPageout, UReturn, GLi, GLd, GSt, GIrq, Go}
use Rattle.pef_model.specs.declared.entry.Exit.TheVariants.{Irq}
use Rattle.pef_model.specs.declared.entry.Answer.{Answer}
use Rattle.pef_model.specs.declared.entry.Answer.TheVariants.{Done, Val, Ret, Step, Enter, Exit}
use Rattle.pef_model.specs.Plan.{Plan, plan_of, default_config}
use Rattle.pef_model.specs.Event.{Event}
use Rattle.pef_model.specs.Script.{Line, Script, IsScript}
use Rattle.pef_model.specs.History.{IsLegal}
use Rattle.pef_model.specs.Run.{NextStep, next_of, IsPart, IsRun, ends_go, GoesOn, entry_after, with_gos, most_gos, run_after, run_of}
use Rattle.pef_model.specs.Report.{report}

-- a fact holds of a value, and of no other
pub record IsOnly {A : Type 0} (P : A → Type 0) (x : A) : Type 0 where
  pub holds : P x
  pub only : (y : A) → P y → y ≡ x

-- each script has exactly one run
abbrev pub OneRun : Type 0
OneRun = (script : Script) → IsScript script → IsOnly (IsRun script) (run_of script)

-- sizes that all differ: two CPUs, four pages, one secure frame
abbrev pub small_config : Config
small_config = record default_config { shift = 8; normal = 5; secure = 1; cpus = 2; guests = 3; vcpus = 2; pages = 4; born = 1 ∷ [] }

abbrev pub line_at : ℕ → ℕ → Cmd → Line
line_at number cpu cmd = record { number = number; cpu = cpu; directive = Once cmd }

abbrev pub go_all_at : ℕ → ℕ → Line
go_all_at number cpu = record { number = number; cpu = cpu; directive = GoAll }

abbrev pub return_with : ℕ → Cmd
return_with r0 = UReturn r0 0 (replicate 9 0)

-- a secure guest stores 7 and loads 7
abbrev pub store_script : Script
store_script = record {
  config = record default_config { born = 1 ∷ [] };
  lines = line_at 4 0 (return_with 0) ∷ line_at 5 0 (GLi 20 7) ∷ line_at 6 0 (GSt 20 0x0) ∷ line_at 7 0 (GLd 6 0x0) ∷ [];
}

-- what it does is reported
abbrev pub StoreAndLoad : Type 0
StoreAndLoad =
    report (plan_of store_script.config) (run_of store_script)
    ≡ codes "4 0 u.return enter\n5 0 g.li done\n6 0 g.st done\n7 0 g.ld val 0x7\nfree 15\nend\n"

-- CPU 0 takes the one vCPU, CPU 1 finds it running; accesses unaligned, past the last page, to the one page with a frame, and to one for which none is free
abbrev pub small_script : Script
small_script = record {
  config = small_config;
  lines =
      line_at 1 1 (GLi 0 0) ∷ line_at 2 0 (return_with 5) ∷ line_at 3 1 (return_with 0) ∷ line_at 4 0 (return_with 6) ∷ line_at 5 0 (GLd 1 0x400)
      ∷ line_at 6 0 (GLd 1 0x3fc) ∷ line_at 7 0 (GSt 0 0x3f8) ∷ line_at 8 0 (GLd 1 0x3f8) ∷ line_at 9 0 (GLd 1 0x0) ∷ line_at 10 0 (GSt 3 0x300)
      ∷ line_at 11 0 (GLd 31 0x300) ∷ [];
}

-- accesses, done and refused, on a machine with one secure frame
abbrev pub OneFrame : Type 0
OneFrame =
    report (plan_of small_config) (run_of small_script)
    ≡ codes "1 1 g.li context\n2 0 u.return enter\n3 1 u.return ret U_INVALID\n4 0 u.return ret U_INVALID\n5 0 g.ld hole\n6 0 g.ld hole\n7 0 g.st done\n8 0 g.ld val 0x6\n9 0 g.ld hole\n10 0 g.st done\n11 0 g.ld val 0x9\nfree 0\nend\n"

-- a machine in which no guest is born secure has no vCPU to return to
abbrev pub NoneIsBorn : Type 0
NoneIsBorn =
    report (plan_of default_config) (run_of (record { config = default_config; lines = line_at 1 0 (return_with 0) ∷ [] }))
    ≡ codes "1 0 u.return ret U_INVALID\nfree 16\nend\n"

-- places count each CPU's entries from 0
abbrev pub MarksOfOneFrame : Type 0
MarksOfOneFrame = map (λ (e : Event). e.trace.place) (run_of small_script) ≡ 8 ∷ 7 ∷ 6 ∷ 5 ∷ 4 ∷ 3 ∷ 2 ∷ 1 ∷ 1 ∷ 0 ∷ 0 ∷ []

-- stamps count all entries from 1
abbrev pub StampsOfOneFrame : Type 0
StampsOfOneFrame = map (λ (e : Event). e.trace.stamp) (run_of small_script) ≡ 11 ∷ 10 ∷ 9 ∷ 8 ∷ 7 ∷ 6 ∷ 5 ∷ 4 ∷ 3 ∷ 2 ∷ 1 ∷ []

-- the guest stores a value and leaves; the hypervisor pages its page out into normal frame 1
abbrev pub page_out_script : Config → ℕ → Script
page_out_script config value = record {
  config = config;
  lines =
      line_at 1 0 (return_with 0) ∷ line_at 2 0 (GLi 20 value) ∷ line_at 3 0 (GSt 20 0x8) ∷ line_at 4 0 GIrq ∷ line_at 5 0 (UPageout 1 0x100 0x0 0 8) ∷ go_all_at 6 0 ∷ [];
}

-- what its entries answer, the newest first: go* gives two
abbrev pub GoesOut : Type 0
GoesOut = map (λ (e : Event). e.trace.answer) (run_of (page_out_script small_config 7)) ≡ Ret USuccess ∷ Step ∷ Step ∷ Exit Irq ∷ Done ∷ Done ∷ Enter ∷ []

-- a page is moved inward from a normal frame, in two lines
abbrev pub page_in_at : ℕ → ℕ → List Line
page_in_at number src = line_at number 0 (UPagein 1 src 0x0 0 8) ∷ go_all_at (number + 1) 0 ∷ []

-- a page is moved outward into a normal frame, in two lines
abbrev pub page_out_at : ℕ → ℕ → List Line
page_out_at number dest = line_at number 0 (UPageout 1 dest 0x0 0 8) ∷ go_all_at (number + 1) 0 ∷ []

-- the guest stores 7 and leaves
abbrev pub store_lines : List Line
store_lines = line_at 1 0 (return_with 0) ∷ line_at 2 0 (GLi 20 7) ∷ line_at 3 0 (GSt 20 0x0) ∷ line_at 4 0 GIrq ∷ []

-- what the entries of lines answer on a machine, the oldest first
abbrev pub answers_on : Config → List Line → List Answer
answers_on config lines = reverse (map (λ (e : Event). e.trace.answer) (run_of (record { config = config; lines = lines })))

-- and under a vault
abbrev pub answers_of : List Line → List Answer
answers_of lines = answers_on (record small_config { vault = true }) lines

-- the answers of a page's move that is accepted, and of one inward that is refused
abbrev pub moved : List Answer
moved = Step ∷ Step ∷ Ret USuccess ∷ []

abbrev pub refused : List Answer
refused = Step ∷ Step ∷ Ret UP2 ∷ []

abbrev pub stored : List Answer
stored = Enter ∷ Done ∷ Done ∷ Exit Irq ∷ []

-- a page goes out and comes in, and the guest loads 7
abbrev pub OutAndIn : Type 0
OutAndIn =
    answers_of (store_lines ++ (page_out_at 5 0x0 ++ (page_in_at 7 0x0 ++ (line_at 9 0 (return_with 0) ∷ line_at 10 0 (GLd 6 0x0) ∷ []))))
    ≡ stored ++ (moved ++ (moved ++ (Enter ∷ Val 7 ∷ [])))

-- a page goes out, comes in and goes out again: what lies in the frames is its tag, the guest's number, its generation, the page's number and its version, and then zeros
abbrev pub TagIsSeen : Type 0
TagIsSeen =
    answers_of
    (line_at 1 0 (return_with 0) ∷ line_at 2 0 (GLi 20 7) ∷ line_at 3 0 (GSt 20 0x300) ∷ line_at 4 0 GIrq ∷ line_at 5 0 (UPageout 1 0x200 0x300 0 8) ∷ go_all_at 6 0
    ∷ line_at 7 0 (UPagein 1 0x200 0x300 0 8) ∷ go_all_at 8 0 ∷ line_at 9 0 (UPageout 1 0x400 0x300 0 8) ∷ go_all_at 10 0
    ∷ line_at 11 0 (HLd 0x400) ∷ line_at 12 0 (HLd 0x408) ∷ line_at 13 0 (HLd 0x410) ∷ line_at 14 0 (HLd 0x418) ∷ line_at 15 0 (HLd 0x420) ∷ line_at 16 0 (HLd 0x218) ∷ [])
    ≡ stored ++ (moved ++ (moved ++ (moved ++ (Val 1 ∷ Val 1 ∷ Val 3 ∷ Val 2 ∷ Val 0 ∷ Val 1 ∷ []))))

-- a page goes out twice: its older image is refused, and its newer one comes in
abbrev pub AnOlderImage : Type 0
AnOlderImage =
    answers_of (store_lines ++ (page_out_at 5 0x0 ++ (page_in_at 7 0x0 ++ (page_out_at 9 0x100 ++ (page_in_at 11 0x0 ++ page_in_at 13 0x100)))))
    ≡ stored ++ (moved ++ (moved ++ (moved ++ (refused ++ moved))))

-- a normal frame that is changed after the copy changes nothing: what another CPU copied is compared, and comes in
abbrev pub ChangeAfterCopy : Type 0
ChangeAfterCopy =
    answers_of (store_lines ++ (page_out_at 5 0x0 ++ (line_at 7 1 (UPagein 1 0x0 0x0 0 8) ∷ line_at 8 1 Go ∷ line_at 9 0 (HSt 0x0 1) ∷ line_at 10 1 Go ∷ line_at 11 0 (return_with 0) ∷ line_at 12 0 (GLd 6 0x0) ∷ [])))
    ≡ stored ++ (moved ++ (Step ∷ Step ∷ Done ∷ Ret USuccess ∷ Enter ∷ Val 7 ∷ []))

-- a normal frame that is changed before the copy is refused, and comes in once the change is undone
abbrev pub OneBitBeforeCopy : Type 0
OneBitBeforeCopy =
    answers_of (store_lines ++ (page_out_at 5 0x0 ++ (line_at 7 0 (HLd 0x0) ∷ line_at 8 0 (HSt 0x0 0) ∷ page_in_at 9 0x0) ++ (line_at 11 0 (HSt 0x0 1) ∷ page_in_at 12 0x0) ++ (line_at 14 0 (return_with 0) ∷ line_at 15 0 (GLd 6 0x0) ∷ [])))
    ≡ stored ++ (moved ++ (Val 1 ∷ Done ∷ refused) ++ (Done ∷ moved) ++ (Enter ∷ Val 7 ∷ []))

-- go* ends: its newest entry is one with which it ends, it ended with none before, and it made fewer than the most
abbrev pub EachGoAllEnds : Type 0
EachGoAllEnds =
    (plan : Plan) (past : List Event) (line : Line) → IsLegal plan past →
    (earlier : List Event) × (e : Event) × (with_gos plan (most_gos plan) past line ≡ e ∷ (earlier ++ past)) × (ends_go e ≡ true) × AllByRecursion GoesOn earlier × (length earlier < most_gos plan)

-- the guest stores and leaves, and CPU 0 begins to page its page out
abbrev pub begin_lines : List Line
begin_lines = line_at 1 0 (return_with 0) ∷ line_at 2 0 (GSt 20 0x0) ∷ line_at 3 0 GIrq ∷ line_at 4 0 (UPageout 1 0x100 0x0 0 8) ∷ []

-- CPU 0 goes on by go*, and CPU 1 loads
abbrev pub two_cpu_script : Script
two_cpu_script = record { config = small_config; lines = begin_lines ++ (go_all_at 5 0 ∷ line_at 6 1 (HLd 0x100) ∷ line_at 7 0 (HLd 0x0) ∷ []) }

-- its entries up to the end of go*, where the load of CPU 1 comes between the two that go* gives
abbrev pub two_cpu_part : List Event
two_cpu_part =
    let plan = plan_of small_config in
    let begun = run_after plan (reverse begin_lines) in
    let copied = entry_after plan begun (go_all_at 5 0) Go ∷ begun in
    let loaded = entry_after plan copied (line_at 6 1 (HLd 0x100)) (HLd 0x100) ∷ copied in
    entry_after plan loaded (go_all_at 5 0) Go ∷ loaded

-- what a script gives a CPU after a history, and after each older part of it
abbrev pub nexts_of : Script → ℕ → List Event → List (Option NextStep)
nexts_of script n [] = next_of script [] n ∷ []
nexts_of script n (e ∷ past) = next_of script (e ∷ past) n ∷ nexts_of script n past

abbrev pub some_next : ℕ → Cmd → Option NextStep
some_next line cmd = Some (record { line = line; cmd = cmd })

-- such a part of a schedule, and what is next on CPU 0, which comes back to its go*, and on CPU 1, which has one line
pub record NextsOfTwoCpus : Type 0 where
  pub part : IsPart two_cpu_script two_cpu_part
  pub first :
      nexts_of two_cpu_script 0 two_cpu_part
      ≡ some_next 7 (HLd 0x0) ∷ some_next 5 Go ∷ some_next 5 Go ∷ some_next 5 Go ∷ some_next 4 (UPageout 1 0x100 0x0 0 8) ∷ some_next 3 GIrq ∷ some_next 2 (GSt 20 0x0) ∷ some_next 1 (return_with 0) ∷ []
  pub second :
      let load = some_next 6 (HLd 0x100) in
      nexts_of two_cpu_script 1 two_cpu_part ≡ None ∷ None ∷ load ∷ load ∷ load ∷ load ∷ load ∷ load ∷ []
