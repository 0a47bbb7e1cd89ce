-- Laws of entropy words: each is given once, in its order, and no entry tells it; and runs in which words differ, computed.
use Rattle.std.specs.Prelude.{◌≡◌, ◌≢◌, ℕ, ◌+◌, ◌-◌, ◌<◌, Bool, ◌&&◌, List, [], ◌∷◌, drop, slice_get, Some}
use Rattle.std.specs.List.{count_by}
use Rattle.pef_model.specs.declared.config.Config.{Config}
use Rattle.pef_model.specs.declared.state.Run.{Run}
use Rattle.pef_model.specs.declared.hypercall.TheConstants.{H_RANDOM, H_PROD}
use Rattle.pef_model.specs.declared.command.Code.TheVariants.{HSuccess, HHardware}
use Rattle.pef_model.specs.declared.command.Cmd.{Cmd}
use Rattle.pef_model.specs.declared.command.Cmd.TheVariants.{GLi, GSt, GHcall, GIrq, Dump}
use Rattle.pef_model.specs.declared.entry.Answer.TheVariants.{Done, Val, Ret, Enter}
use Rattle.pef_model.specs.Plan.{Plan, plan_of}
use Rattle.pef_model.specs.Event.{Event}
use Rattle.pef_model.specs.Target.{Ask, touches_guest}
use Rattle.pef_model.specs.Guest.{Guest, is_drawing}
use Rattle.pef_model.specs.Deed.{deed_guest}
use Rattle.pef_model.specs.Script.{Line, Script}
use Rattle.pef_model.specs.Run.{run_of}
use Rattle.pef_model.specs.History.{guest_after, part_after, last_store, reg, IsLegal}
use Rattle.pef_model.specs.View.{view}
use Rattle.pef_model.specs.Alike.{IsAlike}
use Rattle.pef_model.specs.SearchLaw.{IsStep}
use Rattle.pef_model.specs.SeenReport.{DifferInSecrets}
use Rattle.pef_model.specs.RunLaw.{line_at, return_with, answers_on}
use Rattle.pef_model.specs.PairLaw.{secret_config}

-- whether an entry gives one of a guest's entropy words
abbrev pub draws : Plan → ℕ → Event → Bool
draws plan lpid e = touches_guest plan lpid e && is_drawing e.saw.before e.trace.answer e.trace.cmd

-- how many of a guest's words were given
abbrev pub given : Plan → ℕ → List Event → ℕ
given plan lpid past = count_by (draws plan lpid) past

-- the words that are left are those behind the ones that were given
pub record LeavesWords (plan : Plan) (past : List Event) (lpid : ℕ) : Type 0 where
  pub words : (guest_after plan lpid past).words ≡ drop (given plan lpid past) (plan.entropy lpid)
  pub count : (part_after plan past lpid).words ≡ plan.words lpid - given plan lpid past

abbrev pub WordsAreGivenInOrder : Type 0
WordsAreGivenInOrder = (plan : Plan) (past : List Event) (lpid : ℕ) → LeavesWords plan past lpid

-- a hypercall that has H_SUCCESS gives R4 of its vCPU the first word that was not given before, tells its number alone, and leaves every other register of R0 to R31 but R3
pub record GivesAWord (plan : Plan) (past : List Event) (e : Event) (run : Run) : Type 0 where
  pub word : slice_get (plan.entropy run.lpid) (given plan run.lpid past) ≡ Some (reg plan (e ∷ past) run.lpid run.vid 4)
  pub code : reg plan (e ∷ past) run.lpid run.vid 3 ≡ 0
  pub others : (r : ℕ) → r < 32 → r ≢ 3 → r ≢ 4 → reg plan (e ∷ past) run.lpid run.vid r ≡ reg plan past run.lpid run.vid r
  pub counted : given plan run.lpid (e ∷ past) ≡ given plan run.lpid past + 1
  pub shown : e.saw.shown ≡ H_RANDOM ∷ []
  pub bytes : e.bytes ≡ []

abbrev pub EachWordIsGivenOnce : Type 0
EachWordIsGivenOnce = (config : Config) (past : List Event) (e : Event) (run : Run) → IsLegal (plan_of config) (e ∷ past) → IsStep run GHcall (Ret HSuccess) e → GivesAWord (plan_of config) past e run

-- what a step does at a guest is the same whatever words are left: no entry tells one
abbrev pub NoWordInDeeds : Type 0
NoWordInDeeds =
    (plan : Plan) (g : Guest) (words : List ℕ) (found : ℕ → ℕ → ℕ) (any : Bool) (ask : Ask) (cmd : Cmd) →
    deed_guest plan (record g { words = words }) found any ask cmd ≡ deed_guest plan g found any ask cmd

-- a guest with one word asks for two
abbrev pub random_lines : List Line
random_lines =
    line_at 1 0 (return_with 0) ∷ line_at 2 0 (GLi 3 H_RANDOM) ∷ line_at 3 0 GHcall ∷ line_at 4 0 (Dump 3) ∷ line_at 5 0 (Dump 4)
    ∷ line_at 6 0 (GLi 3 H_RANDOM) ∷ line_at 7 0 GHcall ∷ line_at 8 0 (Dump 3) ∷ line_at 9 0 (Dump 4) ∷ []

abbrev pub AWordIsGiven : Type 0
AWordIsGiven = answers_on (secret_config 5) random_lines ≡ Enter ∷ Done ∷ Ret HSuccess ∷ Val 0 ∷ Val 5 ∷ Done ∷ Ret HHardware ∷ Val 39 ∷ Val 5 ∷ []

-- a guest stores its word in a page of its own, and leaves with an interrupt
abbrev pub kept_word : ℕ → Script
kept_word word = record {
  config = secret_config word;
  lines = line_at 1 0 (return_with 0) ∷ line_at 2 0 (GLi 3 H_RANDOM) ∷ line_at 3 0 GHcall ∷ line_at 4 0 (GSt 4 0x8) ∷ line_at 5 0 (Dump 4) ∷ line_at 6 0 GIrq ∷ [];
}

-- it leaves with H_PROD, whose input is then its word
abbrev pub told_word : ℕ → Script
told_word word = record {
  config = secret_config word;
  lines = line_at 1 0 (return_with 0) ∷ line_at 2 0 (GLi 3 H_RANDOM) ∷ line_at 3 0 GHcall ∷ line_at 4 0 (GLi 3 H_PROD) ∷ line_at 5 0 GHcall ∷ [];
}

-- words that differ stay in: the runs are alike and show the same; once the guest lets its word out they aren't alike, and the views differ
pub record WordsStayIn (one other : ℕ) : Type 0 where
  pub scripts : DifferInSecrets (kept_word one) (kept_word other)
  pub stored : last_store (plan_of (secret_config one)) (run_of (kept_word one)) 1 0x8 ≡ one
  pub other_stored : last_store (plan_of (secret_config other)) (run_of (kept_word other)) 1 0x8 ≡ other
  pub alike : IsAlike (secret_config one) (run_of (kept_word one)) (secret_config other) (run_of (kept_word other))
  pub seen : view (plan_of (secret_config one)) (run_of (kept_word one)) ≡ view (plan_of (secret_config other)) (run_of (kept_word other))
  pub told : DifferInSecrets (told_word one) (told_word other)
  pub told_apart : IsAlike (secret_config one) (run_of (told_word one)) (secret_config other) (run_of (told_word other)) → ⊥
  pub told_seen : view (plan_of (secret_config one)) (run_of (told_word one)) ≢ view (plan_of (secret_config other)) (run_of (told_word other))

abbrev pub AWordStaysIn : Type 0
AWordStaysIn = WordsStayIn 7 9
