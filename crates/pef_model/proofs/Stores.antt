-- A guest's memory holds what was last stored.
use Rattle.std.proofs.Common.{◌≡◌, ℕ, List, [], ◌∷◌, ◌++◌, Bool, true, false, refl, ap, sym, ◌∙◌, ◌==◌, ◌&&◌, if◌then◌else◌, Option, Some, None}
use Rattle.std.proofs.lemmas.List.{append-nil}
use Rattle.std.specs.Prelude.{unwrap_or}
use Rattle.pef_model.specs.declared.state.Run.{Run}
use Rattle.pef_model.specs.declared.state.Ctx.{Ctx}
use Rattle.pef_model.specs.declared.state.Ctx.TheVariants as ctx
use Rattle.pef_model.specs.declared.command.Cmd.{Cmd}
use Rattle.pef_model.specs.declared.command.Cmd.TheVariants.{GSt}
use Rattle.pef_model.specs.declared.entry.Answer.{Answer}
use Rattle.pef_model.specs.declared.entry.Answer.TheVariants.{Done}
use Rattle.pef_model.specs.Plan.{Plan}
use Rattle.pef_model.specs.Event.{Event, newest}
use Rattle.pef_model.specs.Target.{is_guest, target_in, touches_guest}
use Rattle.pef_model.specs.Guest.{Guest, start_guest, next_guest, stored_by, stored_in}
use Rattle.pef_model.specs.History.{guest_after, reg}
use Rattle.pef_model.specs.SearchLaw.{step_decides, decides_doubleword, LastStoreIsNewest, HasNoStore, IsStep, LastStoreIsStored, LastStoreIsZero}
use Rattle.pef_model.proofs.Folds.{either_same, same_test, counts, skips}

-- the search decides what the entry gives
decided_alike : (plan : Plan) (past : List Event) (lpid gpa l : ℕ) (c : Ctx) (cmd : Cmd) (a : Answer) (frame : Option ℕ) (bytes : List ℕ) →
    (if is_guest lpid (target_in plan c l cmd) then stored_in c plan (guest_after plan lpid past) cmd a frame bytes gpa else None) ≡ step_decides plan lpid gpa past c cmd a frame bytes
decided_alike plan past lpid gpa l (ctx.Guest run) (GSt rs at) Done None bytes = both (run.lpid == lpid) (at == gpa) where
  both : (a b : Bool) → (if a then (if b then Some (reg plan past lpid run.vid rs) else None) else None) ≡ (if a && b then Some (reg plan past lpid run.vid rs) else None)
  both true b = refl
  both false b = refl
decided_alike plan past lpid gpa l c cmd a frame bytes = either_same (is_guest lpid (target_in plan c l cmd)) None

-- the content of a page is what the newest entry says that decided it
content_newest : (plan : Plan) (lpid gpa : ℕ) (past : List Event) → (guest_after plan lpid past).content gpa ≡ newest (decides_doubleword plan lpid gpa) 0 past
content_newest plan lpid gpa [] = refl
content_newest plan lpid gpa (e ∷ past) = by_test (content_newest plan lpid gpa past) (touches_guest plan lpid e) refl where
  before : ℕ
  before = newest (decides_doubleword plan lpid gpa) 0 past

  stored : Option ℕ
  stored = stored_by plan (guest_after plan lpid past) e gpa

  alike : (if touches_guest plan lpid e then stored else None) ≡ decides_doubleword plan lpid gpa past e
  alike = decided_alike plan past lpid gpa e.saw.lpid e.saw.before e.trace.cmd e.trace.answer e.saw.frame e.bytes

  by_test : (guest_after plan lpid past).content gpa ≡ before → (b : Bool) → touches_guest plan lpid e ≡ b →
      (guest_after plan lpid (e ∷ past)).content gpa ≡ newest (decides_doubleword plan lpid gpa) 0 (e ∷ past)
  by_test ih true t =
      ap (λ (g : Guest). g.content gpa) (counts (touches_guest plan lpid) (next_guest plan) (start_guest plan lpid) e past t)
      ∙ ap (unwrap_or stored) ih
      ∙ ap (λ (o : Option ℕ). unwrap_or o before) (ap (λ (b : Bool). if b then stored else None) (sym t) ∙ alike)
  by_test ih false t =
      ap (λ (g : Guest). g.content gpa) (skips (touches_guest plan lpid) (next_guest plan) (start_guest plan lpid) e past t)
      ∙ ih
      ∙ ap (λ (o : Option ℕ). unwrap_or o before) (ap (λ (b : Bool). if b then stored else None) (sym t) ∙ alike)

-- the last store is the content, but for a page that is Invalid
pub last_store_is_newest : LastStoreIsNewest
last_store_is_newest plan past lpid gpa = content_newest plan lpid gpa past

-- entries that give the doubleword no value leave what was found before them
since_is_none : (plan : Plan) (lpid gpa : ℕ) (past since : List Event) → HasNoStore plan lpid gpa past since → newest (decides_doubleword plan lpid gpa) 0 (since ++ past) ≡ newest (decides_doubleword plan lpid gpa) 0 past
since_is_none plan lpid gpa past [] none = refl
since_is_none plan lpid gpa past (f ∷ since) none =
    ap (λ (o : Option ℕ). unwrap_or o (newest (decides_doubleword plan lpid gpa) 0 (since ++ past))) none.0 ∙ since_is_none plan lpid gpa past since none.1

-- and a store decides it
store_decides : (plan : Plan) (past : List Event) (e : Event) (run : Run) (rs gpa : ℕ) → IsStep run (GSt rs gpa) Done e → e.saw.frame ≡ None → decides_doubleword plan run.lpid gpa past e ≡ Some (reg plan past run.lpid run.vid rs)
store_decides plan past e run rs gpa step own = rw (step.before, step.cmd_is, step.answer_is, own, same_test run.lpid, same_test gpa) refl

pub last_store_is_stored : LastStoreIsStored
last_store_is_stored plan past since e run rs gpa step own none =
    content_newest plan run.lpid gpa (since ++ e ∷ past)
    ∙ since_is_none plan run.lpid gpa (e ∷ past) since none
    ∙ ap (λ (o : Option ℕ). unwrap_or o (newest (decides_doubleword plan run.lpid gpa) 0 past)) (store_decides plan past e run rs gpa step own)

pub last_store_is_zero : LastStoreIsZero
last_store_is_zero plan past lpid gpa none =
    content_newest plan lpid gpa past
    ∙ ap (newest (decides_doubleword plan lpid gpa) 0) (sym (append-nil past))
    ∙ since_is_none plan lpid gpa [] past none
