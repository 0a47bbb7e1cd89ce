-- No step but one of the guest's own changes what it last stored.
use Rattle.std.proofs.Common.{◌≡◌, ◌≢◌, ℕ, List, ◌∷◌, Bool, true, false, refl, ap, ◌∙◌, Option, None, Some}
use Rattle.std.specs.Prelude.{unwrap_or}
use Rattle.pef_model.specs.declared.state.Run.{Run}
use Rattle.pef_model.specs.declared.state.Ctx.{Ctx}
use Rattle.pef_model.specs.declared.state.Ctx.TheVariants as ctx
use Rattle.pef_model.specs.Plan.{Plan}
use Rattle.pef_model.specs.Event.{Event}
use Rattle.pef_model.specs.Target.{target_in, is_guest, touches_guest, vcpu_in}
use Rattle.pef_model.specs.Guest.{Guest, start_guest, next_guest, stored_by, stored_in}
use Rattle.pef_model.specs.History.{guest_after, last_store}
use Rattle.pef_model.specs.FreshLaw.{MovesKeepLastStore}
use Rattle.pef_model.proofs.Aims.{own_guest}
use Rattle.pef_model.proofs.Folds.{counts, skips}

module _ (plan : Plan) (past : List Event) (e : Event) (lpid : ℕ) where
  -- a step is none of the guest's own
  abbrev IsOfOthers : Ctx → Type 0
  IsOfOthers c = (run : Run) → c ≡ ctx.Guest run → run.lpid ≢ lpid

  abbrev g : Guest
  g = guest_after plan lpid past

  -- a step that stores nothing at an address
  abbrev pub StoresNothing : ℕ → Type 0
  StoresNothing gpa = touches_guest plan lpid e ≡ true → stored_by plan g e gpa ≡ None

  -- one that is none of the guest's own is so
  pub others_store_nothing : (gpa : ℕ) → IsOfOthers e.saw.before → StoresNothing gpa
  others_store_nothing gpa others touched = by_ctx e.saw.before refl touched where
    by_ctx : (c : Ctx) → e.saw.before ≡ c → is_guest lpid (target_in plan c e.saw.lpid e.trace.cmd) ≡ true → stored_in c plan g e.trace.cmd e.trace.answer e.saw.frame e.bytes gpa ≡ None
    by_ctx ctx.Hv is t = refl
    by_ctx (ctx.Uv work) is t = refl
    by_ctx (ctx.Guest run) is t = absurd (others run is (own_guest plan run e.saw.lpid lpid e.trace.cmd t))

  -- it leaves the content there
  pub content_stays : (gpa : ℕ) → StoresNothing gpa → (guest_after plan lpid (e ∷ past)).content gpa ≡ g.content gpa
  content_stays gpa none = by_test (touches_guest plan lpid e) refl where
    by_test : (b : Bool) → touches_guest plan lpid e ≡ b → (guest_after plan lpid (e ∷ past)).content gpa ≡ g.content gpa
    by_test true t =
        ap (λ (x : Guest). x.content gpa) (counts (touches_guest plan lpid) (next_guest plan) (start_guest plan lpid) e past t)
        ∙ ap (λ (o : Option ℕ). unwrap_or o (g.content gpa)) (none t)
    by_test false t = ap (λ (x : Guest). x.content gpa) (skips (touches_guest plan lpid) (next_guest plan) (start_guest plan lpid) e past t)

-- no step of a vCPU that runs is the guest's where none of its vCPUs makes it
runs_of_others : (c : Ctx) (lpid : ℕ) → ((run : Run) → vcpu_in c ≡ Some run → run.lpid ≢ lpid) → (run : Run) → c ≡ ctx.Guest run → run.lpid ≢ lpid
runs_of_others c lpid others run is = others run (ap vcpu_in is)

-- so what it last stored stays
pub stores_stay : (plan : Plan) (past : List Event) (e : Event) (lpid gpa : ℕ) → ((run : Run) → e.saw.before ≡ ctx.Guest run → run.lpid ≢ lpid) → last_store plan (e ∷ past) lpid gpa ≡ last_store plan past lpid gpa
stores_stay plan past e lpid gpa others = content_stays plan past e lpid gpa (others_store_nothing plan past e lpid gpa others)

pub moves_keep_last_store : MovesKeepLastStore
moves_keep_last_store plan past e lpid gpa legal others same kept keeps = stores_stay plan past e lpid gpa (runs_of_others e.saw.before lpid others)
