-- What a refused step leaves of the machine.
use Rattle.pef_core.specs.Normal.{NormalState}
use Rattle.std.proofs.Common.{◌≡◌, ◌≢◌, ℕ, zero, suc, List, [], ◌∷◌, Some, refl, ap, sym, subst, ◌∙◌, ◌⊎◌, inl, inr}
use Rattle.std.specs.Prelude.{slice_get, slice_set}
use Rattle.std.proofs.lemmas.Bool.{cases_eq}
use Rattle.std.proofs.Math.ListN.{length-set}
use Rattle.pef_model.specs.declared.state.Ctx.{Ctx}
use Rattle.pef_model.specs.declared.state.Ctx.TheVariants as ctx
use Rattle.pef_model.specs.declared.state.Work.TheVariants.{Inward, Outward}
use Rattle.pef_model.specs.declared.command.Code.TheVariants.{UParameter, UP2}
use Rattle.pef_model.specs.declared.command.Cmd.{Cmd}
use Rattle.pef_model.specs.declared.entry.Answer.{Answer}
use Rattle.pef_model.specs.declared.entry.Answer.TheVariants as answer
use Rattle.pef_frames.specs.Pool.{PoolState}
use Rattle.pef_guest.specs.declared.cpu.Cpu.{Cpu}
use Rattle.pef_guest.specs.declared.guest.Guest.{Guest}
use Rattle.pef_guest.specs.Refused.{SameGuest}
use Rattle.pef_core.specs.Refused.{OnCpu, OnGuest, LeavesRest}
use Rattle.pef_core.specs.State.{State}
use Rattle.pef_core.proofs.Lists.{set_same}
use Rattle.pef_core.proofs.Places.{get_set}

-- an element at another place than the one where one was put in
pub get_other : {X : Type 0} (xs : List X) (i k : ℕ) (y : X) → k ≢ i → slice_get (slice_set xs i y) k ≡ slice_get xs k
get_other [] i k y other = refl
get_other (a ∷ xs) zero zero y other = absurd (other refl)
get_other (a ∷ xs) zero (suc k) y other = refl
get_other (a ∷ xs) (suc i) zero y other = refl
get_other (a ∷ xs) (suc i) (suc k) y other = get_other xs i k y (λ same. other (ap suc same))

-- the two elements of a place, before and after another was put in
pub at_place : {X : Type 0} (P : X → X → Type 0) (xs : List X) (i : ℕ) (x y : X) → slice_get xs i ≡ Some x → P x y → (a b : X) → slice_get xs i ≡ Some a → slice_get (slice_set xs i y) i ≡ Some b → P a b
at_place P xs i x y is h a b before after =
    let first : x ≡ a = (let two = sym is ∙ before in cc) in
    let second : y ≡ b = (let two = sym (get_set xs i x y is) ∙ after in cc) in
    subst (λ z. P z b) first (subst (P x) second h)

-- the two elements of any place
pub at_each : {X : Type 0} (P : X → X → Type 0) (xs : List X) (i : ℕ) (x y : X) → slice_get xs i ≡ Some x → ((z : X) → P z z) → P x y → (k : ℕ) (a b : X) → slice_get xs k ≡ Some a → slice_get (slice_set xs i y) k ≡ Some b → P a b
at_each {X = X} P xs i x y is same h k a b before after = by_place (cases_eq k i) where
  by_place : (k ≡ i) ⊎ (k ≢ i) → P a b
  by_place (inl here) = at_place P xs i x y is h a b (ap (slice_get xs) (sym here) ∙ before) (ap (slice_get (slice_set xs i y)) (sym here) ∙ after)
  by_place (inr other) = subst (P a) (let one : a ≡ b = (let two = sym before ∙ sym (get_other xs i k y other) ∙ after in cc) in one) (same a)

same_guest : {S : Type 0} (g : Guest S) → SameGuest g g
same_guest g = record { rest = record { lpid = refl; shift = refl; normal = refl; secure = refl; phase = refl; generation = refl; entry = refl; slots = refl; words = refl; pages = refl; sealer = refl }; vcpus = refl }

some_same : {S : Type 0} (g h : Guest S) → Some g ≡ Some h → SameGuest g h
some_same g h same = subst (SameGuest g) (let one : g ≡ h = cc in one) (same_guest g)

module _ {S : Type 0} (old : State S) (n : ℕ) (cpu : Cpu) (there : slice_get old.cpus n ≡ Some cpu) where
  -- one CPU changes
  pub on_cpu : (P : Cpu → Cpu → Type 0) (new_cpu : Cpu) → P cpu new_cpu → OnCpu n P old.cpus (slice_set old.cpus n new_cpu) old.guests old.guests old.pool old.pool old.normal old.normal
  on_cpu P new_cpu h = record {
    cpu_count = length-set old.cpus n new_cpu;
    guest_count = refl;
    cpu = at_place P old.cpus n cpu new_cpu there h;
    others = λ k other. get_other old.cpus n k new_cpu other;
    guests_stay = λ i g h before after. some_same g h (sym before ∙ after);
    pool_stays = refl;
    normal_stays = refl;
  }

  module _ (i : ℕ) (guest new_guest : Guest S) (here : slice_get old.guests i ≡ Some guest) where
    pub guests_stay : SameGuest guest new_guest → (k : ℕ) (g h : Guest S) → slice_get old.guests k ≡ Some g → slice_get (slice_set old.guests i new_guest) k ≡ Some h → SameGuest g h
    guests_stay same = at_each SameGuest old.guests i guest new_guest here same_guest same

    -- a guest that changes so, on a CPU that doesn't
    pub on_guest : (P : Guest S → Guest S → Type 0) (new_cpu : Cpu) (pool : PoolState) (normal : NormalState) → new_cpu ≡ cpu → P guest new_guest → pool ≡ old.pool → normal ≡ old.normal →
        OnGuest i P old.cpus (slice_set old.cpus n new_cpu) old.guests (slice_set old.guests i new_guest) old.pool pool old.normal normal
    on_guest P new_cpu pool normal same h pool_is normal_is = record {
      cpus_stay = ap (slice_set old.cpus n) same ∙ set_same old.cpus n cpu there;
      guest_count = length-set old.guests i new_guest;
      guest = at_place P old.guests i guest new_guest here h;
      others = λ k other. get_other old.guests i k new_guest other;
      pool_stays = pool_is;
      normal_stays = normal_is;
    }

-- counts of steps are aside
pub steps_aside : {S : Type 0} (n : ℕ) (c : Ctx) (cmd : Cmd) (m new : State S) (k : ℕ) (a : Answer) → LeavesRest n c cmd (record m { steps = k }) new a → LeavesRest n c cmd m new a
steps_aside n ctx.Hv cmd m new k (answer.Ret code) h = h
steps_aside n ctx.Hv cmd m new k a h = h
steps_aside n (ctx.Uv (Inward move)) cmd m new k (answer.Ret UParameter) h = h
steps_aside n (ctx.Uv (Inward move)) cmd m new k (answer.Ret UP2) h = h
steps_aside n (ctx.Uv (Inward move)) cmd m new k a h = h
steps_aside n (ctx.Uv (Outward move)) cmd m new k (answer.Ret UParameter) h = h
steps_aside n (ctx.Uv (Outward move)) cmd m new k a h = h
steps_aside n (ctx.Uv work) cmd m new k (answer.Ret UParameter) h = h
steps_aside n (ctx.Uv work) cmd m new k a h = h
steps_aside n (ctx.Guest run) cmd m new k (answer.Ret code) h = h
steps_aside n (ctx.Guest run) cmd m new k a h = h
