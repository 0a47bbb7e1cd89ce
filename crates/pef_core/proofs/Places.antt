-- Where a step finds its CPU and its guest, and that the CPU is still one of the machine's after the step.
use Rattle.std.proofs.Common.{◌≡◌, ℕ, zero, suc, ◌-◌, ◌<◌, List, [], ◌∷◌, length, true, false, Option, Some, None, ◌⊎◌, inl, inr, refl, ap, sym, subst, ◌∙◌, get_or, arith}
use Rattle.std.specs.Prelude.{slice_get, slice_set}
use Rattle.std.proofs.lemmas.Option.{slice_get_within, slice_get_read}
use Rattle.pef_model.specs.declared.state.Run.{Run}
use Rattle.pef_model.specs.declared.state.Ctx.{Ctx}
use Rattle.pef_model.specs.declared.state.Ctx.TheVariants as ctx
use Rattle.pef_model.specs.Plan.{Plan, IsWithin}
use Rattle.pef_guest.specs.declared.cpu.Cpu.{Cpu}
use Rattle.pef_guest.specs.declared.guest.Guest.{Guest}
use Rattle.pef_guest.specs.Ready.{may_run_in}
use Rattle.pef_core.specs.Normal.{NormalState}
use Rattle.pef_core.specs.Does.{KeepsSelection}
use Rattle.pef_core.specs.State.{State, HasContext, IsCpuOf, IsVcpu, HasVcpu, MayRun, Works, IsWholeMachine}
use Rattle.pef_core.proofs.Lists.{element_at}

-- the element that was read at a place below the length
pub read_at : {X : Type 0} (xs : List X) (n : ℕ) (x : X) → n < length xs → x ≡ get_or xs n x → slice_get xs n ≡ Some x
read_at xs n x below is = slice_get_read xs (length xs) n x refl below is

-- the CPU that was read, and its context
pub found_cpu : {S : Type 0} (cpus : List Cpu) (m : State S) (n : ℕ) (cpu : Cpu) (c : Ctx) → m.cpus ≡ cpus → HasContext m.cpus n c → cpu ≡ get_or cpus n cpu → (slice_get cpus n ≡ Some cpu) × (cpu.ctx ≡ c)
found_cpu cpus m n cpu c same has is =
    let here : HasContext cpus n c = subst (λ xs. HasContext xs n c) same has in
    let there : slice_get cpus n ≡ Some cpu = read_at cpus n cpu here.below is in
    (there, here.is cpu there)

module _ {S : Type 0} (guests : List (Guest S)) where
  has_below : (o : Option (Guest S)) (k vid : ℕ) → slice_get guests k ≡ o → HasVcpu o vid → k < length guests
  has_below None k vid is has = absurd has
  has_below (Some guest) k vid is has = slice_get_within guests k guest is

  -- the guest of a vCPU is one of the machine's
  pub guest_below : (lpid vid : ℕ) → IsVcpu guests lpid vid → lpid - 1 < length guests
  guest_below lpid vid is = has_below (slice_get guests (lpid - 1)) (lpid - 1) vid refl is.has

  -- the guest has the vCPU
  pub vcpu_below : (lpid vid : ℕ) (guest : Guest S) → IsVcpu guests lpid vid → slice_get guests (lpid - 1) ≡ Some guest → vid < length guest.vcpus.items
  vcpu_below lpid vid guest is here = subst (λ o. HasVcpu o vid) here is.has

  -- its phase lets it run, where it is still in the generation
  pub phase_lets : (normal : NormalState) (n : ℕ) (run : Run) (guest : Guest S) → Works guests normal n (ctx.Guest run) → slice_get guests (run.lpid - 1) ≡ Some guest → run.generation ≡ guest.generation → may_run_in guest.phase ≡ true
  phase_lets normal n run guest runs here same = (subst (λ o. MayRun o run.generation) here runs.1).1 same

  -- a CPU whose context stays, and that selects no vCPU but one of the machine's
  pub selection_stays : (normal : NormalState) (n vcpus : ℕ) (cpu new : Cpu) → ((lpid vid : ℕ) → IsWithin 1 (length guests) lpid → vid < vcpus → IsVcpu guests lpid vid) → KeepsSelection (length guests) vcpus cpu new → IsCpuOf guests normal n cpu → IsCpuOf guests normal n new
  selection_stays normal n vcpus cpu new there keeps is = record {
    number = keeps.number ∙ is.number;
    selects = selected keeps.selects;
    works = subst (Works guests normal n) (sym keeps.ctx) is.works;
    hand = ap length keeps.hand ∙ is.hand;
  } where
    selected : ((new.lpid ≡ cpu.lpid) × (new.vid ≡ cpu.vid)) ⊎ (IsWithin 1 (length guests) new.lpid × (new.vid < vcpus)) → IsVcpu guests new.lpid new.vid
    selected (inl same) = subst (λ l. IsVcpu guests l new.vid) (sym same.0) (subst (λ v. IsVcpu guests cpu.lpid v) (sym same.1) is.selects)
    selected (inr other) = there new.lpid new.vid other.0 other.1

-- a vCPU of a guest of a whole machine, by their numbers
pub one_of : {S : Type 0} (takes : S → ℕ → ℕ → Type 0) (m : State S) → IsWholeMachine takes m → (lpid vid : ℕ) → IsWithin 1 (length m.guests) lpid → vid < m.vcpus → IsVcpu m.guests lpid vid
one_of takes m whole lpid vid range below =
    let one = element_at m.guests (lpid - 1) (let least = range.0 in let most = range.1 in omega arith) in
    record { least = range.0; has = subst (λ o. HasVcpu o vid) (sym one.1) (subst (λ k. vid < k) (sym (whole.guests (lpid - 1) one.0 one.1).vcpus) below) }

pub get_set : {X : Type 0} (xs : List X) (i : ℕ) (x y : X) → slice_get xs i ≡ Some x → slice_get (slice_set xs i y) i ≡ Some y
get_set [] i x y is = cc
get_set (a ∷ xs) zero x y is = refl
get_set (a ∷ xs) (suc i) x y is = get_set xs i x y is

-- the CPU that was read is in the context that was read
pub has_context : (cpus : List Cpu) (n : ℕ) (cpu : Cpu) (c : Ctx) → n < length cpus → cpu ≡ get_or cpus n cpu → cpu.ctx ≡ c → HasContext cpus n c
has_context cpus n cpu c below is context = record {
  below = below;
  is = λ other there. let here : slice_get cpus n ≡ Some cpu = read_at cpus n cpu below is in let same : other ≡ cpu = cc in ap (λ (x : Cpu). x.ctx) same ∙ context;
}

-- a plan with a machine's sizes
abbrev pub sized : {S : Type 0} → State S → Plan
sized m = record { shift = m.normal.shift; normal = length m.normal.frames; secure = 0; cpus = 0; guests = length m.guests; vcpus = 0; pages = 0; image = λ tag plain. plain; is_born = λ lpid. false; words = λ lpid. 0; entropy = λ lpid. [] }
