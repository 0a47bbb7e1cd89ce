-- A machine stays whole where a CPU, a guest, the pool or the normal frames change as a step changes them.
use Rattle.std.proofs.Common.{◌≡◌, ◌≢◌, ℕ, zero, suc, ◌+◌, ◌-◌, ◌^◌, ◌<◌, ◌==◌, nat_lt, cond, if◌then◌else◌, List, [], ◌∷◌, ◌++◌, length, true, Option, Some, None, inl, inr, refl, ap, sym, subst, ◌∙◌, arith, length-set}
use Rattle.std.specs.Prelude.{slice_get, slice_set}
use Rattle.std.specs.List.{count_by, flat_map}
use Rattle.std.proofs.lemmas.List.Sums.{sum_by-append}
use Rattle.std.proofs.lemmas.List.Recursion.{is_sum_by}
use Rattle.pef_model.specs.declared.state.Phase.{Phase}
use Rattle.pef_model.specs.declared.state.Way.TheVariants as way
use Rattle.pef_model.specs.declared.state.Mover.{Mover}
use Rattle.pef_model.specs.declared.state.Move.{Move}
use Rattle.pef_model.specs.declared.state.Run.{Run}
use Rattle.pef_model.specs.declared.state.Work.TheVariants.{Inward, Outward}
use Rattle.pef_model.specs.declared.state.Ctx.{Ctx}
use Rattle.pef_model.specs.declared.state.Ctx.TheVariants as ctx
use Rattle.pef_model.specs.Target.{caller}
use Rattle.pef_frames.specs.Frame.{FrameState, numbers_of}
use Rattle.pef_frames.specs.Pool.{PoolState}
use Rattle.pef_frames.specs.PoolLaw.{times_free}
use Rattle.pef_pages.specs.Pages.{held}
use Rattle.pef_guest.specs.declared.cpu.Cpu.{Cpu}
use Rattle.pef_guest.specs.declared.guest.Guest.{Guest}
use Rattle.pef_guest.specs.Whole.{IsWhole}
use Rattle.pef_guest.specs.Ready.{may_run_in}
use Rattle.pef_guest.specs.Keeps.{IsNextPhase, KeepsGuest, KeepsFrames, KeepsMovers, times_held}
use Rattle.pef_core.specs.Normal.{NormalState}
use Rattle.pef_core.specs.State.{State, IsCpuOf, IsGuestOf, IsVcpu, HasVcpu, MayRun, MovesPage, IsMoveOf, Runs, Works, FramesOnce, IsWholeMachine, guest_at}
use Rattle.pef_core.proofs.Lists.{each_set, each_map}

-- what holds of the element at a place, after another was put in
at_set : {X : Type 0} (Q : Option X → Type 0) (xs : List X) (i k : ℕ) (x y : X) → slice_get xs i ≡ Some x → (Q (Some x) → Q (Some y)) → Q (slice_get xs k) → Q (slice_get (slice_set xs i y) k)
at_set Q [] i k x y is put h = cc
at_set Q (a ∷ xs) zero zero x y is put h = put (subst Q is h)
at_set Q (a ∷ xs) zero (suc k) x y is put h = h
at_set Q (a ∷ xs) (suc i) zero x y is put h = h
at_set Q (a ∷ xs) (suc i) (suc k) x y is put h = at_set Q xs i k x y is put h

-- a phase that lets a vCPU run still does, in one generation
runs_on : (old new : Phase) → IsNextPhase old new → may_run_in old ≡ true → may_run_in new ≡ true
runs_on old new (inl same) may = ap may_run_in same ∙ may
runs_on old new (inr begun) may = ap may_run_in begun.1

module _ {S : Type 0} (guests : List (Guest S)) (i : ℕ) (g g' : Guest S) (is : slice_get guests i ≡ Some g) (keeps : KeepsGuest g g') where
  -- a vCPU of the machine still is one
  pub vcpu_stays : (lpid vid : ℕ) → IsVcpu guests lpid vid → IsVcpu (slice_set guests i g') lpid vid
  vcpu_stays lpid vid h = record {
    least = h.least;
    has = at_set (λ x. HasVcpu x vid) guests i (lpid - 1) g g' is (λ below. subst (λ n. vid < n) (sym keeps.vcpus) below) h.has;
  }

  may_run_stays : (lpid generation : ℕ) → MayRun (guest_at guests lpid) generation → MayRun (guest_at (slice_set guests i g') lpid) generation
  may_run_stays lpid generation h =
      at_set (λ x. MayRun x generation) guests i (lpid - 1) g g' is (λ may. (omega (arith, may.0, keeps.generation), λ same. (let back : generation ≡ g.generation = omega (arith, may.0, keeps.generation, same) in runs_on g.phase g'.phase (keeps.phase (sym same ∙ back)) (may.1 back)))) h

  -- a page that another CPU moves is moved by it still
  move_stays : (normal : NormalState) (n : ℕ) (mover : Mover) (move : Move) → mover.cpu ≢ n → KeepsMovers n g g' → IsMoveOf guests normal mover move → IsMoveOf (slice_set guests i g') normal mover move
  move_stays normal n mover move other movers h = record {
    least = h.least;
    moves = at_set (λ x. MovesPage x move.generation move.gfn mover) guests i (move.lpid - 1) g g' is
        (λ moves. (omega (arith, moves.0, keeps.generation), λ same. (let back : move.generation ≡ g.generation = omega (arith, moves.0, keeps.generation, same) in movers move.gfn mover (sym same ∙ back) other (moves.1 back)))) h.moves;
    frame = h.frame;
  }

  -- a vCPU that a CPU runs, or whose call it has in progress, still may run
  pub runs_stay : (runs : Option Run) → Runs guests runs → Runs (slice_set guests i g') runs
  runs_stay None h = tt
  runs_stay (Some run) h = (vcpu_stays run.lpid run.vid h.0, may_run_stays run.lpid run.generation h.1)

  works_stay : (normal : NormalState) (n k : ℕ) (c : Ctx) → k ≢ n → KeepsMovers n g g' → Works guests normal k c → Works (slice_set guests i g') normal k c
  works_stay normal n k ctx.Hv other movers h = tt
  works_stay normal n k (ctx.Uv (Inward move)) other movers h = move_stays normal n (record { cpu = k; way = way.Inward }) move other movers h
  works_stay normal n k (ctx.Uv (Outward move)) other movers h = move_stays normal n (record { cpu = k; way = way.Outward }) move other movers h
  works_stay normal n k (ctx.Uv work) other movers h = runs_stay (caller work) h
  works_stay normal n k (ctx.Guest run) other movers h = runs_stay (Some run) h

  -- a CPU of the machine still is one, after a step of another
  pub cpu_stays : (normal : NormalState) (n k : ℕ) (cpu : Cpu) → k ≢ n → KeepsMovers n g g' → IsCpuOf guests normal k cpu → IsCpuOf (slice_set guests i g') normal k cpu
  cpu_stays normal n k cpu other movers h = record {
    number = h.number;
    selects = vcpu_stays cpu.lpid cpu.vid h.selects;
    works = works_stay normal n k cpu.ctx other movers h.works;
    hand = h.hand;
  }

-- a move has its normal frame among others that are as many
move_with : {S : Type 0} (guests : List (Guest S)) (old new : NormalState) (mover : Mover) (move : Move) → length new.frames ≡ length old.frames → IsMoveOf guests old mover move → IsMoveOf guests new mover move
move_with guests old new mover move count h = record { least = h.least; moves = h.moves; frame = subst (λ (k : ℕ). move.frame < k) (sym count) h.frame }

-- a CPU of the machine is one with other normal frames, where they are of the same size and as many
works_with : {S : Type 0} (guests : List (Guest S)) (old new : NormalState) (n : ℕ) (c : Ctx) → length new.frames ≡ length old.frames → Works guests old n c → Works guests new n c
works_with guests old new n ctx.Hv count h = tt
works_with guests old new n (ctx.Uv (Inward move)) count h = move_with guests old new (record { cpu = n; way = way.Inward }) move count h
works_with guests old new n (ctx.Uv (Outward move)) count h = move_with guests old new (record { cpu = n; way = way.Outward }) move count h
works_with guests old new n (ctx.Uv work) count h = h
works_with guests old new n (ctx.Guest run) count h = h

pub cpu_with : {S : Type 0} (guests : List (Guest S)) (old new : NormalState) (n : ℕ) (cpu : Cpu) → new.shift ≡ old.shift → length new.frames ≡ length old.frames → IsCpuOf guests old n cpu → IsCpuOf guests new n cpu
cpu_with guests old new n cpu shift count h = record {
  number = h.number;
  selects = h.selects;
  works = works_with guests old new n cpu.ctx count h.works;
  hand = h.hand ∙ ap (λ (k : ℕ). 2 ^ k) (sym shift);
}

-- how often a number is one of frames
pub count_numbers : (number : ℕ) (frames : List FrameState) → count_by (λ n. n == number) (numbers_of frames) ≡ count_by (λ (frame : FrameState). frame.number == number) frames
count_numbers number frames =
    is_sum_by (λ (frames : List FrameState). count_by (λ n. n == number) (numbers_of frames)) (λ (frame : FrameState). cond (frame.number == number) 1 0) refl
    (λ frame frames. let h = sum_by-append (λ (n : ℕ). cond (n == number) 1 0) (frame.number ∷ []) (numbers_of frames) in omega arith) frames

-- how often a number is one of all guests' frames, after a guest changed
module _ {S : Type 0} (number : ℕ) where
  numbers : Guest S → List ℕ
  numbers guest = numbers_of (held guest.pages)

  count_set : (guests : List (Guest S)) (i : ℕ) (g g' : Guest S) → slice_get guests i ≡ Some g →
      count_by (λ n. n == number) (flat_map (λ guest. numbers_of (held guest.pages)) (slice_set guests i g')) + times_held g number
      ≡ count_by (λ n. n == number) (flat_map (λ guest. numbers_of (held guest.pages)) guests) + times_held g' number
  count_set [] i g g' is = cc
  count_set (a ∷ guests) zero g g' is =
      let same : a ≡ g = cc in
      let rest : List ℕ = flat_map (λ guest. numbers_of (held guest.pages)) guests in
      let one : count_by (λ n. n == number) (numbers_of (held g'.pages) ++ rest) ≡ count_by (λ n. n == number) (numbers_of (held g'.pages)) + count_by (λ n. n == number) rest =
      sum_by-append (λ (n : ℕ). cond (n == number) 1 0) (numbers_of (held g'.pages)) rest in
      let other : count_by (λ n. n == number) (numbers_of (held a.pages) ++ rest) ≡ count_by (λ n. n == number) (numbers_of (held a.pages)) + count_by (λ n. n == number) rest =
      sum_by-append (λ (n : ℕ). cond (n == number) 1 0) (numbers_of (held a.pages)) rest in
      let there = count_numbers number (held g'.pages) in
      let here : count_by (λ n. n == number) (numbers_of (held a.pages)) ≡ times_held g number = count_numbers number (held a.pages) ∙ ap (λ (x : Guest S). times_held x number) same in
      omega arith
  count_set (a ∷ guests) (suc i) g g' is =
      let rest : List ℕ = flat_map (λ guest. numbers_of (held guest.pages)) guests in
      let rest' : List ℕ = flat_map (λ guest. numbers_of (held guest.pages)) (slice_set guests i g') in
      let one = sum_by-append (λ (n : ℕ). cond (n == number) 1 0) (numbers_of (held a.pages)) rest in
      let other = sum_by-append (λ (n : ℕ). cond (n == number) 1 0) (numbers_of (held a.pages)) rest' in
      let ih = count_set guests i g g' is in
      omega arith

-- each secure frame is still in one place
pub once_stays : {S : Type 0} (m : State S) (i : ℕ) (g g' : Guest S) (pool : PoolState) → slice_get m.guests i ≡ Some g → KeepsFrames g g' m.pool pool → FramesOnce m →
    (cpus : List Cpu) → FramesOnce (record m { cpus = cpus; guests = slice_set m.guests i g'; pool = pool })
once_stays m i g g' pool is keeps once cpus number =
    let old : List ℕ = flat_map (λ guest. numbers_of (held guest.pages)) m.guests in
    let new : List ℕ = flat_map (λ guest. numbers_of (held guest.pages)) (slice_set m.guests i g') in
    let before : count_by (λ n. n == number) (m.pool.free ++ old) ≡ times_free m.pool number + count_by (λ n. n == number) old = sum_by-append (λ (n : ℕ). cond (n == number) 1 0) m.pool.free old in
    let after : count_by (λ n. n == number) (pool.free ++ new) ≡ times_free pool number + count_by (λ n. n == number) new = sum_by-append (λ (n : ℕ). cond (n == number) 1 0) pool.free new in
    let moved = count_set number m.guests i g g' is in
    let kept = keeps.frames number in
    let same : count_by (λ n. n == number) (pool.free ++ new) ≡ count_by (λ n. n == number) (m.pool.free ++ old) = omega arith in
    same ∙ once number ∙ ap (λ (count : ℕ). if nat_lt number count then 1 else 0) (sym keeps.count)

module _ {S : Type 0} (takes : S → ℕ → ℕ → Type 0) (m : State S) (n : ℕ) (cpu : Cpu) (whole : IsWholeMachine takes m) where
  -- other normal frames, of the same size and as many
  pub whole_normal : (normal : NormalState) → normal.shift ≡ m.normal.shift → length normal.frames ≡ length m.normal.frames → IsWholeMachine takes (record m { normal = normal })
  whole_normal normal same count = record {
    cpus = each_map (IsCpuOf m.guests m.normal) (IsCpuOf m.guests normal) m.cpus whole.cpus (λ k x h. cpu_with m.guests m.normal normal k x same count h);
    guests = each_map (IsGuestOf takes m) (IsGuestOf takes (record m { normal = normal })) m.guests whole.guests
        (λ i g h. record { whole = h.whole; lpid = h.lpid; shift = h.shift ∙ sym same; normal = h.normal ∙ sym count; secure = h.secure; vcpus = h.vcpus; steps = h.steps });
    few = whole.few;
    size = whole.size ∙ ap (λ (shift : ℕ). 2 ^ shift) (sym same);
    frames_once = whole.frames_once;
  }

  -- another CPU at one place, and such normal frames
  pub whole_cpu : (normal : NormalState) → normal.shift ≡ m.normal.shift → length normal.frames ≡ length m.normal.frames → IsCpuOf m.guests m.normal n cpu → IsWholeMachine takes (record m { cpus = slice_set m.cpus n cpu; normal = normal })
  whole_cpu normal same count is =
      let other = whole_normal normal same count in
      record {
        cpus = each_set (IsCpuOf m.guests normal) (IsCpuOf m.guests normal) m.cpus n cpu other.cpus (cpu_with m.guests m.normal normal n cpu same count is) (λ k x different h. h);
        guests = each_map (IsGuestOf takes (record m { normal = normal })) (IsGuestOf takes (record m { cpus = slice_set m.cpus n cpu; normal = normal })) m.guests other.guests
            (λ i g h. record { whole = h.whole; lpid = h.lpid; shift = h.shift; normal = h.normal; secure = h.secure; vcpus = h.vcpus; steps = h.steps });
        few = other.few;
        size = other.size;
        frames_once = whole.frames_once;
      }

  -- another CPU at one place and another guest at another, and the pool
  pub whole_guest : (i : ℕ) (g g' : Guest S) (pool : PoolState) → slice_get m.guests i ≡ Some g → IsWhole takes g' → KeepsGuest g g' → KeepsMovers n g g' → KeepsFrames g g' m.pool pool → g.steps < m.steps →
      IsCpuOf (slice_set m.guests i g') m.normal n cpu → IsWholeMachine takes (record m { cpus = slice_set m.cpus n cpu; guests = slice_set m.guests i g'; pool = pool })
  whole_guest i g g' pool is whole' keeps movers frames fewer cpu_is =
      let there : IsGuestOf takes m i g = whole.guests i g is in
      record {
        cpus = each_set (IsCpuOf m.guests m.normal) (IsCpuOf (slice_set m.guests i g') m.normal) m.cpus n cpu whole.cpus cpu_is
            (λ k x other h. cpu_stays m.guests i g g' is keeps m.normal n k x other movers h);
        guests = each_set (IsGuestOf takes m) (IsGuestOf takes (record m { cpus = slice_set m.cpus n cpu; guests = slice_set m.guests i g'; pool = pool })) m.guests i g' whole.guests
            (record {
              whole = whole';
              lpid = keeps.lpid ∙ there.lpid;
              shift = keeps.shift ∙ there.shift;
              normal = keeps.normal ∙ there.normal;
              secure = keeps.secure ∙ there.secure ∙ sym frames.count;
              vcpus = keeps.vcpus ∙ there.vcpus;
              steps = (let more = keeps.steps in omega arith);
            })
            (λ k x other h. record { whole = h.whole; lpid = h.lpid; shift = h.shift; normal = h.normal; secure = h.secure ∙ sym frames.count; vcpus = h.vcpus; steps = h.steps });
        few = subst (λ (k : ℕ). k < 2 ^ 16) (sym (length-set m.guests i g')) whole.few;
        size = frames.size ∙ whole.size;
        frames_once = once_stays m i g g' pool is frames whole.frames_once (slice_set m.cpus n cpu);
      }

-- one step more is counted
pub one_step_more : {S : Type 0} (takes : S → ℕ → ℕ → Type 0) (m : State S) → IsWholeMachine takes m → IsWholeMachine takes (record m { steps = m.steps + 1 })
one_step_more takes m whole = record {
  cpus = whole.cpus;
  guests = each_map (IsGuestOf takes m) (IsGuestOf takes (record m { steps = m.steps + 1 })) m.guests whole.guests
      (λ i g h. record { whole = h.whole; lpid = h.lpid; shift = h.shift; normal = h.normal; secure = h.secure; vcpus = h.vcpus; steps = (let few = h.steps in omega arith) });
  few = whole.few;
  size = whole.size;
  frames_once = whole.frames_once;
}
