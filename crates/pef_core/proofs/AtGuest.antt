-- A step at a guest that does what the row contract says does what every step of the machine does.
use Rattle.pef_core.proofs.LentFrames.{PutsFrame, writes_nothing, lent_shift, lent_count, found_lent, shows_lent, unwritten, lent_written}
use Rattle.pef_core.specs.Alone.{LeavesNormal}
use Rattle.pef_core.specs.Lent.{frame_needed, LeavesLent}
use Rattle.pef_model.specs.declared.state.Work.{Work}
use Rattle.pef_model.specs.declared.aim.Aim.{Aim}
use Rattle.pef_model.specs.declared.aim.Aim.TheVariants as aim
use Rattle.std.proofs.Common.{◌≡◌, ℕ, ◌+◌, ◌-◌, ◌^◌, ◌<◌, ◌≤◌, nat_lt, nat_le, ◌&&◌, Bool, true, false, if◌then◌else◌, List, length, Option, Some, None, refl, ap, sym, subst, ◌∙◌, ◌⊎◌, inl, inr, arith, option_map}
use Rattle.std.specs.Prelude.{slice_get, slice_set}
use Rattle.std.proofs.lemmas.Bool.Decides.{nat_tests}
use Rattle.std.proofs.Math.ListN.{length-set}
use Rattle.pef_model.specs.declared.state.Way.{Way}
use Rattle.pef_model.specs.declared.state.Way.TheVariants as way
use Rattle.pef_model.specs.declared.state.Move.{Move}
use Rattle.pef_model.specs.declared.state.Run.{Run}
use Rattle.pef_model.specs.declared.state.Work.TheVariants.{Inward, Outward}
use Rattle.pef_model.specs.declared.state.Ctx.{Ctx}
use Rattle.pef_model.specs.declared.state.Ctx.TheVariants as ctx
use Rattle.pef_model.specs.declared.state.Tag.{Tag}
use Rattle.pef_model.specs.declared.command.Code.TheVariants.{UParameter, UP2}
use Rattle.pef_model.specs.declared.command.Cmd.{Cmd}
use Rattle.pef_model.specs.declared.command.Cmd.TheVariants.{HLd, HSt, UReturn, Go, HSelect, HEnter}
use Rattle.pef_model.specs.declared.entry.Answer.{Answer}
use Rattle.pef_model.specs.declared.entry.Answer.TheVariants as answer
use Rattle.pef_model.specs.Commands.{IsCommand}
use Rattle.pef_model.specs.Plan.{Plan}
use Rattle.pef_model.specs.Event.{Event, Mark}
use Rattle.pef_model.specs.Target.{Alone, AtGuest, AtFrame, frame_of, has_real_place, is_guest, target_in, aim_in, aim_of_hypervisor, aim_of_work, aim_of_running, target_of_aim, caller}
use Rattle.pef_model.specs.Cpu.{CpuPart}
use Rattle.pef_model.specs.Guest.{Guest as GuestWhole}
use Rattle.pef_model.specs.Deed.{deed_guest}
use Rattle.pef_model.specs.Clash.{clashes}
use Rattle.pef_model.specs.History.{ask_of, cpu_after, guest_after, found_after, entry_of, next_entry}
use Rattle.pef_model.specs.Sound.{clashes_at, is_clash}
use Rattle.pef_frames.specs.Pool.{PoolState}
use Rattle.pef_guest.specs.declared.cpu.Cpu.{Cpu}
use Rattle.pef_guest.specs.declared.guest.Guest.{Guest}
use Rattle.pef_guest.specs.Keeps.{KeepsLife, KeepsMovers}
use Rattle.pef_guest.specs.Aims.{guest_aimed, changes_life, guest_of}
use Rattle.pef_guest.specs.Ready.{MayEnd, HasRoomFor, ReadyIn, RoomIn, IsReadyFor, IsReadyPool, RunsAt, WorksAt}
use Rattle.pef_guest.specs.Refused.{RefusesCpu, RefusesGuest, SameGuest, BackWith, IsGone, Refuses}
use Rattle.pef_guest.specs.Does.{is_any_free, entry_at_guest, NormalPart, DoesLent}
use Rattle.pef_core.specs.Normal.{NormalState}
use Rattle.pef_core.specs.State.{State, IsVcpu, HasVcpu, MayRun, Runs, IsMoveOf, IsWholeMachine, Works}
use Rattle.pef_core.specs.Steps.{Continues}
use Rattle.pef_core.specs.Refused.{OnCpu, ChangesGuest, RefusesPage, LeavesRest}
use Rattle.pef_core.specs.Does.{Targets, DoesStep}
use Rattle.pef_core.proofs.Entries.{entry_at}
use Rattle.pef_core.proofs.Continuing.{mark_at, makes_at_guest}
use Rattle.pef_core.proofs.Places.{get_set, guest_below, vcpu_below, phase_lets, sized}
use Rattle.pef_core.proofs.WholeAfter.{whole_guest, once_stays, vcpu_stays, whole_normal}
use Rattle.pef_core.proofs.Moving.{Site, begun_move, moved_by, has_room, move_below}
use Rattle.pef_core.proofs.Leaving.{get_other, at_place, guests_stay, on_guest}
use Rattle.pef_core.proofs.Alone.{alone_guest}

-- the end of a move aims at the guest whose page it is
copied_is : (b : Bool) (lpid k : ℕ) → (if b then Some lpid else None) ≡ Some k → lpid ≡ k
copied_is true lpid k is = cc
copied_is false lpid k is = cc

moves_in : (move : Move) (l k : ℕ) (cmd : Cmd) → guest_aimed (ctx.Uv (Inward move)) l cmd ≡ Some k → move.lpid ≡ k
moves_in move l k Go is = copied_is move.copied move.lpid k is
moves_in move l k cmd is = cc

moves_out : (move : Move) (l k : ℕ) (cmd : Cmd) → guest_aimed (ctx.Uv (Outward move)) l cmd ≡ Some k → move.lpid ≡ k
moves_out move l k Go is = copied_is move.copied move.lpid k is
moves_out move l k cmd is = cc

-- a command of a vCPU aims at its guest
runs_at : (run : Run) (l k : ℕ) (cmd : Cmd) → guest_aimed (ctx.Guest run) l cmd ≡ Some k → run.lpid ≡ k
runs_at run l k (HLd ra) is = cc
runs_at run l k cmd is = cc

-- what aims at a guest names it
one_named : (b : Bool) (lpid k : ℕ) → (if b then AtGuest lpid else Alone) ≡ AtGuest k → (Some lpid ≡ Some k) × (b ≡ true)
one_named true lpid k is = (let same : lpid ≡ k = cc in ap (λ (x : ℕ). Some x) same, refl)
one_named false lpid k is = absurd cc

no_address : (b : Bool) (n k : ℕ) → (if b then AtFrame n else Alone) ≡ AtGuest k → ⊥
no_address true n k is = cc
no_address false n k is = cc

one_moved : (b : Bool) (lpid n k : ℕ) → (if b then AtGuest lpid else AtFrame n) ≡ AtGuest k → (if b then Some lpid else None) ≡ Some k
one_moved true lpid n k is = (let same : lpid ≡ k = cc in ap (λ (x : ℕ). Some x) same)
one_moved false lpid n k is = absurd cc

aimed_at : (plan : Plan) (a : Aim) (k : ℕ) → target_of_aim plan a ≡ AtGuest k → guest_of a ≡ Some k
aimed_at plan aim.Nothing k is = absurd cc
aimed_at plan (aim.NamedGuest lpid) k is = (one_named (nat_le 1 lpid && nat_le lpid plan.guests) lpid k is).0
aimed_at plan (aim.Guest lpid) k is = (let same : lpid ≡ k = cc in ap (λ (x : ℕ). Some x) same)
aimed_at plan (aim.Address ra) k is = absurd (no_address (has_real_place plan ra) (frame_of plan ra) k is)
aimed_at plan (aim.Move move) k is = one_moved move.copied move.lpid move.frame k is

pub named : (plan : Plan) (c : Ctx) (l : ℕ) (cmd : Cmd) (k : ℕ) → target_in plan c l cmd ≡ AtGuest k → guest_aimed c l cmd ≡ Some k
named plan c l cmd k is = aimed_at plan (aim_in c l cmd) k is

-- a number is that of a guest of so many
abbrev IsGuestIn : ℕ → ℕ → Type 0
IsGuestIn guests lpid = (1 ≤ lpid) × (lpid - 1 < guests)

-- an aim at a guest that is there, or at a page on the move, is at one of the machine's
abbrev IsIn : ℕ → Aim → Type 0
IsIn guests (aim.Guest lpid) = IsGuestIn guests lpid
IsIn guests (aim.Move move) = IsGuestIn guests move.lpid
IsIn guests other = Unit {0}

hypervisor_in : (guests l : ℕ) (cmd : Cmd) → IsGuestIn guests l → IsIn guests (aim_of_hypervisor l cmd)
hypervisor_in guests l (UReturn r0 r2 outs) selected = selected
hypervisor_in guests l cmd selected = tt

work_in : (guests : ℕ) (work : Work) (move : Move) (cmd : Cmd) → (work ≡ Inward move) ⊎ (work ≡ Outward move) → IsGuestIn guests move.lpid → IsIn guests (aim_of_work work cmd)
work_in guests work move Go (inl is) moves = rw is moves
work_in guests work move Go (inr is) moves = rw is moves
work_in guests work move cmd (inl is) moves = rw is tt
work_in guests work move cmd (inr is) moves = rw is tt

running_in : (guests lpid : ℕ) (cmd : Cmd) → IsGuestIn guests lpid → IsIn guests (aim_of_running lpid cmd)
running_in guests lpid (HLd ra) runs = tt
running_in guests lpid (HSt ra value) runs = tt
running_in guests lpid (HSelect named vid) runs = tt
running_in guests lpid (HEnter named vid value) runs = tt
running_in guests lpid Go runs = tt
running_in guests lpid cmd runs = runs

-- a guest at which a CPU of the machine aims is one of the machine's
pub in_range : {S : Type 0} (plan : Plan) (guests : List (Guest S)) (normal : NormalState) (n l vid : ℕ) (c : Ctx) (cmd : Cmd) (k : ℕ) → plan.guests ≡ length guests → IsVcpu guests l vid → Works guests normal n c → target_in plan c l cmd ≡ AtGuest k →
    (1 ≤ k) × (k - 1 < length guests)
in_range plan guests normal n l vid c cmd k count selects works is = by_aim (aim_in c l cmd) (by_context c works) is where
  of_vcpu : (lpid v : ℕ) → IsVcpu guests lpid v → IsGuestIn (length guests) lpid
  of_vcpu lpid v one = (one.least, guest_below guests lpid v one)

  by_context : (c : Ctx) → Works guests normal n c → IsIn (length guests) (aim_in c l cmd)
  by_context ctx.Hv works = hypervisor_in (length guests) l cmd (of_vcpu l vid selects)
  by_context (ctx.Uv (Inward move)) works = work_in (length guests) (Inward move) move cmd (inl refl) (works.least, move_below guests normal (record { cpu = n; way = way.Inward }) move works)
  by_context (ctx.Uv (Outward move)) works = work_in (length guests) (Outward move) move cmd (inr refl) (works.least, move_below guests normal (record { cpu = n; way = way.Outward }) move works)
  by_context (ctx.Uv work) works = tt
  by_context (ctx.Guest run) works = running_in (length guests) run.lpid cmd (of_vcpu run.lpid run.vid works.0)

  by_aim : (a : Aim) → IsIn (length guests) a → target_of_aim plan a ≡ AtGuest k → IsGuestIn (length guests) k
  by_aim aim.Nothing there at = absurd cc
  by_aim (aim.NamedGuest lpid) there at =
      let one = one_named (nat_le 1 lpid && nat_le lpid plan.guests) lpid k at in
      let range = one.1 in
      let same : lpid ≡ k = (let two = one.0 in cc) in
      let least : 1 ≤ lpid = grind (arith, nat_tests) in
      let most : lpid ≤ plan.guests = grind (arith, nat_tests) in
      (omega arith, omega arith)
  by_aim (aim.Guest lpid) there at = subst (IsGuestIn (length guests)) (let same : lpid ≡ k = cc in same) there
  by_aim (aim.Address ra) there at = absurd (no_address (has_real_place plan ra) (frame_of plan ra) k at)
  by_aim (aim.Move move) there at = subst (IsGuestIn (length guests)) (copied_is move.copied move.lpid k (one_moved move.copied move.lpid move.frame k at)) there

module _ {S : Type 0} (takes : S → ℕ → ℕ → Type 0) (old : State S) (n : ℕ) (cpu : Cpu) (i : ℕ) (guest : Guest S) (s : Site takes old n cpu cpu.ctx i guest) (whole : IsWholeMachine takes old) (cmd : Cmd) (targets : Targets (length old.guests) old.normal cpu cmd (AtGuest (i + 1))) where
  -- the guest that it names
  aims : guest_aimed cpu.ctx cpu.lpid cmd ≡ Some (i + 1)
  aims =
      named (sized old) cpu.ctx cpu.lpid cmd (i + 1) (targets (sized old) refl refl refl)

  -- the page of a move
  of_move : (heading : Way) (move : Move) → move.lpid ≡ i + 1 → IsMoveOf old.guests old.normal (record { cpu = n; way = heading }) move → MayEnd guest cpu heading move × HasRoomFor guest old.pool move
  of_move heading move lpid works =
      let place : i ≡ move.lpid - 1 = omega arith in
      let here = subst (λ (k : ℕ). slice_get old.guests k ≡ Some guest) place s.here in
      (moved_by old n cpu heading move guest s.is_cpu.number works here, has_room old n heading move guest whole.frames_once works here)

  -- the guest and the CPU are as the row needs them
  ready_in : (c : Ctx) → guest_aimed c cpu.lpid cmd ≡ Some (i + 1) → Works old.guests old.normal n c → ReadyIn guest cpu c × RoomIn guest old.pool c
  ready_in ctx.Hv at works = (
    λ same.
        let is : cpu.lpid ≡ i + 1 = same ∙ s.is_guest.lpid in
        let place : cpu.lpid - 1 ≡ i = omega arith in
        vcpu_below old.guests cpu.lpid cpu.vid guest s.is_cpu.selects (ap (slice_get old.guests) place ∙ s.here),
    tt,
  )
  ready_in (ctx.Uv (Inward move)) at works = of_move way.Inward move (moves_in move cpu.lpid (i + 1) cmd at) works
  ready_in (ctx.Uv (Outward move)) at works = of_move way.Outward move (moves_out move cpu.lpid (i + 1) cmd at) works
  ready_in (ctx.Uv work) at works = absurd cc
  ready_in (ctx.Guest run) at works =
      let is : run.lpid ≡ i + 1 = runs_at run cpu.lpid (i + 1) cmd at in
      let place : run.lpid - 1 ≡ i = omega arith in
      let there : slice_get old.guests (run.lpid - 1) ≡ Some guest = ap (slice_get old.guests) place ∙ s.here in
      ((vcpu_below old.guests run.lpid run.vid guest works.0 there, λ same. phase_lets old.guests old.normal n run guest works there same), tt)

  pub ready_for : IsReadyFor takes cmd guest cpu
  ready_for = record {
    aims = aims ∙ ap (λ (x : ℕ). Some x) (sym s.is_guest.lpid);
    whole = s.is_guest.whole;
    hand = s.is_cpu.hand ∙ ap (λ (shift : ℕ). 2 ^ shift) (sym s.is_guest.shift);
    works = (ready_in cpu.ctx aims s.is_cpu.works).0;
    steps = (let fewer = s.fewer in let few = s.few in omega arith);
  }

  pub ready_pool : IsReadyPool guest cpu old.pool
  ready_pool = record {
    pool_is = record { count = sym s.is_guest.secure; size = whole.size ∙ ap (λ (shift : ℕ). 2 ^ shift) (sym s.is_guest.shift) };
    room = (ready_in cpu.ctx aims s.is_cpu.works).1;
  }

  module _ (stands : S → Tag → List ℕ → List ℕ → Type 0) (image : S → Tag → List ℕ → List ℕ) (new_guest : Guest S) (new_cpu : Cpu) (pool : PoolState) (a : Answer) (frame : Option NormalPart) (left : List ℕ) (normal : NormalState) (does : DoesLent takes stands image cmd guest new_guest cpu new_cpu old.pool pool frame left a)
      (puts : PutsFrame old.normal frame left normal) where
    after : List (Guest S)
    after = slice_set old.guests i new_guest

    movers : KeepsMovers n guest new_guest
    movers = subst (λ (k : ℕ). KeepsMovers k guest new_guest) s.is_cpu.number does.movers

    number : new_cpu.number ≡ n
    number = does.own.number ∙ s.is_cpu.number

    lpid_is : new_guest.lpid ≡ i + 1
    lpid_is = does.keeps.lpid ∙ s.is_guest.lpid

    -- a vCPU of the guest is one of the machine's
    vcpu_here : (lpid vid : ℕ) → lpid ≡ new_guest.lpid → vid < length new_guest.vcpus.items → IsVcpu (slice_set old.guests i new_guest) lpid vid
    vcpu_here lpid vid same below =
        let is : lpid ≡ i + 1 = same ∙ lpid_is in
        let place : i ≡ lpid - 1 = omega arith in
        record {
          least = omega arith;
          has = subst (λ (o : Option (Guest S)). HasVcpu o vid) (sym (get_set old.guests i guest new_guest s.here) ∙ ap (slice_get (slice_set old.guests i new_guest)) place) below;
        }

    -- and so is one that runs or whose call is in progress
    runs_on : (runs : Option Run) → RunsAt new_guest runs → Runs (slice_set old.guests i new_guest) runs
    runs_on None h = tt
    runs_on (Some run) h =
        let is : run.lpid ≡ i + 1 = h.0 ∙ lpid_is in
        let place : i ≡ run.lpid - 1 = omega arith in
        let life = h.1 in
        (vcpu_here run.lpid run.vid h.0 h.2, subst (λ (o : Option (Guest S)). MayRun o run.generation) (sym (get_set old.guests i guest new_guest s.here) ∙ ap (slice_get (slice_set old.guests i new_guest)) place) (omega (arith, life), λ same. h.3))

    works_on : (c : Ctx) → WorksAt new_guest new_cpu c → Works (slice_set old.guests i new_guest) old.normal n c
    works_on ctx.Hv h = tt
    works_on (ctx.Uv (Inward move)) h =
        begun_move old.guests old.normal n cpu new_cpu i guest new_guest s.is_cpu does.keeps s.here way.Inward move s.is_guest.lpid s.is_guest.normal number h.lpid h.generation h.mover h.frame
    works_on (ctx.Uv (Outward move)) h =
        begun_move old.guests old.normal n cpu new_cpu i guest new_guest s.is_cpu does.keeps s.here way.Outward move s.is_guest.lpid s.is_guest.normal number h.lpid h.generation h.mover h.frame
    works_on (ctx.Uv work) h = runs_on (caller work) h
    works_on (ctx.Guest run) h = runs_on (Some run) h

    selects : ((new_cpu.lpid ≡ cpu.lpid) × (new_cpu.vid ≡ cpu.vid)) ⊎ ((new_cpu.lpid ≡ new_guest.lpid) × (new_cpu.vid < length new_guest.vcpus.items)) → IsVcpu (slice_set old.guests i new_guest) new_cpu.lpid new_cpu.vid
    selects (inl same) =
        subst (λ (l : ℕ). IsVcpu (slice_set old.guests i new_guest) l new_cpu.vid) (sym same.0) (subst (λ (v : ℕ). IsVcpu (slice_set old.guests i new_guest) cpu.lpid v) (sym same.1)
        (vcpu_stays old.guests i guest new_guest s.here does.keeps cpu.lpid cpu.vid s.is_cpu.selects))
    selects (inr own) = vcpu_here new_cpu.lpid new_cpu.vid own.0 own.1

    -- the machine stays whole
    pub stays_whole : IsWholeMachine takes (record old { cpus = slice_set old.cpus n new_cpu; guests = slice_set old.guests i new_guest; pool = pool; normal = normal })
    stays_whole =
        whole_normal takes (record old { cpus = slice_set old.cpus n new_cpu; guests = slice_set old.guests i new_guest; pool = pool }) n new_cpu
        (whole_guest takes old n new_cpu whole i guest new_guest pool s.here does.whole does.keeps movers does.frames s.fewer (record {
          number = number;
          selects = selects does.own.selects;
          works = works_on new_cpu.ctx does.works;
          hand = does.own.hand ∙ s.is_cpu.hand;
        }))
        normal (lent_shift old.normal normal left frame puts) (lent_count old.normal normal left frame puts)

    abbrev New : State S
    New = record old { cpus = slice_set old.cpus n new_cpu; guests = slice_set old.guests i new_guest; pool = pool; normal = normal }

    -- the entry is the one that the model gives
    continues : n < length old.cpus → i < length old.guests → IsCommand cmd → Continues stands image old New n cmd a
    continues below here command plan past line place stamp fits clean =
        let mark : Mark = mark_at n line place stamp in
        let c : CpuPart = cpu_after plan n past in
        let g : GuestWhole = guest_after plan (i + 1) past in
        let found : ℕ → ℕ → ℕ = found_after plan past in
        let e : Event = entry_at_guest plan g found (is_any_free old.pool) c mark cmd in
        let shows = fits.cpus n cpu s.there in
        let aimed : target_in plan c.ctx c.lpid cmd ≡ AtGuest (i + 1) =
        subst (λ (x : Ctx). target_in plan x c.lpid cmd ≡ AtGuest (i + 1)) shows.ctx (subst (λ (l : ℕ). target_in plan cpu.ctx l cmd ≡ AtGuest (i + 1)) shows.lpid
        (targets plan (sym fits.normal_is.shift) (sym fits.normal_is.count) (sym fits.guest_count))) in
        let is : next_entry plan past mark cmd ≡ e =
        entry_at plan past mark cmd (ask_of c cmd) (AtGuest (i + 1)) refl aimed ∙ ap (λ (free : ℕ). entry_of (ask_of c cmd) mark cmd (deed_guest plan g found (nat_lt 0 free) (ask_of c cmd) cmd)) (sym fits.free) in
        let clear : clashes g.part e ≡ false = ap (clashes_at (λ lpid. (guest_after plan lpid past).part) e) (sym aimed) ∙ ap (is_clash plan past) (sym is) ∙ clean in
        let row = does.row plan g found c mark (sym s.is_cpu.number) (fits.guests i guest s.here) shows (found_lent old.normal normal left plan past frame puts fits.normal_is) clear in
        makes_at_guest stands image old n below cpu s.there plan past line place stamp fits cmd e is command new_cpu i guest new_guest pool normal a s.here (λ lpid. ap (is_guest lpid) aimed)
        (shows_lent old.normal normal left plan past e frame puts row.1 fits.normal_is) row.0

    -- its CPU alone changes, and counts of steps
    cpu_only : normal ≡ old.normal → (P : Cpu → Cpu → Type 0) → P cpu new_cpu → SameGuest guest new_guest → pool ≡ old.pool → OnCpu n P old.cpus (slice_set old.cpus n new_cpu) old.guests (slice_set old.guests i new_guest) old.pool pool old.normal normal
    cpu_only kept P h same pool_is = record {
      cpu_count = length-set old.cpus n new_cpu;
      guest_count = length-set old.guests i new_guest;
      cpu = at_place P old.cpus n cpu new_cpu s.there h;
      others = λ k other. get_other old.cpus n k new_cpu other;
      guests_stay = guests_stay old n cpu s.there i guest new_guest s.here same;
      pool_stays = pool_is;
      normal_stays = kept;
    }

    -- its guest alone changes
    guest_only : normal ≡ old.normal → (run : Run) → run.lpid ≡ i + 1 → (P : Guest S → Guest S → Type 0) → new_cpu ≡ cpu → P guest new_guest → pool ≡ old.pool → ChangesGuest (run.lpid - 1) P old New
    guest_only kept run lpid P same h pool_is =
        let place : i ≡ run.lpid - 1 = omega arith in
        subst (λ k. ChangesGuest k P old New) place (on_guest old n cpu s.there i guest new_guest s.here P new_cpu pool normal same h pool_is kept)

    -- a refused step leaves the rest
    leaves : (c : Ctx) → guest_aimed c cpu.lpid cmd ≡ Some (i + 1) → (b : Answer) → Refuses c cmd guest new_guest cpu new_cpu old.pool pool b → (changes_life c cmd ≡ false → KeepsLife guest new_guest) → (writes_nothing b ≡ true → normal ≡ old.normal) → LeavesRest n c cmd old New b
    leaves ctx.Hv at (answer.Ret code) h life kept = λ refusal. let refused = h refusal in cpu_only (kept refl) (λ c d. RefusesCpu c d code) refused.0 refused.1.0 refused.1.1
    leaves ctx.Hv at answer.Context h life kept = absurd h
    leaves ctx.Hv at answer.Hole h life kept = absurd h
    leaves ctx.Hv at b h life kept = tt
    leaves (ctx.Uv (Inward move)) at (answer.Ret UParameter) h life kept = cpu_only (kept refl) (λ c d. BackWith c d UParameter) h.0 h.1.0 h.1.1
    leaves (ctx.Uv (Outward move)) at (answer.Ret UParameter) h life kept = cpu_only (kept refl) (λ c d. BackWith c d UParameter) h.0 h.1.0 h.1.1
    leaves (ctx.Uv (Inward move)) at (answer.Ret UP2) h life kept =
        let lpid : move.lpid ≡ i + 1 = moves_in move cpu.lpid (i + 1) cmd at in
        let place : i ≡ move.lpid - 1 = omega arith in
        record {
          cpu_count = length-set old.cpus n new_cpu;
          cpu = at_place (λ c d. BackWith c d UP2) old.cpus n cpu new_cpu s.there h.0;
          other_cpus = λ k other. get_other old.cpus n k new_cpu other;
          guest_count = length-set old.guests i new_guest;
          guest = subst (λ (k : ℕ). (g h : Guest S) → slice_get old.guests k ≡ Some g → slice_get (slice_set old.guests i new_guest) k ≡ Some h → RefusesPage move g h old.pool pool) place
              (at_place (λ g h. RefusesPage move g h old.pool pool) old.guests i guest new_guest s.here (record { back = h.1; keeps = does.keeps; life = life refl }));
          other_guests = λ k other. get_other old.guests i k new_guest (λ same. other (same ∙ place));
          normal_stays = kept refl;
        }
    leaves (ctx.Uv (Inward move)) at answer.Context h life kept = absurd h
    leaves (ctx.Uv (Outward move)) at answer.Context h life kept = absurd h
    leaves (ctx.Uv (Inward move)) at b h life kept = tt
    leaves (ctx.Uv (Outward move)) at b h life kept = tt
    leaves (ctx.Uv work) at b h life kept = absurd cc
    leaves (ctx.Guest run) at (answer.Ret code) h life kept = λ refusal. let refused = h refusal in guest_only (kept refl) run (runs_at run cpu.lpid (i + 1) cmd at) (λ g x. RefusesGuest run.vid g x code) refused.1 refused.0 refused.2
    leaves (ctx.Guest run) at answer.Hole h life kept = guest_only (kept refl) run (runs_at run cpu.lpid (i + 1) cmd at) SameGuest h.0 h.1.0 h.1.1
    leaves (ctx.Guest run) at answer.Again h life kept = guest_only (kept refl) run (runs_at run cpu.lpid (i + 1) cmd at) SameGuest h.0 h.1.0 h.1.1
    leaves (ctx.Guest run) at answer.Gone h life kept = cpu_only (kept refl) IsGone h.0 h.1.0 h.1.1
    leaves (ctx.Guest run) at answer.Context h life kept = absurd h
    leaves (ctx.Guest run) at b h life kept = tt

    module _ (needed : frame_needed guest cpu.ctx cmd ≡ option_map (λ (part : NormalPart). part.number) frame) (leaves_in : LeavesLent guest cpu cmd a frame left) where
      writes : (plan : Plan) → plan.shift ≡ old.normal.shift → plan.normal ≡ length old.normal.frames → plan.guests ≡ length old.guests → LeavesNormal old.guests plan cpu cmd a old.normal normal
      writes plan shift count guests = lent_written old.normal normal left guest cpu cmd a old.guests plan i frame s.here (shift ∙ sym s.is_guest.shift) (targets plan shift count guests) needed puts leaves_in

      -- all of it
      pub does_step : n < length old.cpus → i < length old.guests → DoesStep stands image n cmd old New a
      does_step below here = record {
        step = continues below here;
        frames_once = once_stays old i guest new_guest pool s.here does.frames whole.frames_once (slice_set old.cpus n new_cpu);
        refused = λ own there. subst (λ (x : Cpu). LeavesRest n x.ctx cmd old New a) (let same : cpu ≡ own = (let two = sym s.there ∙ there in cc) in same) (leaves cpu.ctx aims a does.refused does.life (unwritten old.normal normal left guest cpu cmd a frame puts leaves_in));
        alone = alone_guest old n cpu s.there cmd a i guest new_guest s.here new_cpu pool normal aims writes does.pool_stays does.keeps does.life movers;
        count = refl;
        cpus = length-set old.cpus n new_cpu;
        guests = length-set old.guests i new_guest;
      }
