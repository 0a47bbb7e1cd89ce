-- What a guest's load and store do in its own pages, and where they aren't done.
use Rattle.std.proofs.Common.{◌≡◌, ℕ, ◌+◌, ◌/◌, ◌%◌, ◌^◌, ◌<◌, ◌≤◌, Bool, true, false, List, [], ◌∷◌, None, slice_index, length, arith, length-set, refl, ap, sym, subst, ◌∙◌, inl}
use Rattle.std.proofs.lemmas.Bool.Decides.{nat_tests}
use Rattle.pef_model.specs.declared.state.Run.{Run}
use Rattle.pef_model.specs.declared.state.Ctx.TheVariants as ctx
use Rattle.pef_model.specs.declared.state.Tag.{Tag}
use Rattle.pef_model.specs.declared.command.Cmd.{Cmd}
use Rattle.pef_model.specs.declared.command.Cmd.TheVariants.{GLd, GSt}
use Rattle.pef_model.specs.declared.entry.Answer.{Answer}
use Rattle.pef_model.specs.declared.entry.Answer.TheVariants.{Val, Done}
use Rattle.pef_model.specs.Plan.{Plan}
use Rattle.pef_model.specs.Event.{Mark}
use Rattle.pef_model.specs.Cpu.{CpuPart}
use Rattle.pef_model.specs.Guest.{Guest as GuestWhole}
use Rattle.pef_model.specs.GuestPart.{Meeting, Moves, Private, Normal, Unbacked, meets}
use Rattle.pef_model.specs.Memory.{offset_of}
use Rattle.pef_model.specs.Deed.{deed_access}
use Rattle.pef_model.specs.History.{entry_of}
use Rattle.pef_frames.specs.Frame.{FrameState}
use Rattle.pef_frames.specs.Pool.{PoolState}
use Rattle.pef_pages.specs.declared.cell.Cell.TheVariants as cell
use Rattle.pef_pages.specs.Pages.{PagesState}
use Rattle.pef_guest.specs.declared.cpu.Cpu.{Cpu}
use Rattle.pef_regs.specs.declared.vcpu.Vcpu.{Vcpu}
use Rattle.pef_guest.specs.declared.guest.Guest.{Guest}
use Rattle.pef_guest.specs.Shows.{ShowsPages, ShowsCpu, vcpu_at, Shows}
use Rattle.pef_guest.specs.Whole.{IsOutside, IsWhole}
use Rattle.pef_guest.specs.Aims.{uses_pool, frame_met, frame_running}
use Rattle.pef_guest.specs.Ready.{IsRunning}
use Rattle.pef_guest.specs.Refused.{SameGuest, Refuses}
use Rattle.pef_regs.specs.Registers.{with_registers}
use Rattle.pef_guest.specs.Rows.{RowWithPool, ask_running, entry_running}
use Rattle.pef_guest.specs.Does.{is_any_free, DoesRow}
use Rattle.pef_guest.proofs.Asked.{frames_stay, running_does}
use Rattle.pef_guest.proofs.OneVcpu.{with_step, keeps_guest, whole_counted}
use Rattle.pef_access.specs.Access.{place_at, meets_guest, value_at, stored_at, after_load, after_store, register_at}
use Rattle.pef_access.proofs.Meets.{IsAt, IsHeld, known, own_inside}
use Rattle.pef_access.proofs.AccessPages.{pool_of, with_secure, with_backed, frame_with, held_where_backed, stored_is, Leaves, leaves_same, leaves_backed, leaves_stored}
use Rattle.pef_access.proofs.AccessShows.{part_after, IsDone, done_backed, meets_is}
use Rattle.pef_access.proofs.AccessRows.{meets_by, HasTaken, IsUndone, answer_undone, load_undone, store_undone, load_done, store_done}

-- an access that is done in no frame goes into no normal one
undone_in_none : (any : Bool) (r : Meeting) → IsUndone any r → frame_met r ≡ None
undone_in_none any (Normal number) undone = absurd undone
undone_in_none any r undone = refl

-- nor does one that is done in a secure frame
own_in_none : (backs : Bool) → frame_met (meets_by backs) ≡ None
own_in_none true = refl
own_in_none false = refl

module _ {S : Type 0} {takes : S → ℕ → ℕ → Type 0} {old : Guest S} {cpu : Cpu} {run : Run} (runs : IsRunning cpu old run) (whole : IsWhole takes old) (gpa : ℕ) (stands : S → Tag → List ℕ → List ℕ → Type 0) (image : S → Tag → List ℕ → List ℕ) where
  -- the vCPU
  abbrev vcpu : Vcpu
  vcpu = vcpu_at old run.vid

  -- a plan with the size of a page as the guest has it
  abbrev sized : Plan → Plan
  sized plan = record plan { shift = old.shift }

  -- a guest shows each plan as if it had that size, so it is enough to speak of such a one
  by_size : {plan : Plan} {g : GuestWhole} (P : Plan → Type 0) → Shows stands image plan old g → (Shows stands image (sized plan) old g → P (sized plan)) → P plan
  by_size {plan = plan} {g = g} P shows does =
      let same : sized plan ≡ plan = ap (λ (n : ℕ). record plan { shift = n }) shows.shift in
      subst P same (does (subst (λ (p : Plan). Shows stands image p old g) (sym same) shows))

  -- the row of a command that answers this and leaves this guest, by the plan
  abbrev RowBy : Cmd → PoolState → PoolState → Guest S → Answer → GuestWhole → (ℕ → ℕ → ℕ) → CpuPart → Mark → Plan → Type 0
  RowBy cmd pool pool_new new a g found c mark plan =
      RowWithPool stands image plan g c (entry_running plan g found c run (is_any_free pool) mark cmd) new cpu (length pool.free) (length pool_new.free) a

  -- the same of a load, and of a store, by what it meets
  abbrev LoadBy : PoolState → PoolState → Guest S → Answer → ℕ → GuestWhole → (ℕ → ℕ → ℕ) → CpuPart → Mark → Plan → Meeting → Type 0
  LoadBy pool pool_new new a rd g found c mark plan r =
      RowWithPool stands image plan g c (entry_of (ask_running run c) mark (GLd rd gpa) (deed_access (ask_running run c) (Val (g.content gpa)) (λ n. Val (found n (offset_of plan gpa))) [] (is_any_free pool) r)) new cpu (length pool.free) (length pool_new.free) a

  abbrev StoreBy : PoolState → PoolState → Guest S → Answer → ℕ → GuestWhole → (ℕ → ℕ → ℕ) → CpuPart → Mark → Plan → Meeting → Type 0
  StoreBy pool pool_new new a rs g found c mark plan r =
      RowWithPool stands image plan g c (entry_of (ask_running run c) mark (GSt rs gpa) (deed_access (ask_running run c) Done (λ n. Done) (slice_index (g.registers run.vid).gpr rs ∷ []) (is_any_free pool) r)) new cpu (length pool.free) (length pool_new.free) a

  module _ (r : Meeting) (is : meets_guest old gpa ≡ r) where
    -- it meets this in the model too
    met : (plan : Plan) (g : GuestWhole) → Shows stands image plan old g → r ≡ meets plan g.part gpa
    met plan g shows = sym is ∙ meets_is stands image plan old g gpa shows

    -- and goes into no normal frame there, where it goes into none here
    touches : frame_met r ≡ None → (plan : Plan) (g : GuestWhole) → Shows stands image plan old g → frame_met (meets plan g.part gpa) ≡ None
    touches none plan g shows = sym (ap frame_met (met plan g shows)) ∙ none

    module _ (pool : PoolState) (undone : IsUndone (is_any_free pool) r) where
      -- the guest counts a step
      abbrev counted : Guest S
      counted = record old { steps = old.steps + 1 }

      same : SameGuest old counted
      same = record { rest = record { lpid = refl; shift = refl; normal = refl; secure = refl; phase = refl; generation = refl; entry = refl; slots = refl; words = refl; pages = refl; sealer = refl }; vcpus = refl }

      refused : (cmd : Cmd) → Refuses (ctx.Guest run) cmd old counted cpu cpu pool pool (answer_undone r)
      refused cmd = by_meeting r where
        by_meeting : (m : Meeting) → Refuses (ctx.Guest run) cmd old counted cpu cpu pool pool (answer_undone m)
        by_meeting Moves = (refl, (same, refl))
        by_meeting m = (refl, (same, refl))

      -- a command that changes nothing else
      undone_does : (cmd : Cmd) → ((plan : Plan) (g : GuestWhole) → Shows stands image plan old g → frame_running plan g.part cmd ≡ None) →
          ((plan : Plan) (g : GuestWhole) (found : ℕ → ℕ → ℕ) (c : CpuPart) (mark : Mark) → Shows stands image plan old g → ShowsCpu cpu c → RowBy cmd pool pool counted (answer_undone r) g found c mark plan) →
          DoesRow takes stands image cmd old counted cpu cpu pool pool (answer_undone r)
      undone_does cmd inside row =
          running_does runs inside (whole_counted takes old whole)
          (record { lpid = refl; shift = refl; normal = refl; secure = refl; pages = refl; vcpus = refl; generation = omega arith; phase = λ same. inl refl; steps = refl })
          (record { phase = refl; generation = refl; entry = refl }) (λ gfn mover same other moves. moves) (frames_stay old counted pool (λ number. refl)) (λ unused. refl) (refused cmd) row

      -- a load that isn't done
      pub load_undone_does : (rd : ℕ) → DoesRow takes stands image (GLd rd gpa) old (record old { steps = old.steps + 1 }) cpu cpu pool pool (answer_undone r)
      load_undone_does rd = undone_does (GLd rd gpa) (touches (undone_in_none (is_any_free pool) r undone)) (λ plan g found c mark shows shows_cpu.
          subst (LoadBy pool pool counted (answer_undone r) rd g found c mark plan) (met plan g shows)
          (load_undone stands image plan old g c cpu run gpa mark shows runs.vid runs.ctx shows_cpu (λ n. Val (found n (offset_of plan gpa))) [] rd (length pool.free) (is_any_free pool) r undone))

      -- and a store
      pub store_undone_does : (rs : ℕ) → DoesRow takes stands image (GSt rs gpa) old (record old { steps = old.steps + 1 }) cpu cpu pool pool (answer_undone r)
      store_undone_does rs = undone_does (GSt rs gpa) (touches (undone_in_none (is_any_free pool) r undone)) (λ plan g found c mark shows shows_cpu.
          subst (StoreBy pool pool counted (answer_undone r) rs g found c mark plan) (met plan g shows)
          (store_undone stands image plan old g c cpu run gpa mark shows runs.vid runs.ctx shows_cpu (λ n. Done) (slice_index (g.registers run.vid).gpr rs ∷ []) rs (length pool.free) (is_any_free pool) r undone))

  -- an access whose page is in its frame: of the guest's pages and the pool these are left; backs: the page was backed
  pub record IsReady (pool pool_new : PoolState) (pages : PagesState FrameState) (backs : Bool) : Type 0 where
    pub met : meets_guest old gpa ≡ meets_by backs
    pub inside : IsOutside old.phase → ⊥
    pub taken : HasTaken backs (is_any_free pool) (length pool.free) (length pool_new.free)
    pub held : IsHeld old.shift pages gpa
    pub leaves : Leaves old pool pool_new pages
    pub shows : (plan : Plan) (g : GuestWhole) → ShowsPages (sized plan) old.pages g → ShowsPages (sized plan) pages (record g { part = part_after (sized plan) g.part gpa backs })

  -- it is, where its page has one already
  pub ready_here : (pool : PoolState) → meets_guest old gpa ≡ Private → IsReady pool pool old.pages false
  ready_here pool is =
      let own = own_inside old gpa Private runs.phase is tt in
      record {
        met = is;
        inside = own.0;
        taken = refl;
        held = known old.shift old.slots old.pages gpa Private (λ gfn frame e. (whole.frames gfn frame e).length_is) own.1;
        leaves = leaves_same old gpa whole pool;
        shows = λ plan g shows. shows;
      }

  -- and where a free one backs it
  pub ready_backed : (number : ℕ) (more : List ℕ) → number < old.secure → meets_guest old gpa ≡ Unbacked →
      IsReady (pool_of old.secure old.shift (number ∷ more)) (pool_of old.secure old.shift more) (with_backed old.shift old.pages (place_at old.shift gpa).page number) true
  ready_backed number more small is =
      let own = own_inside old gpa Unbacked runs.phase is tt in
      let at : IsAt old.shift old.pages gpa cell.Invalid = known old.shift old.slots old.pages gpa Unbacked (λ gfn frame e. (whole.frames gfn frame e).length_is) own.1 in
      record {
        met = is;
        inside = own.0;
        taken = (let many : 0 < length (number ∷ more) = omega arith in grind (arith, nat_tests), omega arith);
        held = held_where_backed old.shift old.pages gpa number at;
        leaves = leaves_backed old gpa whole number more small at;
        shows = λ plan g shows. (done_backed (sized plan) old.pages g gpa number shows at).shows;
      }

  module _ {pool pool_new : PoolState} {pages : PagesState FrameState} {backs : Bool} (ready : IsReady pool pool_new pages backs) where
    -- what the model's guest has then
    abbrev done : (plan : Plan) (g : GuestWhole) → Shows stands image (sized plan) old g → IsDone (sized plan) pages g gpa backs
    done plan g shows = record { held = ready.held; shows = ready.shows plan g shows.pages }

    -- a command that leaves these pages, which are like those once the page is in its frame, and this vCPU
    done_does : {cmd : Cmd} {a : Answer} (ends : PagesState FrameState) (vcpu_new : Vcpu) → Leaves old pool pool_new ends → (uses_pool (ctx.Guest run) cmd ≡ false → pool_new ≡ pool) →
        Refuses (ctx.Guest run) cmd old (with_step old ends run.vid vcpu_new) cpu cpu pool pool_new a → ((plan : Plan) (g : GuestWhole) → Shows stands image plan old g → frame_running plan g.part cmd ≡ None) →
        ((plan : Plan) (g : GuestWhole) (found : ℕ → ℕ → ℕ) (c : CpuPart) (mark : Mark) → Shows stands image plan old g → ShowsCpu cpu c → RowBy cmd pool pool_new (with_step old ends run.vid vcpu_new) a g found c mark plan) →
        DoesRow takes stands image cmd old (with_step old ends run.vid vcpu_new) cpu cpu pool pool_new a
    done_does ends vcpu_new leaves unused refused inside row =
        running_does runs inside (record {
          shift = whole.shift;
          served = λ gfn below. whole.served gfn (subst (λ (n : ℕ). gfn < n) leaves.as_many below);
          frames = λ gfn. (leaves.whole.each gfn).frames;
          entry = record { pages_fit = subst (λ (n : ℕ). old.entry.dw1 ≤ n) (sym leaves.as_many) whole.entry.pages_fit; frames_fit = whole.entry.frames_fit };
          lives = omega (arith, whole.lives);
          vcpus = subst (λ (n : ℕ). n ≤ 2 ^ 8) (sym (length-set old.vcpus.items run.vid vcpu_new)) whole.vcpus;
          shared = λ gfn. (leaves.whole.each gfn).shared;
          outside = λ outside. absurd (ready.inside outside);
          rests = λ secure gfn. (leaves.whole.each gfn).rests secure;
          digests = λ gfn. (leaves.whole.each gfn).digests;
          versions = λ gfn. (leaves.whole.each gfn).version;
        })
        (keeps_guest old ends run.vid vcpu_new leaves.as_many) (record { phase = refl; generation = refl; entry = refl })
        (λ gfn mover same other moves. (leaves.like.each gfn).mover ∙ moves)
        (record { count = leaves.count; size = leaves.size; frames = leaves.frames }) unused refused row

    -- a load in a secure frame
    pub load_does : (rd : ℕ) →
        DoesRow takes stands image (GLd rd gpa) old (with_step old pages run.vid (with_registers vcpu (after_load rd (value_at pages (place_at old.shift gpa)) vcpu.regs))) cpu cpu pool pool_new (Val (value_at pages (place_at old.shift gpa)))
    load_does rd =
        let value : ℕ = value_at pages (place_at old.shift gpa) in
        let vcpu_new : Vcpu = with_registers vcpu (after_load rd value vcpu.regs) in
        done_does pages vcpu_new ready.leaves (λ used. cc) tt (touches (meets_by backs) ready.met (own_in_none backs)) (λ plan g found c mark shows shows_cpu.
        by_size (RowBy (GLd rd gpa) pool pool_new (with_step old pages run.vid vcpu_new) (Val value) g found c mark) shows (λ sized_shows.
        subst (LoadBy pool pool_new (with_step old pages run.vid vcpu_new) (Val value) rd g found c mark (sized plan)) (met (meets_by backs) ready.met (sized plan) g sized_shows)
        (load_done stands image (sized plan) old g c cpu run gpa mark sized_shows runs.vid runs.ctx shows_cpu (λ n. Val (found n (offset_of (sized plan) gpa))) [] pages ready.leaves.like rd (length pool.free) (length pool_new.free) backs (is_any_free pool)
        (done plan g sized_shows) ready.taken)))

    -- a store in a secure frame
    pub store_does : (rs : ℕ) → register_at old run.vid rs < 2 ^ 64 →
        DoesRow takes stands image (GSt rs gpa) old (with_step old (stored_at pages (place_at old.shift gpa) (register_at old run.vid rs)) run.vid (with_registers vcpu (after_store vcpu.regs))) cpu cpu pool pool_new Done
    store_does rs small =
        let value : ℕ = register_at old run.vid rs in
        let vcpu_new : Vcpu = with_registers vcpu (after_store vcpu.regs) in
        let ends : PagesState FrameState = with_secure pages (gpa / 2 ^ old.shift) (frame_with ready.held.frame (gpa % 2 ^ old.shift) value) in
        subst (λ (x : PagesState FrameState). DoesRow takes stands image (GSt rs gpa) old (with_step old x run.vid vcpu_new) cpu cpu pool pool_new Done) (sym (stored_is old.shift pages gpa value ready.held))
        (done_does ends vcpu_new (leaves_stored old gpa whole pool pool_new pages value ready.held ready.leaves) (λ used. cc) tt (touches (meets_by backs) ready.met (own_in_none backs)) (λ plan g found c mark shows shows_cpu.
        by_size (RowBy (GSt rs gpa) pool pool_new (with_step old ends run.vid vcpu_new) Done g found c mark) shows (λ sized_shows.
        subst (StoreBy pool pool_new (with_step old ends run.vid vcpu_new) Done rs g found c mark (sized plan)) (met (meets_by backs) ready.met (sized plan) g sized_shows)
        (store_done stands image (sized plan) old g c cpu run gpa mark sized_shows runs.vid runs.ctx shows_cpu (λ n. Done) (slice_index (g.registers run.vid).gpr rs ∷ []) pages ready.leaves.like rs (length pool.free) (length pool_new.free) backs (is_any_free pool)
        (done plan g sized_shows) ready.taken whole.shift.0 small))))
