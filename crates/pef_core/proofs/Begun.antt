-- The machine as it begins is whole, and has no history behind it.
use Rattle.pef_guest.proofs.Begun.{page_begun}
use Rattle.std.proofs.Common.{◌≡◌, ℕ, zero, suc, ◌+◌, ◌^◌, ◌<◌, ◌==◌, nat_lt, if◌then◌else◌, List, [], ◌∷◌, ◌++◌, length, replicate, refl, ap, sym, subst, ◌∙◌, arith, append-nil}
use Rattle.std.specs.Prelude.{slice_index_or}
use Rattle.std.specs.List.{count_by, flat_map}
use Rattle.std.proofs.lemmas.List.{length-replicate, get_or-replicate}
use Rattle.pef_model.specs.declared.config.Config.{Config}
use Rattle.pef_model.specs.declared.state.Tag.{Tag}
use Rattle.pef_model.specs.declared.state.VState.TheVariants.{Idle}
use Rattle.pef_model.specs.Plan.{Plan, plan_of, IsInRange}
use Rattle.pef_model.specs.Registers.{fresh_registers}
use Rattle.pef_model.specs.GuestPart.{start_state}
use Rattle.pef_model.specs.Guest.{start_guest}
use Rattle.pef_frames.specs.Frame.{FrameState, numbers_of}
use Rattle.pef_frames.specs.Pool.{PoolState, full_pool}
use Rattle.pef_frames.proofs.Counts.{starts_with_each_once}
use Rattle.std.proofs.lemmas.List.FromFn.{length-range_with_len}
use Rattle.pef_pages.specs.declared.page.Page.{Page}
use Rattle.pef_pages.specs.Cells.{kind_of, mover_of, way_of}
use Rattle.pef_pages.specs.Pages.{invalid_page, invalid_pages, page_at, held}
use Rattle.std.proofs.lemmas.Bool.{false≢true}
use Rattle.pef_guest.specs.declared.cpu.Cpu.{Cpu}
use Rattle.pef_regs.specs.declared.vcpu.Vcpu.{Vcpu}
use Rattle.pef_guest.specs.declared.guest.Guest.{Guest}
use Rattle.pef_regs.specs.Start.{start_vcpu}
use Rattle.pef_model.proofs.WordsLeft.{words_are_counted}
use Rattle.pef_guest.specs.Start.{IsStartCpu, IsStartGuest}
use Rattle.pef_guest.specs.Shows.{ShowsPages, ShowsVcpu, ShowsSealed, Shows, vcpu_at, kept_in}
use Rattle.pef_core.specs.Normal.{NormalState, ShowsNormal, zero_frames}
use Rattle.pef_core.specs.Start.{AreStartCpus, AreStartGuests, Begins}
use Rattle.pef_core.specs.State.{State, Each, IsCpuOf, IsGuestOf, IsVcpu, HasVcpu, Works, FramesOnce, IsWholeMachine}
use Rattle.pef_core.specs.Steps.{Fits}
use Rattle.pef_core.proofs.Lists.{each_map, element_at}

-- no page has a frame
none_held : (count : ℕ) → held {F = FrameState} (invalid_pages count) ≡ []
none_held zero = refl
none_held (suc count) = none_held count

shows_pages : (plan : Plan) (lpid : ℕ) → ShowsPages plan (invalid_pages plan.pages) (start_guest plan lpid)
shows_pages plan lpid = record {
  count = length-replicate plan.pages invalid_page;
  kinds = λ gfn below. ap (λ (page : Page FrameState). kind_of page.cell) (page_begun plan.pages gfn);
  movers = λ gfn below. ap (λ (page : Page FrameState). mover_of page.cell) (page_begun plan.pages gfn);
  order = refl;
  holds = λ gfn frame secure there. let none = sym (ap (λ (page : Page FrameState). kind_of page.cell) (page_begun plan.pages gfn)) ∙ secure in cc;
  zeros = λ gfn invalid gpa page. refl;
}

-- a guest as it begins shows the one of the model
module _ {S : Type 0} (stands : S → Tag → List ℕ → List ℕ → Type 0) (image : S → Tag → List ℕ → List ℕ) (config : Config) (lpid : ℕ) (guest : Guest S) (start : IsStartGuest config lpid guest.sealer guest)
    (images : image guest.sealer ≡ (plan_of config).image) where
  vcpu_begun : (vid : ℕ) → vid < config.vcpus → vcpu_at guest vid ≡ start_vcpu (start_state ((plan_of config).is_born lpid))
  vcpu_begun vid below =
      ap (λ (vcpus : List Vcpu). slice_index_or vcpus vid (start_vcpu Idle)) start.vcpus ∙ get_or-replicate config.vcpus vid (start_vcpu (start_state ((plan_of config).is_born lpid))) (start_vcpu Idle) below

  page_is : (gfn : ℕ) → page_at guest.pages gfn ≡ invalid_page
  page_is gfn = ap (λ pages. page_at pages gfn) start.pages ∙ page_begun config.pages gfn

  shows_sealed : ShowsSealed stands image (plan_of config) guest (start_guest (plan_of config) lpid)
  shows_sealed = record {
    images = images;
    versions = λ gfn below. ap (λ (page : Page FrameState). page.version) (page_is gfn);
    digests = λ gfn below. ap (λ (page : Page FrameState). kept_in page.cell) (page_is gfn);
    stands_for = λ gfn sealed below is. cc;
    words = λ gpa sealed aligned below is. cc;
    pendings = λ gfn below. (
      λ outward. absurd (let none = sym (ap (λ (page : Page FrameState). way_of (mover_of page.cell)) (page_is gfn)) ∙ outward in cc),
      λ there. absurd (false≢true there),
    );
  }

  pub shows_guest : Shows stands image (plan_of config) guest (start_guest (plan_of config) lpid)
  shows_guest = record {
    shift = start.shift;
    normal = start.normal;
    phase = start.phase;
    generation = start.generation;
    entry = rw start.entry (record { base = refl; length_is = refl });
    slots = start.slots;
    words = start.words;
    words_left = ap length start.words ∙ (words_are_counted lpid).start config;
    pages = subst (λ pages. ShowsPages (plan_of config) pages (start_guest (plan_of config) lpid)) (sym start.pages) (shows_pages (plan_of config) lpid);
    sealed = shows_sealed;
    count = ap length start.vcpus ∙ length-replicate config.vcpus (start_vcpu (start_state ((plan_of config).is_born lpid)));
    vcpus = λ vid below.
        subst (λ vcpu. ShowsVcpu vcpu ((start_guest (plan_of config) lpid).part.vcpus vid) fresh_registers) (sym (vcpu_begun vid below)) (record { state = refl; generation = refl; registers = refl });
  }

module _ {S : Type 0} (stands : S → Tag → List ℕ → List ℕ → Type 0) (image : S → Tag → List ℕ → List ℕ) (takes : S → ℕ → ℕ → Type 0) (config : Config) (range : IsInRange config) (cpus : List Cpu) (guests : List (Guest S)) (pool : PoolState) (normal : NormalState)
    (cpus_are : AreStartCpus config cpus) (guests_are : AreStartGuests image takes config guests) (pool_is : pool ≡ full_pool config.secure (2 ^ config.shift))
    (normal_is : normal ≡ zero_frames config.shift config.normal) where
  -- there is a guest 1 with a vCPU 0
  first_vcpu : IsVcpu guests 1 0
  first_vcpu =
      let some : 0 < length guests = (let count = guests_are.count in let least = range.guests.0 in omega arith) in
      let one = element_at guests 0 some in
      let begins : Begins image takes config 1 one.0 = guests_are.each 0 one.0 one.1 in
      let vcpus : length one.0.vcpus.items ≡ config.vcpus = ap length begins.start.vcpus ∙ length-replicate config.vcpus _ in
      record { least = omega arith; has = subst (λ o. HasVcpu o 0) (sym one.1) (let least = range.vcpus.0 in omega arith) }

  cpu_begun : (n : ℕ) (cpu : Cpu) → IsStartCpu n (2 ^ config.shift) cpu → IsCpuOf guests normal n cpu
  cpu_begun n cpu start = record {
    number = start.number_is;
    selects = subst (λ l. IsVcpu guests l cpu.vid) (sym start.lpid) (subst (λ v. IsVcpu guests 1 v) (sym start.vid) first_vcpu);
    works = subst (Works guests normal n) (sym start.ctx) tt;
    hand = ap length start.hand ∙ length-replicate (2 ^ config.shift) 0 ∙ ap (λ (x : NormalState). 2 ^ x.shift) (sym normal_is);
  }

  no_numbers : (gs : List (Guest S)) (lpid : ℕ) → Each (λ i guest. Begins image takes config (lpid + i) guest) gs → flat_map (λ guest. numbers_of (held guest.pages)) gs ≡ []
  no_numbers [] lpid each = refl
  no_numbers (guest ∷ gs) lpid each =
      let none : numbers_of (held guest.pages) ≡ [] = ap (λ pages. numbers_of (held pages)) (each 0 guest refl).start.pages ∙ ap numbers_of (none_held config.pages) in
      ap (λ (ns : List ℕ). ns ++ flat_map (λ x. numbers_of (held x.pages)) gs) none
      ∙ no_numbers gs (lpid + 1) (λ i x there. subst (λ l. Begins image takes config l x) (let same : lpid + suc i ≡ lpid + 1 + i = omega arith in same) (each (suc i) x there))

  once_begun : FramesOnce (let m : State S = record { cpus = cpus; guests = guests; vcpus = config.vcpus; pool = pool; normal = normal; steps = 0 } in m)
  once_begun number =
      let none : flat_map (λ guest. numbers_of (held guest.pages)) guests ≡ [] =
      no_numbers guests 1 (λ i x there. subst (λ l. Begins image takes config l x) (let same : i + 1 ≡ 1 + i = omega arith in same) (guests_are.each i x there)) in
      ap (λ (ns : List ℕ). count_by (λ n. n == number) (pool.free ++ ns)) none
      ∙ ap (count_by (λ n. n == number)) (append-nil pool.free)
      ∙ ap (λ (p : PoolState). count_by (λ n. n == number) p.free) pool_is
      ∙ starts_with_each_once config.secure (2 ^ config.shift) number
      ∙ ap (λ (p : PoolState). if nat_lt number p.count then 1 else 0) (sym pool_is)

  pub whole_begun : IsWholeMachine takes (record { cpus = cpus; guests = guests; vcpus = config.vcpus; pool = pool; normal = normal; steps = 0 })
  whole_begun = record {
    cpus = each_map (λ n cpu. IsStartCpu n (2 ^ config.shift) cpu) (IsCpuOf guests normal) cpus cpus_are.each cpu_begun;
    guests = each_map (λ i guest. Begins image takes config (i + 1) guest) (IsGuestOf takes (record { cpus = cpus; guests = guests; vcpus = config.vcpus; pool = pool; normal = normal; steps = 0 })) guests guests_are.each
        (λ i guest begins. record {
          whole = begins.whole;
          lpid = begins.start.lpid_is;
          shift = begins.start.shift ∙ ap (λ (x : NormalState). x.shift) (sym normal_is);
          normal = begins.start.normal ∙ sym (length-replicate config.normal (replicate (2 ^ config.shift) 0)) ∙ ap (λ (x : NormalState). length x.frames) (sym normal_is);
          secure = begins.start.secure ∙ ap (λ (x : PoolState). x.count) (sym pool_is);
          vcpus = ap length begins.start.vcpus ∙ length-replicate config.vcpus _;
          steps = (let none = begins.start.steps in omega arith);
        });
    few = (let count = guests_are.count in let most = range.guests.1 in omega arith);
    size = ap (λ (x : PoolState). x.size) pool_is ∙ ap (λ (x : NormalState). 2 ^ x.shift) (sym normal_is);
    frames_once = once_begun;
  }

  pub fits_begun : Fits stands image (plan_of config) (let m : State S = record { cpus = cpus; guests = guests; vcpus = config.vcpus; pool = pool; normal = normal; steps = 0 } in m) []
  fits_begun = record {
    cpu_count = cpus_are.count;
    guest_count = guests_are.count;
    vcpu_count = refl;
    cpus = λ n cpu there.
        let start = cpus_are.each n cpu there in
        record { ctx = start.ctx; own = start.gpr; lpid = start.lpid; vid = start.vid; last = start.last; hand = start.hand };
    guests = λ i guest there.
        let begins = guests_are.each i guest there in
        shows_guest stands image config (i + 1) guest begins.start begins.images;
    normal_is = subst (λ x. ShowsNormal (plan_of config) x (λ n. replicate (2 ^ config.shift) 0)) (sym normal_is) (record {
      shift = refl;
      count = length-replicate config.normal (replicate (2 ^ config.shift) 0);
      bytes = λ n below. get_or-replicate config.normal n (replicate (2 ^ config.shift) 0) [] below;
    });
    free = ap (λ (x : PoolState). length x.free) pool_is ∙ length-range_with_len 0 config.secure;
  }

  pub once_at_start : FramesOnce (let m : State S = record { cpus = cpus; guests = guests; vcpus = config.vcpus; pool = pool; normal = normal; steps = 0 } in m)
  once_at_start = once_begun
