-- A guest whose vCPU does a step is that of the model after the step, once the vCPU and the pages are.
use Rattle.std.proofs.Common.{◌≡◌, ◌≢◌, ℕ, ◌+◌, ◌-◌, ◌^◌, ◌<◌, ◌≤◌, Bool, List, [], ◌∷◌, length, drop, length-drop, Option, Some, ◌⊎◌, inl, inr, refl, ap, sym, subst, ◌∙◌, arith, get_or, slice_index, slice_set}
use Rattle.std.specs.Prelude.{unwrap_or, slice_get}
use Rattle.std.specs.Vec.{with_item}
use Rattle.std.proofs.lemmas.List.{get_or-set_same, get_or-set_other, get_or_default, set-get_or, length-set}
use Rattle.std.proofs.lemmas.Bool.{cases_eq}
use Rattle.pef_model.specs.declared.state.Pending.{Pending}
use Rattle.pef_model.specs.declared.state.Regs.{Regs}
use Rattle.pef_model.specs.declared.state.Tag.{Tag}
use Rattle.pef_model.specs.declared.state.VState.TheVariants.{Idle, Running, Parked}
use Rattle.pef_model.specs.declared.state.Run.{Run}
use Rattle.pef_model.specs.declared.state.Ctx.TheVariants as ctx
use Rattle.pef_model.specs.Plan.{Plan}
use Rattle.pef_model.specs.Cpu.{CpuPart}
use Rattle.pef_guest.specs.declared.cpu.Cpu.{Cpu}
use Rattle.pef_model.specs.GuestPart.{GuestPart, VcpuPart, put, with_running_vcpu, with_parked_vcpu}
use Rattle.pef_model.specs.Guest.{next_word, Guest as GuestWhole}
use Rattle.pef_model.proofs.Puts.{put-here, put-other}
use Rattle.pef_frames.specs.Frame.{FrameState}
use Rattle.pef_pages.specs.Pages.{PagesState}
use Rattle.pef_regs.specs.declared.vcpu.Vcpu.{Vcpu}
use Rattle.pef_regs.specs.Start.{start_vcpu}
use Rattle.pef_regs.specs.Registers.{with_registers}
use Rattle.pef_guest.specs.declared.guest.Guest.{Guest}
use Rattle.pef_guest.specs.Shows.{ShowsEntry, ShowsPages, ShowsSealed, ShowsCpu, ShowsVcpu, vcpu_at, Shows}
use Rattle.pef_guest.specs.Whole.{IsWhole}
use Rattle.pef_guest.specs.Keeps.{KeepsGuest}
use Rattle.pef_guest.specs.Refused.{SameGuest}

-- a guest a step later, with other pages and another vCPU of a number
abbrev pub with_step : {S : Type 0} → Guest S → PagesState FrameState → ℕ → Vcpu → Guest S
with_step old pages vid vcpu = record {
  lpid = old.lpid;
  shift = old.shift;
  normal = old.normal;
  secure = old.secure;
  phase = old.phase;
  generation = old.generation;
  entry = old.entry;
  slots = old.slots;
  words = old.words;
  pages = pages;
  vcpus = with_item old.vcpus vid vcpu;
  sealer = old.sealer;
  steps = old.steps + 1;
}

-- what such a step keeps
pub keeps_guest : {S : Type 0} (old : Guest S) (pages : PagesState FrameState) (vid : ℕ) (vcpu : Vcpu) → length pages.pages ≡ length old.pages.pages → KeepsGuest old (with_step old pages vid vcpu)
keeps_guest old pages vid vcpu as_many = record {
  lpid = refl;
  shift = refl;
  normal = refl;
  secure = refl;
  pages = as_many;
  vcpus = length-set old.vcpus.items vid vcpu;
  generation = omega arith;
  phase = λ same. inl refl;
  steps = refl;
}

-- a guest of which one vCPU changes is whole
pub whole_vcpu : {S : Type 0} (takes : S → ℕ → ℕ → Type 0) (old : Guest S) (vid : ℕ) (vcpu : Vcpu) → IsWhole takes old → IsWhole takes (with_step old old.pages vid vcpu)
whole_vcpu takes old vid vcpu whole = record {
  shift = whole.shift;
  served = whole.served;
  frames = whole.frames;
  entry = whole.entry;
  lives = omega (arith, whole.lives);
  vcpus = subst (λ (n : ℕ). n ≤ 2 ^ 8) (sym (length-set old.vcpus.items vid vcpu)) whole.vcpus;
  shared = whole.shared;
  outside = whole.outside;
  rests = whole.rests;
  digests = whole.digests;
  versions = λ gfn. (let few = whole.versions gfn in omega arith);
}

-- a guest that only counts a step is whole
pub whole_counted : {S : Type 0} (takes : S → ℕ → ℕ → Type 0) (old : Guest S) → IsWhole takes old → IsWhole takes (record old { steps = old.steps + 1 })
whole_counted takes old whole = record {
  shift = whole.shift;
  served = whole.served;
  frames = whole.frames;
  entry = whole.entry;
  lives = omega (arith, whole.lives);
  vcpus = whole.vcpus;
  shared = whole.shared;
  outside = whole.outside;
  rests = whole.rests;
  digests = whole.digests;
  versions = λ gfn. (let few = whole.versions gfn in omega arith);
}

-- a guest that is given its next entropy word is whole
pub whole_words : {S : Type 0} (takes : S → ℕ → ℕ → Type 0) (old : Guest S) (words : List ℕ) → IsWhole takes old → IsWhole takes (record old { words = words })
whole_words takes old words whole = record {
  shift = whole.shift;
  served = whole.served;
  frames = whole.frames;
  entry = whole.entry;
  lives = whole.lives;
  vcpus = whole.vcpus;
  shared = whole.shared;
  outside = whole.outside;
  rests = whole.rests;
  digests = whole.digests;
  versions = whole.versions;
}

-- the vCPU that was read is that of the number
pub is_at : {S : Type 0} (old : Guest S) (vid : ℕ) (vcpu : Vcpu) → vid < length old.vcpus.items → vcpu ≡ get_or old.vcpus.items vid vcpu → vcpu ≡ vcpu_at old vid
is_at old vid vcpu below there = there ∙ get_or_default old.vcpus.items vid vcpu (start_vcpu Idle) below

-- a guest of which a vCPU was read, and put back as it was
pub same_guest : {S : Type 0} (old : Guest S) (vid : ℕ) (vcpu : Vcpu) → vcpu ≡ get_or old.vcpus.items vid vcpu → SameGuest old (with_step old old.pages vid vcpu)
same_guest old vid vcpu there = record {
  rest = record { lpid = refl; shift = refl; normal = refl; secure = refl; phase = refl; generation = refl; entry = refl; slots = refl; words = refl; pages = refl; sealer = refl };
  vcpus = ap (slice_set old.vcpus.items vid) there ∙ set-get_or old.vcpus.items vid vcpu;
}

-- the model's guest after a step of a vCPU
abbrev pub stepped : GuestWhole → ℕ → GuestPart → (ℕ → ℕ) → Regs → Bool → GuestWhole
stepped g vid part content regs clean = record g { part = part; content = content; registers = put g.registers vid regs; clean = clean }

-- the first word of a list
first_word : (words : List ℕ) (word : ℕ) → slice_get words 0 ≡ Some word → word ≡ slice_index words 0
first_word [] word first = cc
first_word (one ∷ words) word first = ap (λ (o : Option ℕ). unwrap_or o 0) (sym first)

-- a CPU that runs a vCPU before and after a step
pub shows_stays : (run : Run) (cpu : Cpu) (c : CpuPart) → cpu.ctx ≡ ctx.Guest run → ShowsCpu cpu c → ShowsCpu cpu (record c { ctx = ctx.Guest run })
shows_stays run cpu c runs shows = record { ctx = runs; own = shows.own; lpid = shows.lpid; vid = shows.vid; last = shows.last; hand = shows.hand }

module _ {S : Type 0} (stands : S → Tag → List ℕ → List ℕ → Type 0) (image : S → Tag → List ℕ → List ℕ) (plan : Plan) (old : Guest S) (g : GuestWhole) (vid : ℕ) (shows : Shows stands image plan old g)
    (below : vid < length old.vcpus.items) where
  -- the vCPU is that of the model
  pub shows_own : ShowsVcpu (vcpu_at old vid) (g.part.vcpus vid) (g.registers vid)
  shows_own = shows.vcpus vid (subst (λ (n : ℕ). vid < n) shows.count below)

  -- the guest a step later, once its pages and its vCPU are those of the model's guest
  pub shows_step : {clean : Bool} (part : GuestPart) (content : ℕ → ℕ) (pages : PagesState FrameState) (vcpu : Vcpu) (regs : Regs) → part.phase ≡ g.part.phase → part.generation ≡ g.part.generation → part.entry ≡ g.part.entry → part.slots ≡ g.part.slots → part.words ≡ g.part.words →
      ((n : ℕ) → n ≢ vid → part.vcpus n ≡ g.part.vcpus n) → ShowsVcpu vcpu (part.vcpus vid) regs → ShowsPages plan pages (record g { part = part; content = content }) →
      ShowsSealed stands image plan (with_step old pages vid vcpu) (stepped g vid part content regs clean) →
      Shows stands image plan (with_step old pages vid vcpu) (stepped g vid part content regs clean)
  shows_step part content pages vcpu regs phase generation entry slots words others own shows_pages shows_sealed = record {
    shift = shows.shift;
    normal = shows.normal;
    phase = shows.phase ∙ sym phase;
    generation = shows.generation ∙ sym generation;
    entry = subst (ShowsEntry old.entry) (sym entry) shows.entry;
    slots = shows.slots ∙ sym slots;
    words = shows.words;
    words_left = shows.words_left ∙ sym words;
    pages = record { count = shows_pages.count; kinds = shows_pages.kinds; movers = shows_pages.movers; order = shows_pages.order; holds = shows_pages.holds; zeros = shows_pages.zeros };
    sealed = shows_sealed;
    count = length-set old.vcpus.items vid vcpu ∙ shows.count;
    vcpus = λ n less. by_number n less (cases_eq n vid);
  } where
    -- the vCPUs after the step
    here : vcpu_at (with_step old pages vid vcpu) vid ≡ vcpu
    here = get_or-set_same old.vcpus.items vid vcpu (start_vcpu Idle) below

    there : (n : ℕ) → n ≢ vid → vcpu_at (with_step old pages vid vcpu) n ≡ vcpu_at old n
    there n other = get_or-set_other old.vcpus.items vid n vcpu (start_vcpu Idle) other

    by_number : (n : ℕ) → n < plan.vcpus → (n ≡ vid) ⊎ (n ≢ vid) → ShowsVcpu (vcpu_at (with_step old pages vid vcpu) n) (part.vcpus n) (put g.registers vid regs n)
    by_number n less (inl is) =
        subst (λ (m : ℕ). ShowsVcpu (vcpu_at (with_step old pages vid vcpu) m) (part.vcpus m) (put g.registers vid regs m)) (sym is) (record {
          state = ap (λ (v : Vcpu). v.state) here ∙ own.state;
          generation = ap (λ (v : Vcpu). v.generation) here ∙ own.generation;
          registers = ap (λ (v : Vcpu). v.regs) here ∙ own.registers ∙ sym (put-here g.registers vid regs);
        })
    by_number n less (inr other) = record {
      state = ap (λ (v : Vcpu). v.state) (there n other) ∙ (shows.vcpus n less).state ∙ sym (ap (λ (v : VcpuPart). v.state) (others n other));
      generation = ap (λ (v : Vcpu). v.generation) (there n other) ∙ (shows.vcpus n less).generation ∙ sym (ap (λ (v : VcpuPart). v.generation) (others n other));
      registers = ap (λ (v : Vcpu). v.regs) (there n other) ∙ (shows.vcpus n less).registers ∙ sym (put-other g.registers vid regs n other);
    }

  -- the same where the pages stay
  shows_vcpu : {clean : Bool} (vcpus : ℕ → VcpuPart) (vcpu : Vcpu) (regs : Regs) → ((n : ℕ) → n ≢ vid → vcpus n ≡ g.part.vcpus n) → ShowsVcpu vcpu (vcpus vid) regs →
      Shows stands image plan (with_step old old.pages vid vcpu) (stepped g vid (record g.part { vcpus = vcpus }) g.content regs clean)
  shows_vcpu vcpus vcpu regs others own =
      shows_step (record g.part { vcpus = vcpus }) g.content old.pages vcpu regs refl refl refl refl refl others own
      (record { count = shows.pages.count; kinds = shows.pages.kinds; movers = shows.pages.movers; order = shows.pages.order; holds = shows.pages.holds; zeros = shows.pages.zeros })
      (record { images = shows.sealed.images; versions = shows.sealed.versions; digests = shows.sealed.digests; stands_for = shows.sealed.stands_for; words = shows.sealed.words; pendings = shows.sealed.pendings })

  -- a step that changes the registers of its vCPU
  pub shows_registers : {clean : Bool} (change : Regs → Regs) →
      Shows stands image plan (with_step old old.pages vid (with_registers (vcpu_at old vid) (change (vcpu_at old vid).regs))) (stepped g vid g.part g.content (change (g.registers vid)) clean)
  shows_registers change =
      shows_vcpu g.part.vcpus (with_registers (vcpu_at old vid) (change (vcpu_at old vid).regs)) (change (g.registers vid)) (λ n other. refl)
      (record { state = shows_own.state; generation = shows_own.generation; registers = ap change shows_own.registers })

  -- a step that gives its vCPU the first of the entropy words that are left, and changes its registers by that
  pub shows_drawn : {clean : Bool} (word : ℕ) (change : ℕ → Regs → Regs) → slice_get old.words 0 ≡ Some word →
      Shows stands image plan (record (with_step old old.pages vid (with_registers (vcpu_at old vid) (change word (vcpu_at old vid).regs))) { words = drop 1 old.words })
      (record (stepped g vid (record g.part { words = g.part.words - 1 }) g.content (change (next_word g) (g.registers vid)) clean) { words = drop 1 g.words })
  shows_drawn {clean = clean} word change first =
      let same : word ≡ next_word g = first_word old.words word first ∙ ap (λ (words : List ℕ). slice_index words 0) shows.words in
      let plain : Shows stands image plan (with_step old old.pages vid (with_registers (vcpu_at old vid) (change word (vcpu_at old vid).regs))) (stepped g vid g.part g.content (change word (g.registers vid)) clean) = shows_registers (change word) in
      subst (λ (w : ℕ). Shows stands image plan (record (with_step old old.pages vid (with_registers (vcpu_at old vid) (change word (vcpu_at old vid).regs))) { words = drop 1 old.words })
      (record (stepped g vid (record g.part { words = g.part.words - 1 }) g.content (change w (g.registers vid)) clean) { words = drop 1 g.words })) same
      (record {
        shift = plain.shift;
        normal = plain.normal;
        phase = plain.phase;
        generation = plain.generation;
        entry = plain.entry;
        slots = plain.slots;
        words = ap (drop 1) shows.words;
        words_left = length-drop 1 old.words ∙ ap (λ (n : ℕ). n - 1) shows.words_left;
        pages = record { count = plain.pages.count; kinds = plain.pages.kinds; movers = plain.pages.movers; order = plain.pages.order; holds = plain.pages.holds; zeros = plain.pages.zeros };
        sealed = record { images = plain.sealed.images; versions = plain.sealed.versions; digests = plain.sealed.digests; stands_for = plain.sealed.stands_for; words = plain.sealed.words; pendings = plain.sealed.pendings };
        count = plain.count;
        vcpus = plain.vcpus;
      })

  -- a vCPU that leaves is parked, with its registers, or as the step changes them
  pub shows_parked : {clean : Bool} (pending : Pending) (change : Regs → Regs) →
      Shows stands image plan (with_step old old.pages vid (record (vcpu_at old vid) { state = Parked pending; regs = change (vcpu_at old vid).regs })) (stepped g vid (with_parked_vcpu g.part vid pending) g.content (change (g.registers vid)) clean)
  shows_parked pending change =
      let vcpu : Vcpu = record (vcpu_at old vid) { state = Parked pending; regs = change (vcpu_at old vid).regs } in
      shows_vcpu (with_parked_vcpu g.part vid pending).vcpus vcpu (change (g.registers vid)) (put-other g.part.vcpus vid _)
      (subst (λ (v : VcpuPart). ShowsVcpu vcpu v (change (g.registers vid))) (sym (put-here g.part.vcpus vid _))
      (record { state = refl; generation = shows_own.generation; registers = ap change shows_own.registers }))

  -- a vCPU that is taken up runs on the CPU, in the generation of its guest, with its registers as the step changes them
  pub shows_running : {clean : Bool} (cpu : ℕ) (change : Regs → Regs) →
      Shows stands image plan (with_step old old.pages vid (record { state = Running cpu; generation = old.generation; regs = change (vcpu_at old vid).regs }))
      (stepped g vid (with_running_vcpu g.part vid cpu) g.content (change (g.registers vid)) clean)
  shows_running cpu change =
      let vcpu : Vcpu = record { state = Running cpu; generation = old.generation; regs = change (vcpu_at old vid).regs } in
      shows_vcpu (with_running_vcpu g.part vid cpu).vcpus vcpu (change (g.registers vid)) (put-other g.part.vcpus vid _)
      (subst (λ (v : VcpuPart). ShowsVcpu vcpu v (change (g.registers vid))) (sym (put-here g.part.vcpus vid _))
      (record { state = refl; generation = shows.generation; registers = ap change shows_own.registers }))

  -- a command of another context leaves the guest
  pub shows_read : {clean : Bool} → Shows stands image plan (with_step old old.pages vid (vcpu_at old vid)) (stepped g vid g.part g.content (g.registers vid) clean)
  shows_read = shows_registers (λ regs. regs)
