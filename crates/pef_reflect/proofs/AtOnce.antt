-- A command of the hypervisor that comes back at once with a code leaves the guest, but for its slots and a count of steps.
use Rattle.std.proofs.Common.{◌≡◌, ℕ, ◌+◌, Bool, true, List, length, refl, ap, sym, subst, inl, arith}
use Rattle.pef_model.specs.declared.state.Slot.{Slot}
use Rattle.pef_model.specs.declared.state.Tag.{Tag}
use Rattle.pef_model.specs.declared.state.Ctx.TheVariants as ctx
use Rattle.pef_model.specs.declared.command.Cmd.{Cmd}
use Rattle.pef_model.specs.declared.command.Code.{Code}
use Rattle.pef_model.specs.declared.entry.Answer.TheVariants.{Ret}
use Rattle.pef_model.specs.Plan.{Plan}
use Rattle.pef_model.specs.Event.{Event, Mark}
use Rattle.pef_model.specs.Registers.{with_code}
use Rattle.pef_model.specs.Cpu.{CpuPart, next_cpu}
use Rattle.pef_model.specs.Guest.{Guest as GuestWhole, next_guest}
use Rattle.pef_model.specs.Deed.{Deed, answering, deed_hypervisor}
use Rattle.pef_model.specs.History.{entry_of}
use Rattle.pef_frames.specs.Pool.{PoolState}
use Rattle.pef_guest.specs.declared.cpu.Cpu.{Cpu}
use Rattle.pef_guest.specs.declared.guest.Guest.{Guest}
use Rattle.pef_guest.specs.Aims.{is_refusal}
use Rattle.pef_guest.specs.Does.{is_any_free, DoesRow}
use Rattle.pef_guest.specs.Ready.{WorksAt}
use Rattle.pef_guest.specs.Refused.{RefusesCpu, Refuses}
use Rattle.pef_guest.specs.Rows.{RowWithPool, ask_hypervisor}
use Rattle.pef_guest.specs.Shows.{ShowsCpu, Shows}
use Rattle.pef_guest.specs.Whole.{IsWhole}
use Rattle.pef_guest.proofs.Asked.{frames_stay, makes_hypervisor}

-- the entry of a command of the hypervisor that comes back with a code
abbrev pub refusal : Cmd → Code → CpuPart → Mark → Event
refusal cmd code c mark = entry_of (ask_hypervisor c) mark cmd (answering (ask_hypervisor c) (Ret code))

-- in the model a command comes back with a code, and changes so the slots of its guest, and of its CPU what it loads, R3 and the last answer
pub record ComesBackAlso (cmd : Cmd) (code : Code) (load : List ℕ → List ℕ) (change : List Slot → List Slot) (plan : Plan) (g : GuestWhole) (c : CpuPart) (mark : Mark) : Type 0 where
  pub deed : (any : Bool) → deed_hypervisor plan g any (ask_hypervisor c) cmd ≡ answering (ask_hypervisor c) (Ret code)
  pub guest : next_guest plan g (refusal cmd code c mark) ≡ record g { part = record g.part { slots = change g.part.slots }; clean = (next_guest plan g (refusal cmd code c mark)).clean }
  pub cpu : next_cpu c (refusal cmd code c mark) ≡ record c { ctx = ctx.Hv; own = with_code (load c.own) code; last = Ret code }

-- the same of one that leaves the slots
abbrev pub RefusesAlso : Cmd → Code → (List ℕ → List ℕ) → Plan → GuestWhole → CpuPart → Mark → Type 0
RefusesAlso cmd code load plan g c mark = ComesBackAlso cmd code load (λ slots. slots) plan g c mark

module _ {S : Type 0} (takes : S → ℕ → ℕ → Type 0) (stands : S → Tag → List ℕ → List ℕ → Type 0) (image : S → Tag → List ℕ → List ℕ) (cmd : Cmd) (code : Code) (load : List ℕ → List ℕ) (old : Guest S) (cpu : Cpu) (pool : PoolState) (hv : cpu.ctx ≡ ctx.Hv) where
  -- the guest with its slots changed, and the CPU with the command's registers and its code
  abbrev changed : (List Slot → List Slot) → Guest S
  changed change = record old { slots = change old.slots; steps = old.steps + 1 }

  abbrev answered : Cpu
  answered = record cpu { gpr = with_code (load cpu.gpr) code; last = Ret code }

  module _ (change : List Slot → List Slot) where
    -- it is whole, and that of the model
    whole_changed : IsWhole takes old → IsWhole takes (changed change)
    whole_changed whole = record {
      shift = whole.shift;
      served = whole.served;
      frames = whole.frames;
      entry = whole.entry;
      lives = omega (arith, whole.lives);
      vcpus = whole.vcpus;
      shared = whole.shared;
      outside = whole.outside;
      rests = whole.rests;
      digests = whole.digests;
      versions = λ gfn. (let few = whole.versions gfn in omega arith);
    }

    shows_changed : {clean : Bool} (plan : Plan) (g : GuestWhole) → Shows stands image plan old g → Shows stands image plan (changed change) (record g { part = record g.part { slots = change g.part.slots }; clean = clean })
    shows_changed plan g shows = record {
      shift = shows.shift;
      normal = shows.normal;
      phase = shows.phase;
      generation = shows.generation;
      entry = shows.entry;
      slots = ap change shows.slots;
      words = shows.words;
      words_left = shows.words_left;
      pages = record { count = shows.pages.count; kinds = shows.pages.kinds; movers = shows.pages.movers; order = shows.pages.order; holds = shows.pages.holds; zeros = shows.pages.zeros };
      sealed = record { images = shows.sealed.images; versions = shows.sealed.versions; digests = shows.sealed.digests; stands_for = shows.sealed.stands_for; words = shows.sealed.words; pendings = shows.sealed.pendings };
      count = shows.count;
      vcpus = shows.vcpus;
    }

    row : (plan : Plan) (g : GuestWhole) (any : Bool) (c : CpuPart) (mark : Mark) → Shows stands image plan old g → ShowsCpu cpu c → ComesBackAlso cmd code load change plan g c mark →
        RowWithPool stands image plan g c (entry_of (ask_hypervisor c) mark cmd (deed_hypervisor plan g any (ask_hypervisor c) cmd)) (changed change) answered (length pool.free) (length pool.free) (Ret code)
    row plan g any c mark shows shows_cpu also =
        subst (λ (deed : Deed). RowWithPool stands image plan g c (entry_of (ask_hypervisor c) mark cmd deed) (changed change) answered (length pool.free) (length pool.free) (Ret code)) (sym (also.deed any)) (record {
          row = record {
            answered = refl;
            guest = subst (Shows stands image plan (changed change)) (sym also.guest) (shows_changed plan g shows);
            cpu_is = subst (ShowsCpu answered) (sym also.cpu) (record {
              ctx = hv;
              own = ap (λ (own : List ℕ). with_code (load own) code) shows_cpu.own;
              lpid = shows_cpu.lpid;
              vid = shows_cpu.vid;
              last = refl;
              hand = shows_cpu.hand;
            });
          };
          pool = refl;
        })

    -- such a command does its row, where one that is refused leaves the slots
    pub comes_back_does : IsWhole takes old → RefusesCpu cpu answered code → (is_refusal cmd code ≡ true → change old.slots ≡ old.slots) →
        ((plan : Plan) (g : GuestWhole) (c : CpuPart) (mark : Mark) → Shows stands image plan old g → ShowsCpu cpu c → ComesBackAlso cmd code load change plan g c mark) → DoesRow takes stands image cmd old (changed change) cpu answered pool pool (Ret code)
    comes_back_does whole refuses stays also = record {
      whole = whole_changed whole;
      keeps = record { lpid = refl; shift = refl; normal = refl; secure = refl; pages = refl; vcpus = refl; generation = omega arith; phase = λ same. inl refl; steps = refl };
      life = λ still. record { phase = refl; generation = refl; entry = refl };
      movers = λ gfn mover same other moves. moves;
      frames = frames_stay old (changed change) pool (λ number. refl);
      own = record { number = refl; hand = refl; selects = inl (refl, refl) };
      works = subst (WorksAt (changed change) answered) (sym hv) tt;
      pool_stays = λ unused. refl;
      refused = subst (λ c. Refuses c cmd old (changed change) cpu answered pool pool (Ret code)) (sym hv) (λ refusal. (
        refuses,
        (record { rest = record { lpid = refl; shift = refl; normal = refl; secure = refl; phase = refl; generation = refl; entry = refl; slots = stays refusal; words = refl; pages = refl; sealer = refl }; vcpus = refl }, refl),
      ));
      row = makes_hypervisor takes stands image cmd old (changed change) cpu answered pool pool (Ret code) hv
          (λ plan g found c mark marked shows shows_cpu. row plan g (is_any_free pool) c mark shows shows_cpu (also plan g c mark shows shows_cpu));
    }

  -- one that leaves the slots does its row
  pub refuses_does : IsWhole takes old → RefusesCpu cpu answered code →
      ((plan : Plan) (g : GuestWhole) (c : CpuPart) (mark : Mark) → Shows stands image plan old g → ShowsCpu cpu c → RefusesAlso cmd code load plan g c mark) → DoesRow takes stands image cmd old (changed (λ slots. slots)) cpu answered pool pool (Ret code)
  refuses_does whole refuses also = comes_back_does (λ slots. slots) whole refuses (λ refused. refl) also
