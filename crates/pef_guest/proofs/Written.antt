-- A guest outside secure memory whose partition entry is set stays whole, and is that of the model.
use Rattle.std.proofs.Common.{◌≡◌, ℕ, ◌+◌, ◌^◌, ◌<◌, ◌≤◌, Bool, List, length, Some, None, refl, ap, sym, subst, ◌∙◌, arith}
use Rattle.pef_model.specs.declared.state.Kind.TheVariants as kind
use Rattle.pef_model.specs.declared.state.Phase.{Phase}
use Rattle.pef_model.specs.declared.state.Regs.{Regs}
use Rattle.pef_model.specs.declared.state.Tag.{Tag}
use Rattle.pef_model.specs.Plan.{Plan}
use Rattle.pef_model.specs.GuestPart.{VcpuPart}
use Rattle.pef_model.specs.Guest.{Guest as GuestWhole}
use Rattle.pef_pate.specs.declared.pate.Pate.{Pate}
use Rattle.pef_pages.specs.declared.cell.Cell.{Cell}
use Rattle.pef_pages.specs.declared.cell.Cell.TheVariants as cell
use Rattle.pef_pages.specs.Cells.{kind_of, mover_of, way_of}
use Rattle.pef_pages.specs.Pages.{cell_at}
use Rattle.pef_guest.specs.declared.guest.Guest.{Guest}
use Rattle.pef_guest.specs.Shows.{Shows, ShowsVcpu, kept_in, sealed_of, vcpu_at}
use Rattle.pef_guest.specs.Whole.{IsOutside, IsEntryOf, IsWhole}

-- an Invalid page that doesn't move keeps nothing
nothing_kept : {F : Type 0} (c : Cell F) → kind_of c ≡ kind.Invalid → mover_of c ≡ None → kept_in c ≡ None
nothing_kept cell.Invalid invalid rests = refl
nothing_kept (cell.Out digest) invalid rests = absurd cc
nothing_kept (cell.MovesOut frame cpu digest) invalid rests = absurd cc
nothing_kept (cell.MovesIn frame cpu digest) invalid rests = absurd cc
nothing_kept c invalid rests = refl

module _ {S : Type 0} (takes : S → ℕ → ℕ → Type 0) (old new : Guest S) (entry : Pate) (outside : IsOutside old.phase) (whole : IsWhole takes old) where
  -- the guest with the entry, in a phase and a generation, with the vCPUs that it has then
  abbrev pub written : Phase → ℕ → Guest S
  written phase life = record old { entry = entry; phase = phase; generation = life; vcpus = new.vcpus; steps = old.steps + 1 }

  -- it is whole, where it stays outside
  pub whole_written : (phase : Phase) (life : ℕ) → IsOutside phase → length new.vcpus.items ≡ length old.vcpus.items → life ≤ old.generation + 1 → IsEntryOf old.shift old.normal (length old.pages.pages) entry → IsWhole takes (written phase life)
  whole_written phase life after as_many few fits = record {
    shift = whole.shift;
    served = whole.served;
    frames = whole.frames;
    entry = fits;
    lives = omega (arith, few, whole.lives);
    vcpus = subst (λ (n : ℕ). n ≤ 2 ^ 8) (sym as_many) whole.vcpus;
    shared = whole.shared;
    outside = λ out. whole.outside outside;
    rests = λ secure gfn invalid. (whole.outside outside gfn).1;
    digests = λ gfn outward. absurd (let none = ap way_of (whole.outside outside gfn).1 in cc);
    versions = λ gfn. (let few = whole.versions gfn in omega arith);
  }

  -- nothing is sealed of its pages
  nothing_sealed : (stands : S → Tag → List ℕ → List ℕ → Type 0) (image : S → Tag → List ℕ → List ℕ) (plan : Plan) (g : GuestWhole) → Shows stands image plan old g → (gfn : ℕ) (sealed : List ℕ) → gfn < plan.pages → sealed_of (g.part.pages gfn) ≡ Some sealed → ⊥
  nothing_sealed stands image plan g shows gfn sealed less there =
      let none = nothing_kept (cell_at old.pages gfn) (whole.outside outside gfn).0 (whole.outside outside gfn).1 in
      let kept = shows.sealed.digests gfn less in
      cc

  -- it is that of the model, once its vCPUs are
  pub shows_written : {clean : Bool} (stands : S → Tag → List ℕ → List ℕ → Type 0) (image : S → Tag → List ℕ → List ℕ) (plan : Plan) (g : GuestWhole) (phase : Phase) (life : ℕ) (vcpus : ℕ → VcpuPart) (registers : ℕ → Regs) → Shows stands image plan old g →
      length new.vcpus.items ≡ length old.vcpus.items → ((vid : ℕ) → vid < plan.vcpus → ShowsVcpu (vcpu_at new vid) (vcpus vid) (registers vid)) →
      Shows stands image plan (written phase life)
      (record g { part = record g.part { phase = phase; generation = life; entry = record { base = entry.dw0; length_ = entry.dw1 }; vcpus = vcpus }; registers = registers; clean = clean })
  shows_written stands image plan g phase life vcpus registers shows as_many each = record {
    shift = shows.shift;
    normal = shows.normal;
    phase = refl;
    generation = refl;
    entry = record { base = refl; length_is = refl };
    slots = shows.slots;
    words = shows.words;
    words_left = shows.words_left;
    pages = record { count = shows.pages.count; kinds = shows.pages.kinds; movers = shows.pages.movers; order = shows.pages.order; holds = shows.pages.holds; zeros = shows.pages.zeros };
    sealed = record {
      images = shows.sealed.images;
      versions = shows.sealed.versions;
      digests = shows.sealed.digests;
      stands_for = λ gfn sealed less there. absurd (nothing_sealed stands image plan g shows gfn sealed less there);
      words = shows.sealed.words;
      pendings = shows.sealed.pendings;
    };
    count = as_many ∙ shows.count;
    vcpus = each;
  }
