-- What each row of a guest's access in its own pages does, by what it found.
use Rattle.std.proofs.Common.{◌≡◌, ℕ, ◌+◌, ◌^◌, ◌<◌, true, false, if◌then◌else◌, List, [], ◌∷◌, Some, None, IfSome, Ok, Err, refl, sym, subst, ◌∙◌}
use Rattle.pef_model.specs.declared.state.Run.{Run}
use Rattle.pef_model.specs.declared.state.Tag.{Tag}
use Rattle.pef_model.specs.declared.command.Cmd.TheVariants.{GLd, GSt}
use Rattle.pef_model.specs.declared.entry.Answer.{Answer}
use Rattle.pef_model.specs.declared.entry.Answer.TheVariants.{Val, Done, Hole}
use Rattle.pef_num.specs.declared.place.Place.{Place}
use Rattle.pef_frames.specs.Frame.{FrameState}
use Rattle.pef_frames.specs.Pool.{PoolState, first_free, without_first}
use Rattle.pef_pages.specs.Pages.{PagesState}
use Rattle.pef_guest.specs.declared.cpu.Cpu.{Cpu}
use Rattle.pef_guest.specs.declared.guest.Guest.{Guest}
use Rattle.pef_guest.specs.Whole.{IsWhole}
use Rattle.pef_guest.specs.Keeps.{IsPoolOf}
use Rattle.pef_guest.specs.Ready.{IsRunning}
use Rattle.pef_guest.specs.Does.{is_any_free, DoesRow}
use Rattle.pef_access.specs.Access.{place_at, meets_guest, asks_at, through_at, found_at, backed_by, value_at, stored_at, after_load, after_store, register_at, with_change}
use Rattle.pef_access.proofs.AccessPages.{pool_of}
use Rattle.pef_access.proofs.AccessDoes.{load_undone_does, store_undone_does, ready_here, ready_backed, load_does, store_does}
use Rattle.pef_access.proofs.Found.{found, not_found, unbacked, backed, not_backed, none_free}

module _ {S : Type 0} {takes : S → ℕ → ℕ → Type 0} {old : Guest S} {cpu : Cpu} {run : Run} (runs : IsRunning cpu old run) (whole : IsWhole takes old) (gpa : ℕ) (stands : S → Tag → List ℕ → List ℕ → Type 0) (image : S → Tag → List ℕ → List ℕ) where
  abbrev place : Place
  place = place_at old.shift gpa

  -- the guest with these pages, one step later
  abbrev with_pages : PagesState FrameState → Guest S
  with_pages pages = record old { pages = pages; steps = old.steps + 1 }

  -- a load, and a store, at a place of these pages
  abbrev Loads : ℕ → PoolState → PoolState → PagesState FrameState → Place → Type 0
  Loads rd pool pool_new pages there = DoesRow takes stands image (GLd rd gpa) old (with_change (with_pages pages) run.vid (after_load rd (value_at pages there))) cpu cpu pool pool_new (Val (value_at pages there))

  abbrev Stores : ℕ → PoolState → PoolState → PagesState FrameState → Place → Type 0
  Stores rs pool pool_new pages there = DoesRow takes stands image (GSt rs gpa) old (with_change (with_pages (stored_at pages there (register_at old run.vid rs))) run.vid after_store) cpu cpu pool pool_new Done

  -- one that found its doubleword
  pub load_found : (rd : ℕ) (pool : PoolState) (there : Place) → found_at place (meets_guest old gpa) ≡ Ok there → Loads rd pool pool old.pages there
  load_found rd pool there is =
      let met = found place there (meets_guest old gpa) is in
      subst (Loads rd pool pool old.pages) (sym met.1) (load_does runs whole gpa stands image (ready_here runs whole gpa stands image pool met.0) rd)

  pub store_found : (rs : ℕ) (pool : PoolState) (there : Place) → register_at old run.vid rs < 2 ^ 64 → found_at place (meets_guest old gpa) ≡ Ok there → Stores rs pool pool old.pages there
  store_found rs pool there small is =
      let met = found place there (meets_guest old gpa) is in
      subst (Stores rs pool pool old.pages) (sym met.1) (store_does runs whole gpa stands image (ready_here runs whole gpa stands image pool met.0) rs small)

  -- one that didn't, and asks for no frame
  module _ (asks : asks_at old gpa ≡ false) (inside : through_at old gpa ≡ None) (pool : PoolState) (answer : Answer) (is : found_at place (meets_guest old gpa) ≡ Err answer) where
    pub load_not_found : (rd : ℕ) → DoesRow takes stands image (GLd rd gpa) old (with_pages old.pages) cpu cpu pool pool answer
    load_not_found rd =
        let met = not_found (is_any_free pool) place answer (meets_guest old gpa) asks inside is in
        rw met.1 (load_undone_does runs whole gpa stands image (meets_guest old gpa) refl pool met.0 rd)

    pub store_not_found : (rs : ℕ) → DoesRow takes stands image (GSt rs gpa) old (with_pages old.pages) cpu cpu pool pool answer
    store_not_found rs =
        let met = not_found (is_any_free pool) place answer (meets_guest old gpa) asks inside is in
        rw met.1 (store_undone_does runs whole gpa stands image (meets_guest old gpa) refl pool met.0 rs)

  -- one that asks for a free frame
  module _ (asks : asks_at old gpa ≡ true) (pool : PoolState) where
    -- the pages after it, with these free
    abbrev after : PoolState → PagesState FrameState
    after p = backed_by old.pages place.page (first_free p)

    module _ (is_pool : IsPoolOf old pool) (small : IfSome (first_free pool) (λ (frame : FrameState). frame.number < pool.count)) (there : Place) (is : (if is_any_free pool then Some place else None) ≡ Some there) where
      -- what holds where a frame is first holds for the pool
      by_free : (P : PoolState → Place → Type 0) → ((number : ℕ) (more : List ℕ) → number < old.secure → P (pool_of old.secure old.shift (number ∷ more)) place) → P pool there
      by_free P does = subst (P pool) (sym (backed (is_any_free pool) place there is).1) (subst (λ (p : PoolState). P p place) (sym same) (by_first pool.free refl)) where
        same : pool ≡ pool_of old.secure old.shift pool.free
        same = λ i. record { count = is_pool.count i; size = is_pool.size i; free = pool.free }

        by_first : (free : List ℕ) → pool.free ≡ free → P (pool_of old.secure old.shift free) place
        by_first [] none = absurd cc
        by_first (number ∷ more) first = does number more (subst (λ (p : PoolState). IfSome (first_free p) (λ (frame : FrameState). frame.number < p.count)) (same ∙ (λ i. pool_of old.secure old.shift (first i))) small)

      pub load_backed : (rd : ℕ) → Loads rd pool (without_first pool) (after pool) there
      load_backed rd = by_free (λ (p : PoolState) (at : Place). Loads rd p (without_first p) (after p) at) (λ number more less.
          load_does runs whole gpa stands image (ready_backed runs whole gpa stands image number more less (unbacked (meets_guest old gpa) asks)) rd)

      pub store_backed : (rs : ℕ) → register_at old run.vid rs < 2 ^ 64 → Stores rs pool (without_first pool) (after pool) there
      store_backed rs narrow = by_free (λ (p : PoolState) (at : Place). Stores rs p (without_first p) (after p) at) (λ number more less.
          store_does runs whole gpa stands image (ready_backed runs whole gpa stands image number more less (unbacked (meets_guest old gpa) asks)) rs narrow)

    module _ (is : (if is_any_free pool then Some place else None) ≡ None) where
      -- what holds of an empty pool holds for this
      by_none : (P : PoolState → Type 0) → P (record pool { free = [] }) → P pool
      by_none P does = subst (λ (free : List ℕ). P (record pool { free = free })) (sym (none_free pool.free (not_backed (is_any_free pool) place is))) does

      pub load_not_backed : (rd : ℕ) → DoesRow takes stands image (GLd rd gpa) old (with_pages (after pool)) cpu cpu pool (without_first pool) Hole
      load_not_backed rd = by_none (λ (p : PoolState). DoesRow takes stands image (GLd rd gpa) old (with_pages (after p)) cpu cpu p (without_first p) Hole)
          (load_undone_does runs whole gpa stands image _ (unbacked (meets_guest old gpa) asks) (record pool { free = [] }) refl rd)

      pub store_not_backed : (rs : ℕ) → DoesRow takes stands image (GSt rs gpa) old (with_pages (after pool)) cpu cpu pool (without_first pool) Hole
      store_not_backed rs = by_none (λ (p : PoolState). DoesRow takes stands image (GSt rs gpa) old (with_pages (after p)) cpu cpu p (without_first p) Hole)
          (store_undone_does runs whole gpa stands image _ (unbacked (meets_guest old gpa) asks) (record pool { free = [] }) refl rs)
