-- What UV_PAGE_INVAL leaves of a guest.
use Rattle.std.specs.Prelude.{◌≡◌, ℕ, ◌/◌, ◌^◌, ◌<◌, true, length}
use Rattle.pef_model.specs.declared.command.Code.{Code}
use Rattle.pef_model.specs.declared.command.Code.TheVariants.{USuccess}
use Rattle.pef_model.specs.PageIn.{may_page_in_in}
use Rattle.pef_model.specs.PageInval.{may_be_dropped}
use Rattle.pef_pages.specs.Cells.{unmapped}
use Rattle.pef_pages.specs.Pages.{cell_at, kind_at, with_cell}
use Rattle.pef_guest.specs.declared.guest.Guest.{Guest}

module _ {S : Type 0} where
  -- a page of a guest has no normal frame that backs it afterwards; before it was Invalid or Shared, in a guest that is Starting or Secure
  pub record IsUnmapped (gfn : ℕ) (old new : Guest S) : Type 0 where
    pub below : gfn < length old.pages.pages
    pub drops : may_be_dropped (kind_at old.pages gfn) ≡ true
    pub phase : may_page_in_in old.phase ≡ true
    pub guest : new ≡ record old { pages = with_cell old.pages gfn (unmapped (cell_at old.pages gfn)) }

  -- the same, by the code with which the call comes back for the page at a guest address: one that is refused leaves the guest
  abbrev pub Unmaps : Code → ℕ → Guest S → Guest S → Type 0
  Unmaps USuccess gpa old new = IsUnmapped (gpa / 2 ^ old.shift) old new
  Unmaps code gpa old new = new ≡ old
