-- Where the one copy of a page is that counts.
use Rattle.std.specs.Prelude.{ℕ, List, Option, Some, None, option_map}
use Rattle.pef_model.specs.declared.state.Kind.{Kind}
use Rattle.pef_model.specs.declared.state.Kind.TheVariants as kind
use Rattle.pef_model.specs.GuestPart.{Page}
use Rattle.pef_model.specs.History.{PublicState}

-- a place of a page's copy: the secure frame that the page has, sealed bytes that the hypervisor may have, a normal frame
pub data Copy : Type 0 where
  InSecureFrame : Copy
  InSealedBytes : List ℕ → Copy
  InNormalFrame : ℕ → Copy

-- by the kind and by what was last sealed: a page that moves outward counts in its frame, and one that moves inward in its sealed bytes, until the move ends
abbrev pub authority_by : Kind → Option (List ℕ) → Option Copy
authority_by kind.Invalid sealed = None
authority_by kind.Secure sealed = Some InSecureFrame
authority_by kind.Out sealed = option_map InSealedBytes sealed
authority_by (kind.Shared None fresh) sealed = None
authority_by (kind.Shared (Some frame) fresh) sealed = Some (InNormalFrame frame)

-- the copy of a page that counts
abbrev pub authority_of : Page → Option Copy
authority_of page = authority_by page.kind page.sealed

-- the copy that counts of a guest's page
abbrev pub authority : PublicState → ℕ → ℕ → Option Copy
authority public lpid gfn = authority_of ((public.guests lpid).pages gfn)
