-- Laws of the public state: its parts, and which copy of a page counts.
use Rattle.std.specs.Prelude.{◌≡◌, ℕ, Bool, List, Option, Some, None}
use Rattle.pef_model.specs.declared.state.Kind.TheVariants.{Invalid, Secure, Out, Shared}
use Rattle.pef_model.specs.Plan.{Plan}
use Rattle.pef_model.specs.Event.{Event}
use Rattle.pef_model.specs.GuestPart.{Page}
use Rattle.pef_model.specs.Authority.{Copy, InSecureFrame, InSealedBytes, InNormalFrame, authority}
use Rattle.pef_model.specs.History.{PublicState, cpu_after, guest_after, pool_after, frame_after, public_state}

-- the public state has the CPUs, what is public of the guests, the number of free frames and the normal frames
pub record HasObjects (plan : Plan) (past : List Event) : Type 0 where
  pub cpus : (n : ℕ) → (public_state plan past).cpus n ≡ cpu_after plan n past
  pub guests : (lpid : ℕ) → (public_state plan past).guests lpid ≡ (guest_after plan lpid past).part
  pub pool : (public_state plan past).pool ≡ pool_after plan past
  pub frames : (n : ℕ) → (public_state plan past).frames n ≡ frame_after plan n past

abbrev pub PublicStateHasObjects : Type 0
PublicStateHasObjects = (plan : Plan) (past : List Event) → HasObjects plan past

-- the copy of a page that counts, by the page's kind
pub record CountsByKind (copy : Option Copy) (page : Page) : Type 0 where
  -- its secure frame, also while it goes out
  pub secure : page.kind ≡ Secure → copy ≡ Some InSecureFrame
  -- what was last sealed of it, also while it comes in
  pub out : (sealed : List ℕ) → page.kind ≡ Out → page.sealed ≡ Some sealed → copy ≡ Some (InSealedBytes sealed)
  -- the normal frame that it shares
  pub shared : (n : ℕ) (fresh : Bool) → page.kind ≡ Shared (Some n) fresh → copy ≡ Some (InNormalFrame n)
  -- none
  pub invalid : page.kind ≡ Invalid → copy ≡ None
  pub unshared : (fresh : Bool) → page.kind ≡ Shared None fresh → copy ≡ None

abbrev pub AuthorityIsByKind : Type 0
AuthorityIsByKind = (public : PublicState) (lpid gfn : ℕ) → CountsByKind (authority public lpid gfn) ((public.guests lpid).pages gfn)
