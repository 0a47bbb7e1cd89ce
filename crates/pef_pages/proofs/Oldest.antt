-- The first number in the order whose page doesn't move is that of a Secure page that doesn't, and there is one where there is such a page.
use Rattle.std.proofs.Common.{◌≡◌, ◌≢◌, ℕ, ◌<◌, ◌≤◌, Bool, true, false, List, [], ◌∷◌, length, Option, Some, None, is_none, IsNone, IfSome, ◌↔◌, refl, sym, ap, ◌∙◌, ◌⊎◌, inl, inr, arith}
use Rattle.std.specs.List.{find}
use Rattle.std.proofs.lemmas.List.{get_or_past}
use Rattle.std.proofs.lemmas.Bool.{cases_eq, cases_lt}
use Rattle.std.proofs.lemmas.Bool.Decides.{nat_tests}
use Rattle.pef_model.specs.declared.state.Kind.{Kind}
use Rattle.pef_model.specs.declared.state.Kind.TheVariants as kind
use Rattle.pef_model.specs.declared.state.Mover.{Mover}
use Rattle.pef_pages.specs.Pages.{PagesState, is_secure_kind, page_at, invalid_page, kind_at, mover_at, is_secure, oldest_of, IsOrdered, RestsSecure}
use Rattle.pef_pages.proofs.Orders.{times, times-cons}

-- a number that passes is in no order in which none is found
times-none : (test : ℕ → Bool) (order : List ℕ) (k : ℕ) → find test order ≡ None → test k ≡ true → times k order ≡ 0
times-none test [] k is passes = refl
times-none test (n ∷ order) k is passes = by_test (λ rest. times-none test order k rest passes) (test n) refl where
  by_place : (find test order ≡ None → times k order ≡ 0) → (n ≡ k) ⊎ (n ≢ k) → test n ≡ false → times k (n ∷ order) ≡ 0
  by_place again (inl here) fails = absurd (let e : false ≡ true = sym fails ∙ ap test here ∙ passes in cc)
  by_place again (inr there) fails = grind (arith, nat_tests, times-cons k n order, again (rw fails at is), there)

  by_test : (find test order ≡ None → times k order ≡ 0) → (b : Bool) → test n ≡ b → times k (n ∷ order) ≡ 0
  by_test again true found = absurd (let e : Some n ≡ None = rw found at is in cc)
  by_test again false fails = by_place again (cases_eq n k) fails

-- a number that is found passes, and is in the order
record IsFound (test : ℕ → Bool) (order : List ℕ) (k : ℕ) : Type 0 where
  passes : test k ≡ true
  there : 0 < times k order

found : (test : ℕ → Bool) (order : List ℕ) (k : ℕ) → find test order ≡ Some k → IsFound test order k
found test [] k is = cc
found test (n ∷ order) k is = by_test (found test order k) (test n) refl where
  by_test : (find test order ≡ Some k → IsFound test order k) → (b : Bool) → test n ≡ b → IsFound test (n ∷ order) k
  by_test again true passes =
      let here : n ≡ k = let e : Some n ≡ Some k = rw passes at is in cc in
      record { passes = ap test (sym here) ∙ passes; there = grind (arith, nat_tests, times-cons k n order, here) }
  by_test again false fails =
      let rest : IsFound test order k = again (rw fails at is) in
      record { passes = rest.passes; there = grind (arith, nat_tests, times-cons k n order, rest.there) }

-- only the kind Secure is Secure
kind_is : (k : Kind) → is_secure_kind k ≡ true → k ≡ kind.Secure
kind_is kind.Secure is = refl
kind_is kind.Invalid is = cc
kind_is kind.Out is = cc
kind_is (kind.Shared frame fresh) is = cc

-- a page that doesn't move has no mover
mover_is : (m : Option Mover) → is_none m ≡ true → m ≡ None
mover_is None is = refl
mover_is (Some mover) is = cc

module _ {F : Type 0} (ps : PagesState F) (ordered : IsOrdered ps) where
  -- a number in the order is that of a Secure page
  secure_there : (gfn : ℕ) → 0 < times gfn ps.order → is_secure (page_at ps gfn) ≡ true
  secure_there gfn there = by_case (is_secure (page_at ps gfn)) refl where
    by_case : (b : Bool) → is_secure (page_at ps gfn) ≡ b → is_secure (page_at ps gfn) ≡ true
    by_case true is = is
    by_case false is = absurd (let none : times gfn ps.order ≡ 0 = rw is at (ordered.each gfn) in omega arith)

  -- past the last page none is Secure
  below_there : (gfn : ℕ) → is_secure (page_at ps gfn) ≡ true → gfn < length ps.pages
  below_there gfn is = by_case (cases_lt gfn (length ps.pages)) where
    by_case : (gfn < length ps.pages) ⊎ (length ps.pages ≤ gfn) → gfn < length ps.pages
    by_case (inl below) = below
    by_case (inr past) = absurd (let e : false ≡ true = sym (ap is_secure (get_or_past ps.pages gfn invalid_page past)) ∙ is in cc)

  -- what is found is Secure and doesn't move
  found-rests : (gfn : ℕ) → oldest_of ps ≡ Some gfn → RestsSecure ps gfn
  found-rests gfn is =
      let it : IsFound (λ n. is_none (mover_at ps n)) ps.order gfn = found (λ n. is_none (mover_at ps n)) ps.order gfn is in
      record { kind_is = kind_is (kind_at ps gfn) (secure_there gfn it.there); rests = mover_is (mover_at ps gfn) it.passes }

  -- where none is found no page is Secure and doesn't move
  none-rests : (gfn : ℕ) → oldest_of ps ≡ None → RestsSecure ps gfn → ⊥
  none-rests gfn is page =
      let none : times gfn ps.order ≡ 0 = times-none (λ n. is_none (mover_at ps n)) ps.order gfn is (ap is_none page.rests) in
      let one : times gfn ps.order ≡ 1 = rw (ap is_secure_kind page.kind_is) at (ordered.each gfn) in
      omega (arith, none, one)

  -- the same of an answer that is the oldest
  pub oldest-rests : (r : Option ℕ) → r ≡ oldest_of ps → IfSome r (RestsSecure ps)
  oldest-rests None is = tt
  oldest-rests (Some gfn) is = found-rests gfn (sym is)

  pub oldest-below : (r : Option ℕ) → r ≡ oldest_of ps → IfSome r (λ gfn. gfn < length ps.pages)
  oldest-below None is = tt
  oldest-below (Some gfn) is = below_there gfn (ap is_secure_kind (found-rests gfn (sym is)).kind_is)

  pub oldest-none : (r : Option ℕ) → r ≡ oldest_of ps → IsNone r ↔ ((gfn : ℕ) → RestsSecure ps gfn → ⊥)
  oldest-none None is = (λ none gfn page. none-rests gfn (sym is) page, λ nowhere. refl)
  oldest-none (Some gfn) is = (λ n. absurd (let e : true ≡ false = n in cc), λ nowhere. absurd (nowhere gfn (found-rests gfn (sym is))))
