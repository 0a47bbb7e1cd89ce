-- The order keeps up with the pages where one of them changes.
use Rattle.std.proofs.Common.{◌≡◌, ◌≢◌, ℕ, ◌+◌, ◌<◌, ◌≤◌, ◌==◌, true, false, cond, not, if◌then◌else◌, List, [], ◌∷◌, ◌++◌, length, count_by, filter, slice_set, refl, sym, ap, subst, ◌∙◌, ◌⊎◌, inl, inr, arith, length-append, length-set}
use Rattle.std.proofs.lemmas.List.{get_or-set_same, get_or-set_other}
use Rattle.std.proofs.lemmas.List.Sums.{sum_by-cons, sum_by-append, sum_by-set, count_by-le-length}
use Rattle.std.proofs.lemmas.Bool.{cases_eq}
use Rattle.std.proofs.lemmas.Bool.Decides.{nat_tests}
use Rattle.pef_pages.specs.declared.page.Page.{Page}
use Rattle.pef_pages.specs.Pages.{PagesState, page_at, invalid_page, is_secure, with_page, joins_order, leaves_order, IsOrdered}

-- how often a number is in an order
abbrev pub times : ℕ → List ℕ → ℕ
times k order = count_by (λ n. n == k) order

-- an order without a number
abbrev pub without : ℕ → List ℕ → List ℕ
without gfn order = filter (λ n. not (n == gfn)) order

-- how often a number is in a longer order
pub times-cons : (k n : ℕ) (order : List ℕ) → times k (n ∷ order) ≡ (if n == k then 1 else 0) + times k order
times-cons k n order = sum_by-cons (λ (m : ℕ). cond (m == k) 1 0) n order

-- and in two, one after the other
times-append : (k : ℕ) (order more : List ℕ) → times k (order ++ more) ≡ times k order + times k more
times-append k order more = sum_by-append (λ (m : ℕ). cond (m == k) 1 0) order more

-- a number that leaves is gone
times-without_same : (gfn : ℕ) (order : List ℕ) → times gfn (without gfn order) ≡ 0
times-without_same gfn [] = refl
times-without_same gfn (n ∷ order) = grind (arith, nat_tests, times-without_same gfn order, times-cons gfn n (without gfn order))

-- every other stays
times-without_other : (k gfn : ℕ) (order : List ℕ) → k ≢ gfn → times k (without gfn order) ≡ times k order
times-without_other k gfn [] other = refl
times-without_other k gfn (n ∷ order) other =
    grind (arith, nat_tests, times-without_other k gfn order other, times-cons k n (without gfn order), times-cons k n order)

-- a number that joins is in the order once more
times-joined_same : (gfn : ℕ) (order : List ℕ) → times gfn (order ++ gfn ∷ []) ≡ times gfn order + 1
times-joined_same gfn order = grind (arith, nat_tests, times-append gfn order (gfn ∷ []), times-cons gfn gfn [])

-- every other stays
times-joined_other : (k gfn : ℕ) (order : List ℕ) → k ≢ gfn → times k (order ++ gfn ∷ []) ≡ times k order
times-joined_other k gfn order other = grind (arith, nat_tests, times-append k order (gfn ∷ []), times-cons k gfn [])

-- an order without a number is shorter by as often as it was there
length-without : (gfn : ℕ) (order : List ℕ) → length (without gfn order) + times gfn order ≡ length order
length-without gfn [] = refl
length-without gfn (n ∷ order) = grind (arith, nat_tests, length-without gfn order, times-cons gfn n order)

module _ {F : Type 0} (ps : PagesState F) (gfn : ℕ) (page : Page F) (below : gfn < length ps.pages) (ordered : IsOrdered ps) where
  -- the number of Secure pages changes by what comes and what goes
  secure-set : count_by is_secure (slice_set ps.pages gfn page) + (if is_secure (page_at ps gfn) then 1 else 0) ≡ count_by is_secure ps.pages + (if is_secure page then 1 else 0)
  secure-set = sum_by-set (λ (p : Page F). cond (is_secure p) 1 0) ps.pages gfn page invalid_page below

  -- whether a page is Secure where one was put, and at every other number
  secure-here : is_secure (page_at (with_page ps gfn page) gfn) ≡ is_secure page
  secure-here = ap is_secure (get_or-set_same ps.pages gfn page invalid_page below)

  secure-there : (n : ℕ) → n ≢ gfn → is_secure (page_at (with_page ps gfn page) n) ≡ is_secure (page_at ps n)
  secure-there n other = ap is_secure (get_or-set_other ps.pages gfn n page invalid_page other)

  -- an order has the number as often as it should
  abbrev IsAt : List ℕ → ℕ → Type 0
  IsAt order n = times n order ≡ (if is_secure (page_at (with_page ps gfn page) n) then 1 else 0)

  -- where a page that becomes Secure wasn't so, there is room in the order for its number
  pub room : is_secure (page_at ps gfn) ≡ false → is_secure page ≡ true → length ps.order < length ps.pages
  room was is =
      let many : count_by is_secure (slice_set ps.pages gfn page) ≤ length (slice_set ps.pages gfn page) = count_by-le-length is_secure (slice_set ps.pages gfn page) in
      let one : count_by is_secure (slice_set ps.pages gfn page) + 0 ≡ count_by is_secure ps.pages + 1 = rw (was, is) at secure-set in
      omega (arith, many, one, ordered.size, length-set ps.pages gfn page)

  -- a page that stays Secure, or stays something else, keeps the order
  pub ordered-with_page : is_secure page ≡ is_secure (page_at ps gfn) → IsOrdered (with_page ps gfn page)
  ordered-with_page same = record { each = λ n. by_case n (cases_eq n gfn); size = grind (arith, secure-set, ordered.size, same) } where
    by_case : (n : ℕ) → (n ≡ gfn) ⊎ (n ≢ gfn) → IsAt ps.order n
    by_case n (inl here) = subst (IsAt ps.order) (sym here) (rw (secure-here, same) (ordered.each gfn))
    by_case n (inr there) = rw (secure-there n there) (ordered.each n)

  -- a page that becomes Secure joins the order
  pub ordered-joins : is_secure (page_at ps gfn) ≡ false → is_secure page ≡ true → IsOrdered (joins_order (with_page ps gfn page) gfn)
  ordered-joins was is = record { each = λ n. by_case n (cases_eq n gfn); size = size } where
    size : length (ps.order ++ gfn ∷ []) ≡ count_by is_secure (slice_set ps.pages gfn page)
    size = let one : count_by is_secure (slice_set ps.pages gfn page) + 0 ≡ count_by is_secure ps.pages + 1 = rw (was, is) at secure-set in
        omega (arith, one, ordered.size, length-append ps.order (gfn ∷ []))

    none : times gfn ps.order ≡ 0
    none = rw was at (ordered.each gfn)

    by_case : (n : ℕ) → (n ≡ gfn) ⊎ (n ≢ gfn) → IsAt (ps.order ++ gfn ∷ []) n
    by_case n (inl here) = subst (IsAt (ps.order ++ gfn ∷ [])) (sym here) (rw (secure-here, is) (times-joined_same gfn ps.order ∙ ap (λ (m : ℕ). m + 1) none))
    by_case n (inr there) = rw (secure-there n there) (times-joined_other n gfn ps.order there ∙ ordered.each n)

  -- a page that is not Secure leaves the order
  pub ordered-leaves : is_secure page ≡ false → IsOrdered (leaves_order (with_page ps gfn page) gfn)
  ordered-leaves is = record { each = λ n. by_case n (cases_eq n gfn); size = size } where
    size : length (without gfn ps.order) ≡ count_by is_secure (slice_set ps.pages gfn page)
    size =
        let less : length (without gfn ps.order) + (if is_secure (page_at ps gfn) then 1 else 0) ≡ length ps.order = rw (← ordered.each gfn) (length-without gfn ps.order) in
        let same : count_by is_secure (slice_set ps.pages gfn page) + (if is_secure (page_at ps gfn) then 1 else 0) ≡ count_by is_secure ps.pages + 0 = rw is at secure-set in
        omega (arith, less, same, ordered.size)

    by_case : (n : ℕ) → (n ≡ gfn) ⊎ (n ≢ gfn) → IsAt (without gfn ps.order) n
    by_case n (inl here) = subst (IsAt (without gfn ps.order)) (sym here) (rw (secure-here, is) (times-without_same gfn ps.order))
    by_case n (inr there) = rw (secure-there n there) (times-without_other n gfn ps.order there ∙ ordered.each n)
