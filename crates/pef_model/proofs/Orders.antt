-- A guest's Secure pages in their order.
use Rattle.std.proofs.Common.{◌≡◌, ◌≢◌, ℕ, ◌+◌, List, [], ◌∷◌, ◌++◌, Bool, true, false, not, cond, refl, ap, sym, subst, ◌∙◌, ◌==◌, if◌then◌else◌, arith, inl, inr}
use Rattle.std.specs.List.{filter}
use Rattle.std.proofs.lemmas.Bool.{cases_eq}
use Rattle.std.proofs.lemmas.Bool.{ne_eqb}
use Rattle.pef_model.specs.declared.state.Kind.{Kind}
use Rattle.pef_model.specs.declared.state.Kind.TheVariants as kind
use Rattle.pef_model.specs.Plan.{Plan}
use Rattle.pef_model.specs.Event.{Event}
use Rattle.pef_model.specs.GuestPart.{Page, GuestPart, put, secured, begun_out, begun_in, refused_in, unmapped, unmapped_kind, ended_out, is_invalid, is_secure, with_secure_page, with_page_out}
use Rattle.pef_model.specs.History.{cpu_after, IsLegal, part_after}
use Rattle.pef_model.proofs.Folds.{same_test}
use Rattle.pef_model.proofs.Times.{times, times-append, times_passed, times_stopped}
use Rattle.pef_model.proofs.Puts.{put-here, put-other}
use Rattle.pef_model.proofs.Changes.{Change, Quiet, Begins, Copies, Ends, Drops, Comes, Reads, Accepts, Refuses, Takes, Parked, Gone, Backs, Writes, Slots, Unmaps, Selected, KeepsParts, PutsPart, entry_gives}
use Rattle.pef_model.proofs.ChangeOf.{change}
use Rattle.pef_model.proofs.Fields.{holds_same, holds_one}
use Rattle.pef_model.proofs.Works.{inward}
use Rattle.pef_model.proofs.Paging.{pages, AllMoved, all_moved}

-- an Invalid page isn't Secure
pub invalid_not_secure : (page : Page) → is_invalid page ≡ true → is_secure page ≡ false
invalid_not_secure page h = by_kind page.kind h where
  by_kind : (k : Kind) → is_invalid (record page { kind = k }) ≡ true → is_secure (record page { kind = k }) ≡ false
  by_kind kind.Invalid h = refl
  by_kind kind.Secure h = cc
  by_kind kind.Out h = refl
  by_kind (kind.Shared frame fresh) h = refl

-- a page without its normal frame is Secure where it was
pub unmapped_secure : (page : Page) → is_secure (unmapped page) ≡ is_secure page
unmapped_secure page = by_kind page.kind where
  by_kind : (k : Kind) → is_secure (record page { kind = unmapped_kind k }) ≡ is_secure (record page { kind = k })
  by_kind kind.Invalid = refl
  by_kind kind.Secure = refl
  by_kind kind.Out = refl
  by_kind (kind.Shared frame fresh) = refl

-- a guest's order has the page as often as it is Secure
abbrev CountsPage : ℕ → GuestPart → Type 0
CountsPage gfn g = times gfn g.order ≡ (if is_secure (g.pages gfn) then 1 else 0)

-- how often a page is in an order that counts it, where it is Secure or not
counts_secure : (g : GuestPart) (gfn : ℕ) (b : Bool) → is_secure (g.pages gfn) ≡ b → CountsPage gfn g → times gfn g.order ≡ (if b then 1 else 0)
counts_secure g gfn b t h = h ∙ ap (λ (x : Bool). if x then 1 else 0) t

-- where one page of a guest is another now
counts_put : (g : GuestPart) (at : ℕ) (page : Page) (order : List ℕ) → ((gfn : ℕ) → CountsPage gfn g) → ((gfn : ℕ) → gfn ≢ at → times gfn order ≡ times gfn g.order) →
    times at order ≡ (if is_secure page then 1 else 0) → (gfn : ℕ) → CountsPage gfn (record g { pages = put g.pages at page; order = order })
counts_put g at page order h others here gfn = elim (cases_eq gfn at) [
  | inl same ↦ subst (λ (n : ℕ). CountsPage n (record g { pages = put g.pages at page; order = order })) (sym same) (here ∙ ap (λ (p : Page). if is_secure p then 1 else 0) (sym (put-here g.pages at page)))
  | inr other ↦ others gfn other ∙ h gfn ∙ ap (λ (p : Page). if is_secure p then 1 else 0) (sym (put-other g.pages at page gfn other))
]

-- what is put behind an order leaves every other number
pub times-behind : (at gfn : ℕ) (order : List ℕ) → gfn ≢ at → times gfn (order ++ at ∷ []) ≡ times gfn order
times-behind at gfn order other =
    let none : (at == gfn) ≡ false = ne_eqb at gfn (λ same. other (sym same)) in
    times-append gfn at order ∙ ap (λ (b : Bool). times gfn order + (0 + cond b 1 0)) none ∙ omega arith

-- a page that isn't Secure comes behind the order as it becomes so
counts_behind : (g : GuestPart) (at : ℕ) → is_secure (g.pages at) ≡ false → ((gfn : ℕ) → CountsPage gfn g) → (gfn : ℕ) → CountsPage gfn (with_secure_page g at)
counts_behind g at none h =
    counts_put g at (secured (g.pages at)) (g.order ++ at ∷ []) h (λ gfn other. times-behind at gfn g.order other)
    (times-append at at g.order ∙ ap (λ (b : Bool). times at g.order + (0 + cond b 1 0)) (same_test at) ∙ ap (λ (n : ℕ). n + 1) (counts_secure g at false none (h at)))

-- a Secure page leaves the order as it goes out
counts_out : (g : GuestPart) (at : ℕ) → ((gfn : ℕ) → CountsPage gfn g) → (gfn : ℕ) → CountsPage gfn (with_page_out g at)
counts_out g at h =
    counts_put g at (ended_out (g.pages at)) (filter (λ n. not (n == at)) g.order) h
    (λ gfn other. times_passed (λ n. not (n == at)) gfn g.order (ap not (ne_eqb gfn at other)))
    (times_stopped (λ n. not (n == at)) at g.order (ap not (same_test at)))

-- each guest's order counts its pages
abbrev CountsAll : Plan → List Event → Type 0
CountsAll plan past = (lpid gfn : ℕ) → CountsPage gfn (part_after plan past lpid)

-- where no part changes
counts_same : (plan : Plan) (past : List Event) (e : Event) → KeepsParts plan past e → CountsAll plan past → CountsAll plan (e ∷ past)
counts_same plan past e parts h lpid gfn = holds_same plan past e (CountsPage gfn) parts (λ l. h l gfn) lpid

-- where one part changes
counts_one : (plan : Plan) (past : List Event) (e : Event) (l : ℕ) (new : GuestPart) → PutsPart plan past e l new → ((gfn : ℕ) → CountsPage gfn new) → CountsAll plan past → CountsAll plan (e ∷ past)
counts_one plan past e l new parts counted h lpid gfn = holds_one plan past e (CountsPage gfn) l new parts (counted gfn) (λ n. h n gfn) lpid

-- a page that moves inward isn't Secure
pub out_not_secure : (page : Page) → page.kind ≡ kind.Out → is_secure page ≡ false
out_not_secure page h = ap (λ (k : Kind). is_secure (record page { kind = k })) h

-- each change keeps it so
counts_by : (plan : Plan) (past : List Event) (e : Event) → AllMoved plan past → CountsAll plan past → Change plan past (cpu_after plan e.trace.cpu past) e → CountsAll plan (e ∷ past)
counts_by plan past e all h (Quiet x) = counts_same plan past e x.parts h
counts_by plan past e all h (Begins x) =
    let g : GuestPart = part_after plan past x.move.lpid in
    counts_one plan past e _ _ x.parts (counts_put g x.move.gfn (begun_out (g.pages x.move.gfn) e.trace.cpu e.bytes) g.order (h x.move.lpid) (λ gfn other. refl) (h x.move.lpid x.move.gfn)) h
counts_by plan past e all h (Copies x) = counts_same plan past e x.parts h
counts_by plan past e all h (Ends x) = counts_one plan past e _ _ x.parts (counts_out (part_after plan past x.move.lpid) x.move.gfn (h x.move.lpid)) h
counts_by plan past e all h (Drops x) = counts_same plan past e x.parts h
counts_by plan past e all h (Comes x) =
    let g : GuestPart = part_after plan past x.move.lpid in
    counts_one plan past e _ _ x.parts (counts_put g x.move.gfn (begun_in (g.pages x.move.gfn) e.trace.cpu) g.order (h x.move.lpid) (λ gfn other. refl) (h x.move.lpid x.move.gfn)) h
counts_by plan past e all h (Reads x) = counts_same plan past e x.parts h
counts_by plan past e all h (Accepts x) =
    let moving = all.moves e.trace.cpu (inward x.move) x.before x.generation in
    counts_one plan past e _ _ x.parts (counts_behind (part_after plan past x.move.lpid) x.move.gfn (out_not_secure (pages plan past x.move.lpid x.move.gfn) moving.kind_is) (h x.move.lpid)) h
counts_by plan past e all h (Refuses x) =
    let g : GuestPart = part_after plan past x.move.lpid in
    counts_one plan past e _ _ x.parts (counts_put g x.move.gfn (refused_in (g.pages x.move.gfn)) g.order (h x.move.lpid) (λ gfn other. refl) (h x.move.lpid x.move.gfn)) h
counts_by plan past e all h (Takes x) = counts_one plan past e _ _ x.parts (h x.lpid) h
counts_by plan past e all h (Parked x) = counts_one plan past e _ _ x.parts (h x.run.lpid) h
counts_by plan past e all h (Gone x) = counts_same plan past e x.parts h
counts_by plan past e all h (Backs x) =
    counts_one plan past e _ _ x.parts (counts_behind (part_after plan past x.run.lpid) x.gfn (invalid_not_secure (pages plan past x.run.lpid x.gfn) x.invalid) (h x.run.lpid)) h
counts_by plan past e all h (Writes x) =
    counts_one plan past e _ _ x.parts (entry_gives (λ (g : GuestPart). (gfn : ℕ) → CountsPage gfn g) (part_after plan past x.lpid) x.base x.length_ (h x.lpid) (h x.lpid)) h
counts_by plan past e all h (Slots x) = counts_one plan past e _ _ x.parts (h x.lpid) h
counts_by plan past e all h (Unmaps x) =
    let g : GuestPart = part_after plan past x.lpid in
    counts_one plan past e _ _ x.parts (counts_put g x.gfn (unmapped (g.pages x.gfn)) g.order (h x.lpid) (λ gfn other. refl)
    (h x.lpid x.gfn ∙ ap (λ (b : Bool). if b then 1 else 0) (sym (unmapped_secure (g.pages x.gfn))))) h
counts_by plan past e all h (Selected x) = counts_same plan past e x.parts h

-- so an order has each Secure page once after a legal history
pub order_has_secure_pages : (plan : Plan) (past : List Event) (lpid gfn : ℕ) → IsLegal plan past → CountsPage gfn (part_after plan past lpid)
order_has_secure_pages plan [] lpid gfn legal = refl
order_has_secure_pages plan (e ∷ past) lpid gfn legal =
    counts_by plan past e (all_moved plan past legal.1) (λ l n. order_has_secure_pages plan past l n legal.1) (change plan past e legal.0) lpid gfn
