-- The codes with which the calls that move a page come back are the ones that the model gives.
use Rattle.std.proofs.Common.{◌≡◌, ℕ, ◌<◌, Bool, true, false, List, refl, ◌∙◌, arith}
use Rattle.std.proofs.lemmas.Bool.Decides.{nat_tests}
use Rattle.pef_model.specs.declared.state.Tag.{Tag}
use Rattle.pef_model.specs.Plan.{Plan}
use Rattle.pef_model.specs.GuestPart.{Page as PagePart, GuestPart, page_of}
use Rattle.pef_model.specs.Guest.{Guest as GuestWhole}
use Rattle.pef_model.specs.PageOut.{has_page, page_out_code}
use Rattle.pef_model.specs.PageIn.{page_in_operands}
use Rattle.pef_model.specs.PageInval.{page_inval_code}
use Rattle.pef_pages.specs.Pages.{kind_at, mover_at}
use Rattle.pef_guest.specs.declared.guest.Guest.{Guest}
use Rattle.pef_guest.specs.Shows.{Shows}
use Rattle.pef_move.specs.declared.page_call.PageCall.{PageCall}
use Rattle.pef_move.specs.Route.{plan_with, part_with, code_for, operands_for}

module _ {S : Type 0} (stands : S → Tag → List ℕ → List ℕ → Type 0) (image : S → Tag → List ℕ → List ℕ) (plan : Plan) (guest : Guest S) (g : GuestWhole) (call : PageCall) (shows : Shows stands image plan guest g) where
  -- the page that the call names
  abbrev named : ℕ
  named = page_of plan call.gpa

  -- the pages of the model, with the kinds and movers of the guest's
  abbrev seen : ℕ → PagePart
  seen gfn = record (g.part.pages gfn) { kind = kind_at guest.pages gfn; mover = mover_at guest.pages gfn }

  -- a code that reads of the pages the kind and the mover of the one that the call names, where there is one, is that of the model
  module _ {X : Type 0} (code : Plan → GuestPart → X)
      (no_page : has_page plan call.gpa ≡ false → code plan (record g.part { pages = λ gfn. record (g.part.pages gfn) { kind = kind_at guest.pages gfn; mover = mover_at guest.pages gfn } }) ≡ code plan g.part)
      (one_page : kind_at guest.pages (page_of plan call.gpa) ≡ (g.part.pages (page_of plan call.gpa)).kind → mover_at guest.pages (page_of plan call.gpa) ≡ (g.part.pages (page_of plan call.gpa)).mover →
      code plan (record g.part { pages = λ gfn. record (g.part.pages gfn) { kind = kind_at guest.pages gfn; mover = mover_at guest.pages gfn } }) ≡ code plan g.part) where
    with_sizes : code (plan_with plan guest) (part_with g.part guest) ≡ code plan (record g.part { pages = seen })
    with_sizes i = code (record plan { shift = shows.shift i; normal = shows.normal i; pages = shows.pages.count i }) (record g.part { phase = shows.phase i; pages = seen })

    by_page : (has : Bool) → has_page plan call.gpa ≡ has → code plan (record g.part { pages = seen }) ≡ code plan g.part
    by_page false none = no_page none
    by_page true has =
        let below : named < plan.pages = grind (arith, nat_tests, has) in
        one_page (shows.pages.kinds named below) (shows.pages.movers named below)

    is_model : code (plan_with plan guest) (part_with g.part guest) ≡ code plan g.part
    is_model = with_sizes ∙ by_page (has_page plan call.gpa) refl

  no_page_out : (pages : ℕ → PagePart) → has_page plan call.gpa ≡ false → page_out_code plan (record g.part { pages = pages }) call.ra call.gpa call.flags call.order ≡ page_out_code plan g.part call.ra call.gpa call.flags call.order
  no_page_out pages none = rw none refl

  no_page_in : (pages : ℕ → PagePart) → has_page plan call.gpa ≡ false → page_in_operands plan (record g.part { pages = pages }) call.ra call.gpa call.flags call.order ≡ page_in_operands plan g.part call.ra call.gpa call.flags call.order
  no_page_in pages none = rw none refl

  no_page_inval : (pages : ℕ → PagePart) → has_page plan call.gpa ≡ false → page_inval_code plan (record g.part { pages = pages }) call.gpa call.order ≡ page_inval_code plan g.part call.gpa call.order
  no_page_inval pages none = rw none refl

  -- so are those of UV_PAGE_OUT
  pub code_is : code_for plan g.part guest call ≡ page_out_code plan g.part call.ra call.gpa call.flags call.order
  code_is = is_model (λ p x. page_out_code p x call.ra call.gpa call.flags call.order) (no_page_out seen)
      (λ kind mover i. page_out_code plan (record g.part { pages = λ gfn. record (g.part.pages gfn) { kind = kind i; mover = mover i } }) call.ra call.gpa call.flags call.order)

  -- and those of the operands of UV_PAGE_IN
  pub operands_are : operands_for plan g.part guest call ≡ page_in_operands plan g.part call.ra call.gpa call.flags call.order
  operands_are = is_model (λ p x. page_in_operands p x call.ra call.gpa call.flags call.order) (no_page_in seen)
      (λ kind mover i. page_in_operands plan (record g.part { pages = λ gfn. record (g.part.pages gfn) { kind = kind i; mover = mover i } }) call.ra call.gpa call.flags call.order)

  -- and those of UV_PAGE_INVAL
  pub inval_is : page_inval_code (plan_with plan guest) (part_with g.part guest) call.gpa call.order ≡ page_inval_code plan g.part call.gpa call.order
  inval_is = is_model (λ p x. page_inval_code p x call.gpa call.order) (no_page_inval seen)
      (λ kind mover i. page_inval_code plan (record g.part { pages = λ gfn. record (g.part.pages gfn) { kind = kind i; mover = mover i } }) call.gpa call.order)
