-- Which steps of a page's move touch the pool in the model.
use Rattle.std.proofs.Common.{◌≡◌, ℕ, ◌==◌, Bool, true, false, not, if◌then◌else◌, List, Option, Some, None, is_some, refl, ap, sym, ◌∙◌}
use Rattle.pef_model.specs.declared.state.Move.{Move}
use Rattle.pef_model.specs.declared.state.Tag.{Tag}
use Rattle.pef_model.specs.declared.command.Code.{Code}
use Rattle.pef_model.specs.declared.command.Code.TheVariants.{USuccess, UParameter}
use Rattle.pef_model.specs.Plan.{Plan}
use Rattle.pef_model.specs.Target.{Ask}
use Rattle.pef_model.specs.Cpu.{CpuPart}
use Rattle.pef_model.specs.Guest.{Guest as GuestWhole}
use Rattle.pef_model.specs.PageIn.{is_last_sealed}
use Rattle.pef_model.specs.Deed.{returning, giving, coming_back, deed_page_in, deed_page_in_with, deed_page_in_test, deed_page_in_end, deed_page_out_end}
use Rattle.pef_guest.specs.declared.guest.Guest.{Guest}
use Rattle.pef_guest.specs.Shows.{Shows}
use Rattle.pef_guest.specs.Rows.{ask_inward}
use Rattle.pef_move.specs.declared.page_call.PageCall.{PageCall}
use Rattle.pef_move.specs.Route.{operands_for}
use Rattle.pef_move.proofs.Codes.{operands_are}

module _ {S : Type 0} (stands : S → Tag → List ℕ → List ℕ → Type 0) (image : S → Tag → List ℕ → List ℕ) (plan : Plan) (guest : Guest S) (g : GuestWhole) where
  -- UV_PAGE_IN asks for a frame where no operand is wrong
  pub asked : (call : PageCall) → Shows stands image plan guest g → (any : Bool) (ask : Ask) (code : Option Code) → operands_for plan g.part guest call ≡ code →
      is_some (deed_page_in plan g.part any ask call.lpid call.ra call.gpa call.flags call.order).pool ≡ not (is_some code)
  asked call shows any ask code is =
      ap (λ (o : Option Code). is_some (returning ask o (deed_page_in_with plan g.part ask call.lpid call.ra call.gpa any)).pool) (sym (operands_are stands image plan guest g call shows) ∙ is) ∙ by_code code any where
        by_code : (code : Option Code) (any : Bool) → is_some (returning ask code (deed_page_in_with plan g.part ask call.lpid call.ra call.gpa any)).pool ≡ not (is_some code)
        by_code None true = refl
        by_code None false = refl
        by_code (Some code) any = refl

  module _ (shows : Shows stands image plan guest g) where
    test_is : (generation : ℕ) (b : Bool) → (generation == guest.generation) ≡ b → (generation == g.part.generation) ≡ b
    test_is generation b is = ap (λ (life : ℕ). generation == life) (sym shows.generation) ∙ is

    -- the end of a page-out gives the frame back under the guest's generation
    pub given : (ask : Ask) (move : Move) (b : Bool) → (move.generation == guest.generation) ≡ b → is_some (deed_page_out_end g.part ask move).pool ≡ b
    given ask move b is = ap (λ (x : Bool). is_some (if x then giving (coming_back ask USuccess) 1 else coming_back ask UParameter).pool) (test_is move.generation b is) ∙ by_test b where
      by_test : (b : Bool) → is_some (if b then giving (coming_back ask USuccess) 1 else coming_back ask UParameter).pool ≡ b
      by_test true = refl
      by_test false = refl

    -- that of a page-in where the page is refused besides
    pub refused : (c : CpuPart) (move : Move) (b last : Bool) → (move.generation == guest.generation) ≡ b → (b ≡ true → is_last_sealed (g.part.pages move.gfn).sealed c.hand ≡ last) →
        is_some (deed_page_in_end g.part (ask_inward move c) move).pool ≡ (if b then not last else false)
    refused c move b last is kept = ap (λ (x : Bool). is_some (if x then deed_page_in_test (ask_inward move c) (is_last_sealed (g.part.pages move.gfn).sealed c.hand) else coming_back (ask_inward move c) UParameter).pool) (test_is move.generation b is) ∙ by_test b kept where
      by_last : (last : Bool) → is_some (deed_page_in_test (ask_inward move c) last).pool ≡ not last
      by_last true = refl
      by_last false = refl

      by_test : (b : Bool) → (b ≡ true → is_last_sealed (g.part.pages move.gfn).sealed c.hand ≡ last) → is_some (if b then deed_page_in_test (ask_inward move c) (is_last_sealed (g.part.pages move.gfn).sealed c.hand) else coming_back (ask_inward move c) UParameter).pool ≡ (if b then not last else false)
      by_test true kept = ap (λ (x : Bool). is_some (deed_page_in_test (ask_inward move c) x).pool) (kept refl) ∙ by_last last
      by_test false kept = refl
