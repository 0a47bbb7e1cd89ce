-- A guest's Secure pages keep their order, and one that becomes Secure stands behind them.
use Rattle.std.proofs.Common.{◌≡◌, ℕ, ◌<◌, List, [], ◌∷◌, ◌++◌, length, take, true, not, refl, ap, sym, ◌∙◌, ◌==◌, arith, inl, inr}
use Rattle.std.specs.List.{filter}
use Rattle.std.proofs.lemmas.Bool.{cases_eq}
use Rattle.std.proofs.Math.Seq.{take-append_seam, take-length}
use Rattle.std.proofs.lemmas.Bool.{ne_eqb}
use Rattle.pef_model.specs.Plan.{Plan}
use Rattle.pef_model.specs.Event.{Event}
use Rattle.pef_model.specs.GuestPart.{Page, GuestPart, put, secured, begun_out, begun_in, refused_in, unmapped, ended_out, is_secure, with_secure_page, with_running_vcpu, with_parked_vcpu, with_page_leaving, with_page_out, with_page_coming, with_page_refused, with_page_unmapped}
use Rattle.pef_model.specs.CountLaw.{OrderGrows}
use Rattle.pef_model.specs.History.{part_after}
use Rattle.pef_model.proofs.Folds.{same_test}
use Rattle.pef_model.proofs.Times.{times, times_passed, times_stopped, same_filter, filter_all}
use Rattle.pef_model.proofs.Puts.{put-here, put-other}
use Rattle.pef_model.proofs.Changes.{entry_gives}
use Rattle.pef_model.proofs.Parts.{IsKept, holds_after}
use Rattle.pef_model.proofs.Orders.{times-behind, unmapped_secure}

-- each page in a guest's order is Secure
abbrev IsListed : GuestPart → Type 0
IsListed g = (gfn : ℕ) → 0 < times gfn g.order → is_secure (g.pages gfn) ≡ true

-- where one page is another of its kind
secure_put : (g : GuestPart) (at : ℕ) (page : Page) → (is_secure (g.pages at) ≡ true → is_secure page ≡ true) → (gfn : ℕ) → is_secure (g.pages gfn) ≡ true → is_secure (put g.pages at page gfn) ≡ true
secure_put g at page stays gfn secure = elim (cases_eq gfn at) [
  | inl same ↦ ap (λ (n : ℕ). is_secure (put g.pages at page n)) same ∙ ap is_secure (put-here g.pages at page) ∙ stays (ap (λ (n : ℕ). is_secure (g.pages n)) (sym same) ∙ secure)
  | inr other ↦ ap is_secure (put-other g.pages at page gfn other) ∙ secure
]

-- whatever a step makes of a part, the pages in its order are Secure
listed_kept : (g : GuestPart) → IsListed g → IsKept IsListed g
listed_kept g h = record {
  same = h;
  running = λ vid cpu. h;
  parked = λ vid pending. h;
  leaving = λ at cpu bytes gfn some. secure_put g at (begun_out (g.pages at) cpu bytes) (λ secure. secure) gfn (h gfn some);
  out = λ at gfn some. elim (cases_eq gfn at) [
    | inl same ↦
        let none : times gfn (filter (λ n. not (n == at)) g.order) ≡ 0 = times_stopped (λ n. not (n == at)) gfn g.order (ap (λ (n : ℕ). not (n == at)) same ∙ ap not (same_test at)) in
        absurd (omega arith)
    | inr other ↦
        let same : times gfn (filter (λ n. not (n == at)) g.order) ≡ times gfn g.order = times_passed (λ n. not (n == at)) gfn g.order (ap not (ne_eqb gfn at other)) in
        ap is_secure (put-other g.pages at (ended_out (g.pages at)) gfn other) ∙ h gfn (omega arith)
  ];
  coming = λ at cpu gfn some. secure_put g at (begun_in (g.pages at) cpu) (λ secure. secure) gfn (h gfn some);
  refused = λ at gfn some. secure_put g at (refused_in (g.pages at)) (λ secure. secure) gfn (h gfn some);
  secure = λ at gfn some. elim (cases_eq gfn at) [
    | inl same ↦ ap (λ (n : ℕ). is_secure (put g.pages at (secured (g.pages at)) n)) same ∙ ap is_secure (put-here g.pages at (secured (g.pages at)))
    | inr other ↦
        let same : times gfn (g.order ++ at ∷ []) ≡ times gfn g.order = times-behind at gfn g.order other in
        ap is_secure (put-other g.pages at (secured (g.pages at)) gfn other) ∙ h gfn (omega arith)
  ];
  written = λ dw0 dw1. entry_gives IsListed g dw0 dw1 h h;
  slots = λ slots. h;
  unmapped = λ at gfn some. secure_put g at (unmapped (g.pages at)) (λ secure. unmapped_secure (g.pages at) ∙ secure) gfn (h gfn some);
  drawn = λ words. h;
}

-- so they are after each history
all_listed : (plan : Plan) (past : List Event) (lpid : ℕ) → IsListed (part_after plan past lpid)
all_listed plan [] lpid = λ gfn some. absurd (omega arith)
all_listed plan (e ∷ past) lpid = holds_after IsListed plan past e lpid (listed_kept (part_after plan past lpid) (all_listed plan past lpid))

-- the new order begins with the old one's pages that are still Secure
abbrev Grows : GuestPart → GuestPart → Type 0
Grows old new = take (length (filter (λ gfn. is_secure (new.pages gfn)) old.order)) new.order ≡ filter (λ gfn. is_secure (new.pages gfn)) old.order

-- so it does where those are these
grows_by : (old new : GuestPart) (still : List ℕ) → filter (λ gfn. is_secure (new.pages gfn)) old.order ≡ still → take (length still) new.order ≡ still → Grows old new
grows_by old new still same front = ap (λ (xs : List ℕ). take (length xs) new.order) same ∙ front ∙ sym same

-- whatever a step makes of a part, its order grows so
grows_kept : (g : GuestPart) → IsListed g → IsKept (Grows g) g
grows_kept g h = record {
  same = all_still g refl (λ gfn secure. secure);
  running = λ vid cpu. all_still (with_running_vcpu g vid cpu) refl (λ gfn secure. secure);
  parked = λ vid pending. all_still (with_parked_vcpu g vid pending) refl (λ gfn secure. secure);
  leaving = λ at cpu bytes. all_still (with_page_leaving g at cpu bytes) refl (secure_put g at (begun_out (g.pages at) cpu bytes) (λ secure. secure));
  out = λ at. grows_by g (with_page_out g at) (filter (λ n. not (n == at)) g.order)
      (same_filter (λ n. is_secure (put g.pages at (ended_out (g.pages at)) n)) (λ n. not (n == at)) g.order (λ gfn some. elim (cases_eq gfn at) [
        | inl same ↦ ap (λ (n : ℕ). is_secure (put g.pages at (ended_out (g.pages at)) n)) same ∙ ap is_secure (put-here g.pages at (ended_out (g.pages at))) ∙ sym (ap (λ (n : ℕ). not (n == at)) same ∙ ap not (same_test at))
        | inr other ↦ ap is_secure (put-other g.pages at (ended_out (g.pages at)) gfn other) ∙ h gfn some ∙ sym (ap not (ne_eqb gfn at other))
      ]))
      (take-length (filter (λ n. not (n == at)) g.order));
  coming = λ at cpu. all_still (with_page_coming g at cpu) refl (secure_put g at (begun_in (g.pages at) cpu) (λ secure. secure));
  refused = λ at. all_still (with_page_refused g at) refl (secure_put g at (refused_in (g.pages at)) (λ secure. secure));
  secure = λ at. grows_by g (with_secure_page g at) g.order
      (filter_all (λ n. is_secure (put g.pages at (secured (g.pages at)) n)) g.order (λ gfn some. secure_put g at (secured (g.pages at)) (λ secure. refl) gfn (h gfn some)))
      (take-append_seam g.order (at ∷ []));
  written = λ dw0 dw1. entry_gives (Grows g) g dw0 dw1 (all_still g refl (λ gfn secure. secure)) (all_still g refl (λ gfn secure. secure));
  slots = λ slots. all_still (record g { slots = slots }) refl (λ gfn secure. secure);
  unmapped = λ at. all_still (with_page_unmapped g at) refl (secure_put g at (unmapped (g.pages at)) (λ secure. unmapped_secure (g.pages at) ∙ secure));
  drawn = λ words. all_still (record g { words = words }) refl (λ gfn secure. secure);
} where
  all_still : (new : GuestPart) → new.order ≡ g.order → ((gfn : ℕ) → is_secure (g.pages gfn) ≡ true → is_secure (new.pages gfn) ≡ true) → Grows g new
  all_still new same still = grows_by g new g.order (filter_all (λ gfn. is_secure (new.pages gfn)) g.order (λ gfn some. still gfn (h gfn some)))
      (ap (take (length g.order)) same ∙ take-length g.order)

-- so an order grows at each entry
pub order_grows : OrderGrows
order_grows plan past e lpid = holds_after (Grows (part_after plan past lpid)) plan past e lpid (grows_kept (part_after plan past lpid) (all_listed plan past lpid))
