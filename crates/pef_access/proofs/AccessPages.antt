-- What an access leaves of the pages: how many they are, what holds of each, and which frames are held.
use Rattle.std.proofs.Common.{◌≡◌, ℕ, ◌+◌, ◌/◌, ◌%◌, ◌^◌, ◌<◌, ◌==◌, if◌then◌else◌, List, ◌∷◌, length, count_by, None, arith, refl, ap, sym, subst, ◌∙◌}
use Rattle.std.proofs.lemmas.List.{length-replicate, length-set, get_or-set_same}
use Rattle.std.proofs.lemmas.List.Sums.{sum_by-cons}
use Rattle.pef_model.specs.declared.state.Phase.{Phase}
use Rattle.pef_model.specs.Doubleword.{with_doubleword}
use Rattle.pef_model.proofs.Doublewords.{length-with_doubleword}
use Rattle.pef_frames.specs.Frame.{FrameState, zero_frame}
use Rattle.pef_frames.specs.Pool.{PoolState}
use Rattle.pef_frames.specs.PoolLaw.{times_free, once}
use Rattle.pef_pages.specs.declared.cell.Cell.{Cell}
use Rattle.pef_pages.specs.declared.cell.Cell.TheVariants as cell
use Rattle.pef_pages.specs.declared.page.Page.{Page}
use Rattle.pef_pages.specs.Cells.{mover_of, frame_in, with_frame}
use Rattle.pef_pages.specs.Pages.{PagesState, invalid_page, page_at, cell_at, with_cell, joins_order, held}
use Rattle.pef_pages.specs.Laws.{count_in}
use Rattle.pef_pages.proofs.Frames.{frames-set}
use Rattle.pef_guest.specs.declared.guest.Guest.{Guest}
use Rattle.pef_guest.specs.Shows.{kept_in}
use Rattle.pef_guest.specs.Whole.{IsFrameOf, IsWhole}
use Rattle.pef_guest.proofs.OnePage.{each_with_page}
use Rattle.pef_guest.proofs.Wholes.{IsWholePage}
use Rattle.pef_access.specs.Access.{place_at, stored_at, stored_in}
use Rattle.pef_access.proofs.Meets.{IsAt, IsHeld, room_in}

-- the pool of so many frames in pages of 2^shift bytes, of which these are free
abbrev pub pool_of : ℕ → ℕ → List ℕ → PoolState
pool_of count shift free = record { count = count; size = 2 ^ shift; free = free }

-- a page with another cell
abbrev pub page_with : Page FrameState → Cell FrameState → Page FrameState
page_with page c = record page { cell = c }

-- the pages with one in this secure frame; its version and the order stay
abbrev pub with_secure : PagesState FrameState → ℕ → FrameState → PagesState FrameState
with_secure pages gfn frame = with_cell pages gfn (cell.Secure frame)

-- the pages after an Invalid one was backed by the zeroed frame of a number
abbrev pub with_backed : ℕ → PagesState FrameState → ℕ → ℕ → PagesState FrameState
with_backed shift pages gfn number = joins_order (with_secure pages gfn (zero_frame (2 ^ shift) number)) gfn

-- a frame with a doubleword put into it
abbrev pub frame_with : FrameState → ℕ → ℕ → FrameState
frame_with frame off value = record frame { bytes = with_doubleword frame.bytes off value }

-- there are as many pages as before
length_with : (pages : PagesState FrameState) (gfn : ℕ) (frame : FrameState) → length (with_secure pages gfn frame).pages ≡ length pages.pages
length_with pages gfn frame = length-set pages.pages gfn (page_with (page_at pages gfn) (cell.Secure frame))

-- a page that was backed is at rest in its frame
pub held_where_backed : (shift : ℕ) (pages : PagesState FrameState) (gpa number : ℕ) → IsAt shift pages gpa cell.Invalid → IsHeld shift (with_backed shift pages (gpa / 2 ^ shift) number) gpa
held_where_backed shift pages gpa number at =
    let frame : FrameState = zero_frame (2 ^ shift) number in
    record {
      frame = frame;
      at = record {
        aligned = at.aligned;
        below = omega (arith, length_with pages (gpa / 2 ^ shift) frame, at.below);
        cell_is = ap (λ (page : Page FrameState). page.cell) (get_or-set_same pages.pages (gpa / 2 ^ shift) (page_with (page_at pages (gpa / 2 ^ shift)) (cell.Secure frame)) invalid_page at.below);
      };
      size = length-replicate (2 ^ shift) 0;
    }

-- a store at a place puts another frame into the page
pub stored_is : (shift : ℕ) (pages : PagesState FrameState) (gpa value : ℕ) (h : IsHeld shift pages gpa) → stored_at pages (place_at shift gpa) value ≡ with_secure pages (gpa / 2 ^ shift) (frame_with h.frame (gpa % 2 ^ shift) value)
stored_is shift pages gpa value h =
    ap (λ (c : Cell FrameState). stored_in pages (gpa / 2 ^ shift) (frame_in c) (gpa % 2 ^ shift) value) h.at.cell_is
    ∙ ap (λ (c : Cell FrameState). with_cell pages (gpa / 2 ^ shift) (with_frame c (frame_with h.frame (gpa % 2 ^ shift) value))) h.at.cell_is

-- how often a number is that of a frame which the pages hold
abbrev pub times_in : PagesState FrameState → ℕ → ℕ
times_in pages number = count_by (λ (frame : FrameState). frame.number == number) (held pages)

-- the frames that are held where one page changes
times_with : (pages : PagesState FrameState) (gfn : ℕ) (frame : FrameState) (c : Cell FrameState) (number : ℕ) → gfn < length pages.pages → cell_at pages gfn ≡ c →
    times_in (with_secure pages gfn frame) number + count_in (λ (f : FrameState). f.number == number) (frame_in c) ≡ times_in pages number + once frame.number number
times_with pages gfn frame c number below is =
    ap (λ (x : Cell FrameState). times_in (with_secure pages gfn frame) number + count_in (λ (f : FrameState). f.number == number) (frame_in x)) (sym is)
    ∙ frames-set pages gfn (page_with (page_at pages gfn) (cell.Secure frame)) (λ (f : FrameState). f.number == number) below

-- what an access keeps of each page: who moves it, how often it was paged out, and the digest that it keeps
pub record IsLikePage (old new : Page FrameState) : Type 0 where
  pub mover : mover_of new.cell ≡ mover_of old.cell
  pub version : new.version ≡ old.version
  pub kept : kept_in new.cell ≡ kept_in old.cell

-- a page is like itself
like_itself : (page : Page FrameState) → IsLikePage page page
like_itself page = record { mover = refl; version = refl; kept = refl }

-- and it is like what is like one that is like it
like_both : (old page new : Page FrameState) → IsLikePage old page → IsLikePage page new → IsLikePage old new
like_both old page new first second = record { mover = second.mover ∙ first.mover; version = second.version ∙ first.version; kept = second.kept ∙ first.kept }

-- a page at rest that keeps no digest is like itself in a secure frame
like_secure : (page : Page FrameState) (c : Cell FrameState) (frame : FrameState) → page.cell ≡ c → mover_of c ≡ None → kept_in c ≡ None → IsLikePage page (page_with page (cell.Secure frame))
like_secure page c frame is rests none = record { mover = sym (ap mover_of is ∙ rests); version = refl; kept = sym (ap kept_in is ∙ none) }

-- each page is like the one of its number
pub record AreLikePages (old new : PagesState FrameState) : Type 0 where
  pub each : (gfn : ℕ) → IsLikePage (page_at old gfn) (page_at new gfn)

-- pages are like those which are like ones that are like them
pub like_through : (old pages new : PagesState FrameState) → AreLikePages old pages → AreLikePages pages new → AreLikePages old new
like_through old pages new first second = record { each = λ n. like_both (page_at old n) (page_at pages n) (page_at new n) (first.each n) (second.each n) }

-- the others stay where one page is put into a secure frame
pub like_with : (shift : ℕ) (pages : PagesState FrameState) (gpa : ℕ) (c : Cell FrameState) (frame : FrameState) → IsAt shift pages gpa c → mover_of c ≡ None → kept_in c ≡ None →
    AreLikePages pages (with_secure pages (gpa / 2 ^ shift) frame)
like_with shift pages gpa c frame at rests none = record {
  each = each_with_page (λ (n : ℕ). IsLikePage (page_at pages n)) pages (gpa / 2 ^ shift) (page_with (page_at pages (gpa / 2 ^ shift)) (cell.Secure frame)) at.below
      (like_secure (page_at pages (gpa / 2 ^ shift)) c frame at.cell_is rests none)
      (λ n other. like_itself (page_at pages n));
}

-- a page that was backed is like the Invalid one
pub like_backed : (shift : ℕ) (pages : PagesState FrameState) (gpa number : ℕ) → IsAt shift pages gpa cell.Invalid → AreLikePages pages (with_backed shift pages (gpa / 2 ^ shift) number)
like_backed shift pages gpa number at = record { each = (like_with shift pages gpa cell.Invalid (zero_frame (2 ^ shift) number) at refl refl).each }

-- a page that is put into a frame of the right size and number
whole_page : (size normal secure steps : ℕ) (life : Phase) (page : Page FrameState) (new : FrameState) → IsWholePage size normal secure steps life page → IsFrameOf size secure new → IsWholePage size normal secure steps life (page_with page (cell.Secure new))
whole_page size normal secure steps life page new whole is = record {
  frames = λ frame e. subst (IsFrameOf size secure) (let same : new ≡ frame = cc in same) is;
  shared = λ one fresh e. absurd cc;
  rests = λ inside e. refl;
  digests = λ moves. cc;
  version = whole.version;
}

-- the pages of a whole guest
pub record AreWholePages (size normal secure steps : ℕ) (life : Phase) (pages : PagesState FrameState) : Type 0 where
  pub each : (gfn : ℕ) → IsWholePage size normal secure steps life (page_at pages gfn)

-- they stay so where one is put into such a frame
whole_pages : (size normal secure steps : ℕ) (life : Phase) (pages : PagesState FrameState) (gfn : ℕ) (new : FrameState) → gfn < length pages.pages → AreWholePages size normal secure steps life pages → IsFrameOf size secure new →
    AreWholePages size normal secure steps life (with_secure pages gfn new)
whole_pages size normal secure steps life pages gfn new below whole is = record {
  each = each_with_page (λ (n : ℕ). IsWholePage size normal secure steps life) pages gfn (page_with (page_at pages gfn) (cell.Secure new)) below
      (whole_page size normal secure steps life (page_at pages gfn) new (whole.each gfn) is) (λ n other. whole.each n);
}

-- what an access leaves of a guest's pages and of the pool, once the page is in its frame
pub record Leaves {S : Type 0} (old : Guest S) (pool pool_new : PoolState) (pages : PagesState FrameState) : Type 0 where
  pub as_many : length pages.pages ≡ length old.pages.pages
  pub like : AreLikePages old.pages pages
  pub whole : AreWholePages (2 ^ old.shift) old.normal old.secure (old.steps + 1) old.phase pages
  pub count : pool_new.count ≡ pool.count
  pub size : pool_new.size ≡ pool.size
  pub frames : (number : ℕ) → times_in pages number + times_free pool_new number ≡ times_in old.pages number + times_free pool number

module _ {S : Type 0} {takes : S → ℕ → ℕ → Type 0} (old : Guest S) (gpa : ℕ) (whole : IsWhole takes old) where
  -- a page that is in its frame already: everything stays
  pub leaves_same : (pool : PoolState) → Leaves old pool pool old.pages
  leaves_same pool = record {
    as_many = refl;
    like = record { each = λ n. like_itself (page_at old.pages n) };
    whole = record { each = λ n. record { shared = whole.shared n; frames = whole.frames n; rests = λ secure. whole.rests secure n; digests = whole.digests n; version = (let few = whole.versions n in omega arith) } };
    count = refl;
    size = refl;
    frames = λ number. refl;
  }

  -- an Invalid page: the first free frame is held once more and free once less
  pub leaves_backed : (number : ℕ) (more : List ℕ) → number < old.secure → IsAt old.shift old.pages gpa cell.Invalid →
      Leaves old (pool_of old.secure old.shift (number ∷ more)) (pool_of old.secure old.shift more) (with_backed old.shift old.pages (gpa / 2 ^ old.shift) number)
  leaves_backed number more small at =
      let frame : FrameState = zero_frame (2 ^ old.shift) number in
      let before : Leaves old (pool_of old.secure old.shift more) (pool_of old.secure old.shift more) old.pages = leaves_same (pool_of old.secure old.shift more) in
      record {
        as_many = length_with old.pages (gpa / 2 ^ old.shift) frame;
        like = record { each = (like_with old.shift old.pages gpa cell.Invalid frame at refl refl).each };
        whole = record { each = (whole_pages (2 ^ old.shift) old.normal old.secure (old.steps + 1) old.phase old.pages (gpa / 2 ^ old.shift) frame at.below before.whole (record { length_is = length-replicate (2 ^ old.shift) 0; number = small })).each };
        count = refl;
        size = refl;
        frames = λ n.
            let came : times_in (with_secure old.pages (gpa / 2 ^ old.shift) frame) n + 0 ≡ times_in old.pages n + once number n = times_with old.pages (gpa / 2 ^ old.shift) frame cell.Invalid n at.below at.cell_is in
            let left : times_free (pool_of old.secure old.shift (number ∷ more)) n ≡ once number n + times_free (pool_of old.secure old.shift more) n = sum_by-cons (λ (k : ℕ). if k == n then 1 else 0) number more in
            omega (arith, came, left);
      }

  -- and a store then, since a frame keeps its size and its number
  pub leaves_stored : (pool pool_new : PoolState) (pages : PagesState FrameState) (value : ℕ) (h : IsHeld old.shift pages gpa) → Leaves old pool pool_new pages →
      Leaves old pool pool_new (with_secure pages (gpa / 2 ^ old.shift) (frame_with h.frame (gpa % 2 ^ old.shift) value))
  leaves_stored pool pool_new pages value h before =
      let frame : FrameState = frame_with h.frame (gpa % 2 ^ old.shift) value in
      record {
        as_many = length_with pages (gpa / 2 ^ old.shift) frame ∙ before.as_many;
        like = like_through old.pages pages (with_secure pages (gpa / 2 ^ old.shift) frame) before.like (like_with old.shift pages gpa (cell.Secure h.frame) frame h.at refl refl);
        whole = whole_pages (2 ^ old.shift) old.normal old.secure (old.steps + 1) old.phase pages (gpa / 2 ^ old.shift) frame h.at.below before.whole (record {
          length_is = length-with_doubleword h.frame.bytes (gpa % 2 ^ old.shift) value (room_in old.shift pages gpa whole.shift.0 h) ∙ h.size;
          number = ((before.whole.each (gpa / 2 ^ old.shift)).frames h.frame (ap frame_in h.at.cell_is)).number;
        });
        count = before.count;
        size = before.size;
        frames = λ number.
            let same : times_in (with_secure pages (gpa / 2 ^ old.shift) frame) number + once h.frame.number number ≡ times_in pages number + once h.frame.number number =
            times_with pages (gpa / 2 ^ old.shift) frame (cell.Secure h.frame) number h.at.below h.at.cell_is in
            let moved = before.frames number in
            omega (arith, same, moved);
      }
