-- A page on its way in: what it has, and whether the hand is what was last sealed of it.
use Rattle.std.proofs.Common.{◌≡◌, ℕ, Bool, true, false, not, ◌&&◌, List, Option, Some, None, option_map, IsTrue, ◌↔◌, refl, ap, sym, ◌∙◌}
use Rattle.std.specs.Str.{bytes_eq}
use Rattle.std.proofs.lemmas.Slice.Eq.{bytes_eq-Decides}
use Rattle.pef_model.specs.declared.state.Digest32.{Digest32}
use Rattle.pef_model.specs.declared.state.Move.{Move}
use Rattle.pef_model.specs.declared.state.Way.TheVariants as way
use Rattle.pef_model.specs.PageIn.{is_last_sealed}
use Rattle.pef_model.specs.Clash.{collides_with}
use Rattle.pef_pages.specs.declared.cell.Cell.{Cell}
use Rattle.pef_pages.specs.declared.cell.Cell.TheVariants as cell
use Rattle.pef_pages.specs.Cells.{mover_of, way_of}
use Rattle.pef_pages.specs.Pages.{digest_at}
use Rattle.pef_guest.specs.declared.guest.Guest.{Guest}
use Rattle.pef_guest.specs.Shows.{digest_by}
use Rattle.pef_move.specs.PageIn.{IsRefusedIn}
use Rattle.pef_move.proofs.Ended.{cpu_of}

-- a page that a CPU moves inward, with its frame, and with the digest that it keeps
pub record IsOnWayIn {F : Type 0} (c : Cell F) (cpu : ℕ) : Type 0 where
  pub frame : F
  pub digest : Option Digest32
  pub is : c ≡ cell.MovesIn frame cpu digest

pub on_way_in : {F : Type 0} (c : Cell F) (cpu : ℕ) → mover_of c ≡ Some (record { cpu = cpu; way = way.Inward }) → IsOnWayIn c cpu
on_way_in (cell.MovesIn frame n digest) cpu moves =
    let one : n ≡ cpu = ap cpu_of moves in
    record { frame = frame; digest = digest; is = λ i. cell.MovesIn frame (one i) digest }
on_way_in (cell.MovesOut frame n digest) cpu moves = absurd (let other = ap way_of moves in cc)
on_way_in c cpu moves = absurd cc

-- bytes whose digest is that of others, and that don't collide with them, are the same
same_bytes : (hand sealed : List ℕ) (same : Bool) → bytes_eq hand sealed ≡ same → (not same && bytes_eq (digest_by hand).bytes (digest_by sealed).bytes) ≡ false → digest_by sealed ≡ digest_by hand → same ≡ true
same_bytes hand sealed true e apart digests = refl
same_bytes hand sealed false e apart digests =
    let one : bytes_eq (digest_by hand).bytes (digest_by sealed).bytes ≡ true = (bytes_eq-Decides (digest_by hand).bytes (digest_by sealed).bytes).1 (ap (λ (digest : Digest32). digest.bytes) (sym digests)) in
    absurd (let none : true ≡ false = sym one ∙ apart in cc)

-- the digest that a page keeps is that of the hand exactly where the hand is what was last sealed of it, or collides with that
pub last_sealed : (sealed : Option (List ℕ)) (hand : List ℕ) (kept : Option Digest32) (b : Bool) → kept ≡ option_map digest_by sealed → collides_with sealed hand ≡ false → IsTrue b ↔ (kept ≡ Some (digest_by hand)) → is_last_sealed sealed hand ≡ b
last_sealed None hand kept true keeps apart test = absurd (let there = test.0 refl in cc)
last_sealed None hand kept false keeps apart test = refl
last_sealed (Some sealed) hand kept true keeps apart test =
    let same : Some (digest_by sealed) ≡ Some (digest_by hand) = sym keeps ∙ test.0 refl in
    let digests : digest_by sealed ≡ digest_by hand = cc in
    same_bytes hand sealed (bytes_eq hand sealed) refl apart digests
last_sealed (Some sealed) hand kept false keeps apart test = by_bytes (bytes_eq hand sealed) refl where
  by_bytes : (same : Bool) → bytes_eq hand sealed ≡ same → bytes_eq hand sealed ≡ false
  by_bytes false e = e
  by_bytes true e =
      let one : hand ≡ sealed = (bytes_eq-Decides hand sealed).0 e in
      absurd (let yes : false ≡ true = test.1 (keeps ∙ ap (λ (bytes : List ℕ). Some (digest_by bytes)) (sym one)) in cc)

-- so where it is, something was last sealed, and it is the hand
pub sealed_is : (sealed : Option (List ℕ)) (hand : List ℕ) → is_last_sealed sealed hand ≡ true → sealed ≡ Some hand
sealed_is None hand e = absurd cc
sealed_is (Some sealed) hand e = ap Some (sym ((bytes_eq-Decides hand sealed).0 e))

-- a test of what is so, and of what is not
pub is_so : {X : Type 0} → X → IsTrue true ↔ X
is_so x = (λ yes. x, λ there. refl)

pub is_not : (X : Type 0) → (X → ⊥) → IsTrue false ↔ X
is_not X none = (λ yes. absurd cc, λ there. absurd (none there))

-- a page keeps the digest of the hand where its end is not refused
pub kept_or_refused : {S : Type 0} (guest : Guest S) (hand : List ℕ) (move : Move) → move.generation ≡ guest.generation → (IsRefusedIn guest hand move → ⊥) → digest_at guest.pages move.gfn ≡ Some (digest_by hand)
kept_or_refused guest hand move now accepted = by_digest (digest_at guest.pages move.gfn) refl where
  refused : (digest_at guest.pages move.gfn ≡ Some (digest_by hand) → ⊥) → digest_at guest.pages move.gfn ≡ Some (digest_by hand)
  refused differs = absurd (accepted (record { now = now; differs = differs }))

  by_bytes : (digest : Digest32) → digest_at guest.pages move.gfn ≡ Some digest → (same : Bool) → bytes_eq digest.bytes (digest_by hand).bytes ≡ same → digest_at guest.pages move.gfn ≡ Some (digest_by hand)
  by_bytes digest is true e = is ∙ (let one = (bytes_eq-Decides digest.bytes (digest_by hand).bytes).0 e in λ i. Some (record { bytes = one i }))
  by_bytes digest is false e = refused (λ same.
      let one : digest ≡ digest_by hand = (let two = sym is ∙ same in cc) in
      let yes = (bytes_eq-Decides digest.bytes (digest_by hand).bytes).1 (ap (λ (d : Digest32). d.bytes) one) in
      (let no : true ≡ false = sym yes ∙ e in cc))

  by_digest : (o : Option Digest32) → digest_at guest.pages move.gfn ≡ o → digest_at guest.pages move.gfn ≡ Some (digest_by hand)
  by_digest None is = refused (λ same. (let two = sym is ∙ same in cc))
  by_digest (Some digest) is = by_bytes digest is (bytes_eq digest.bytes (digest_by hand).bytes) refl
