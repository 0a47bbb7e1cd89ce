-- The doubleword that is read is the one last put there, and all others stay.
use Rattle.std.proofs.Common.{◌≡◌, ℕ, zero, suc, ◌+◌, ◌^◌, ◌<◌, ◌≤◌, List, ◌++◌, length, take, drop, replicate, arith, refl, ap, sym, ◌∙◌, get_or, ◌⊎◌, inl, inr, length-take, length-append, length-drop, append_assoc, ◌-◌}
use Rattle.std.proofs.Math.Seq.{drop-append-add, drop-append_seam}
use Rattle.std.proofs.lemmas.List.{drop-append-le, take-append-drop, drop-drop, drop-replicate}
use Rattle.std.proofs.lemmas.Slice.{drop-append-drop}
use Rattle.byteorder.specs.Endian.{big_number, big_bytes}
use Rattle.byteorder.specs.Numbers.{big_from-append, big_number-reads_back}
use Rattle.pef_model.specs.Doubleword.{doubleword, with_doubleword}
use Rattle.pef_model.specs.Memory.{overwritten}

-- what lies past a first part is the second
seam : (xs ys : List ℕ) (n : ℕ) → length xs ≡ n → drop n (xs ++ ys) ≡ ys
seam xs ys n e = rw (← e) (drop-append_seam xs ys)

length_front : (bytes : List ℕ) (offset : ℕ) → offset ≤ length bytes → length (take offset bytes) ≡ offset
length_front bytes offset room = omega (arith, length-take offset bytes)

-- a doubleword that is put takes the room of the one before
pub length-with_doubleword : (bytes : List ℕ) (offset value : ℕ) → offset + 8 ≤ length bytes → length (with_doubleword bytes offset value) ≡ length bytes
unfolding with_doubleword
length-with_doubleword bytes offset value room = simp (length-append, length-drop) (omega (arith, length-take offset bytes))

-- it is read again
pub doubleword-put : (bytes : List ℕ) (offset value : ℕ) → offset + 8 ≤ length bytes → value < 2 ^ 64 → doubleword (with_doubleword bytes offset value) offset ≡ value
unfolding doubleword with_doubleword
doubleword-put bytes offset value room small =
    ap (big_number 8) (seam (take offset bytes) (big_bytes 8 value ++ drop 8 (drop offset bytes)) offset (length_front bytes offset (omega arith)))
    ∙ big_number-reads_back 8 value (drop 8 (drop offset bytes)) small

-- a doubleword before the seam of two lists is in the first
before_seam : (xs ys : List ℕ) (other : ℕ) → other + 8 ≤ length xs → big_number 8 (drop other (xs ++ ys)) ≡ big_number 8 (drop other xs)
before_seam xs ys other room =
    ap (big_number 8) (drop-append-le other xs ys (omega arith)) ∙ big_from-append 8 (drop other xs) ys (simp length-drop (omega arith))

-- what lies past the eight bytes that were written stays
past_seam : (bytes : List ℕ) (offset other value : ℕ) → offset + 8 ≤ length bytes → offset + 8 ≤ other →
    drop other (take offset bytes ++ (big_bytes 8 value ++ drop 8 (drop offset bytes))) ≡ drop other bytes
past_seam bytes offset other value room after =
    ap (drop other) (sym (append_assoc (take offset bytes) (big_bytes 8 value) (drop 8 (drop offset bytes))))
    ∙ ap (λ (xs : List ℕ). drop other ((take offset bytes ++ big_bytes 8 value) ++ xs)) (drop-drop 8 offset bytes)
    ∙ drop-append-drop (offset + 8) bytes (take offset bytes ++ big_bytes 8 value) other after (simp length-append (omega (arith, length-take offset bytes)))

-- a doubleword before or after the one that is put stays
pub doubleword-other : (bytes : List ℕ) (offset other value : ℕ) → offset + 8 ≤ length bytes → (other + 8 ≤ offset) ⊎ (offset + 8 ≤ other) → doubleword (with_doubleword bytes offset value) other ≡ doubleword bytes other
unfolding doubleword with_doubleword
doubleword-other bytes offset other value room (inl before) =
    before_seam (take offset bytes) (big_bytes 8 value ++ drop 8 (drop offset bytes)) other (omega (arith, length-take offset bytes))
    ∙ sym (before_seam (take offset bytes) (drop offset bytes) other (omega (arith, length-take offset bytes)))
    ∙ ap (λ (xs : List ℕ). big_number 8 (drop other xs)) (take-append-drop offset bytes)
doubleword-other bytes offset other value room (inr after) = ap (big_number 8) (past_seam bytes offset other value room after)

-- bytes that lie within the old ones take the room of what they overwrite
pub length-overwritten : (old bytes : List ℕ) (offset : ℕ) → offset + length bytes ≤ length old → length (overwritten old offset bytes) ≡ length old
length-overwritten old bytes offset room = simp (length-append, length-drop) (omega (arith, length-take offset old))

-- a doubleword that is overwritten is that of the new bytes
pub overwritten_inside : (old bytes : List ℕ) (offset other : ℕ) → offset + length bytes ≤ length old → offset ≤ other → other + 8 ≤ offset + length bytes →
    doubleword (overwritten old offset bytes) other ≡ doubleword bytes (other - offset)
unfolding doubleword
overwritten_inside old bytes offset other room after before =
    let front : length (take offset old) ≡ offset = length_front old offset (omega arith) in
    let past : other ≡ length (take offset old) + (other - offset) = omega arith in
    let rest : List ℕ = drop (offset + length bytes) old in
    ap (λ (n : ℕ). big_number 8 (drop n (take offset old ++ (bytes ++ rest)))) past
    ∙ ap (big_number 8) (drop-append-add (take offset old) (bytes ++ rest) (other - offset))
    ∙ before_seam bytes rest (other - offset) (omega arith)

-- one before or after them stays
pub overwritten_outside : (old bytes : List ℕ) (offset other : ℕ) → offset + length bytes ≤ length old → (other + 8 ≤ offset) ⊎ (offset + length bytes ≤ other) →
    doubleword (overwritten old offset bytes) other ≡ doubleword old other
unfolding doubleword
overwritten_outside old bytes offset other room (inl before) =
    before_seam (take offset old) (bytes ++ drop (offset + length bytes) old) other (omega (arith, length-take offset old))
    ∙ sym (before_seam (take offset old) (drop offset old) other (omega (arith, length-take offset old)))
    ∙ ap (λ (xs : List ℕ). big_number 8 (drop other xs)) (take-append-drop offset old)
overwritten_outside old bytes offset other room (inr after) =
    ap (big_number 8)
    (ap (drop other) (sym (append_assoc (take offset old) bytes (drop (offset + length bytes) old)))
    ∙ drop-append-drop (offset + length bytes) old (take offset old ++ bytes) other after (simp length-append (omega (arith, length-take offset old))))

-- each element of zeros is zero
zero_at : (n i : ℕ) → get_or (replicate {A = ℕ} n 0) i 0 ≡ 0
zero_at zero i = refl
zero_at (suc n) zero = refl
zero_at (suc n) (suc i) = zero_at n i

-- each doubleword of zeros is zero
pub doubleword-zeros : (n offset : ℕ) → doubleword (replicate n 0) offset ≡ 0
unfolding doubleword
doubleword-zeros n offset = simp (drop-replicate, zero_at)

pub ruleset lengths = length-with_doubleword
