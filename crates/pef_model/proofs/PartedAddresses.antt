-- Each address is one of a frame or page and of an offset there.
use Rattle.std.proofs.Common.{◌≡◌, ℕ, ◌+◌, ◌-◌, ◌/◌, ◌%◌, ◌^◌, ◌<◌, true, ◌==◌, nat_lt, ◌&&◌, ap, sym, subst, ◌∙◌, arith}
use Rattle.std.specs.Prelude.{◌↔◌}
use Rattle.std.proofs.Math.Pow.{mod-mod-pow}
use Rattle.std.proofs.lemmas.Nat.{div-mul-add, mod-mul-add}
use Rattle.std.proofs.lemmas.Bool.Decides.{nat_tests}
use Rattle.pef_model.specs.AddressLaw.{address_at, EachAddressIsParted}

-- the two tests of an address, as facts
tests : (a b c : ℕ) → (((a == 0) && nat_lt b c) ≡ true) ↔ ((a ≡ 0) × (b < c))
tests a b c = (λ both. (grind (arith, nat_tests), grind (arith, nat_tests)), λ (zero_, below). grind (arith, nat_tests))

pub each_address_is_parted : EachAddressIsParted
each_address_is_parted plan n offset least small = record {
  frame = number;
  page = number;
  rest = rest;
  is_frame = by_tests (address % size) (address / size) offset n plan.normal rest number;
  is_page = by_tests (address % size) (address / size) offset n plan.pages rest number;
  is_real_place = by_tests (address % 8) (address / size) (offset % 8) n plan.normal eighth number;
  is_place = by_tests (address % 8) (address / size) (offset % 8) n plan.pages eighth number;
} where
  size : ℕ
  size = 2 ^ plan.shift

  address : ℕ
  address = address_at plan n offset

  number : address / size ≡ n
  number = div-mul-add n size offset small

  rest : address % size ≡ offset
  rest = mod-mul-add n size offset small

  eighth : address % 8 ≡ offset % 8
  eighth =
      let split : plan.shift ≡ (plan.shift - 3) + 3 = omega arith in
      sym (ap (λ (k : ℕ). address % 2 ^ k % 8) split ∙ mod-mod-pow address (plan.shift - 3) 3) ∙ ap (λ (k : ℕ). k % 8) rest

  by_tests : (a b c d limit : ℕ) → a ≡ c → b ≡ d → (((a == 0) && nat_lt b limit) ≡ true) ↔ ((c ≡ 0) × (d < limit))
  by_tests a b c d limit left right =
      subst (λ (x : ℕ). (((a == 0) && nat_lt b limit) ≡ true) ↔ ((x ≡ 0) × (d < limit))) left
      (subst (λ (x : ℕ). (((a == 0) && nat_lt b limit) ≡ true) ↔ ((a ≡ 0) × (x < limit))) right (tests a b limit))
