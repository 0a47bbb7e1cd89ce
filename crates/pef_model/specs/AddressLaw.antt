-- Law of addresses: each is one of a frame or page and of an offset there, whatever the size of pages.
use Rattle.std.specs.Prelude.{◌≡◌, ◌↔◌, ℕ, ◌+◌, ◌*◌, ◌%◌, ◌^◌, ◌<◌, ◌≤◌, true}
use Rattle.pef_model.specs.Plan.{Plan}
use Rattle.pef_model.specs.Target.{frame_of, has_real_place}
use Rattle.pef_model.specs.GuestPart.{page_of, has_place}
use Rattle.pef_model.specs.Memory.{offset_of}
use Rattle.pef_model.specs.PageOut.{has_frame, has_page}

-- the address with an offset in the frame or page of a number
abbrev pub address_at : Plan → ℕ → ℕ → ℕ
address_at plan n offset = n * 2 ^ plan.shift + offset

-- what the definitions make of it
pub record IsParted (plan : Plan) (n offset : ℕ) : Type 0 where
  -- its frame's number, its page's, and its offset there
  pub frame : frame_of plan (address_at plan n offset) ≡ n
  pub page : page_of plan (address_at plan n offset) ≡ n
  pub rest : offset_of plan (address_at plan n offset) ≡ offset
  -- it's that of a frame or page exactly where it's the first one of a frame or page that there is
  pub is_frame : (has_frame plan (address_at plan n offset) ≡ true) ↔ ((offset ≡ 0) × (n < plan.normal))
  pub is_page : (has_page plan (address_at plan n offset) ≡ true) ↔ ((offset ≡ 0) × (n < plan.pages))
  -- and that of a doubleword exactly where it's a multiple of 8 there
  pub is_real_place : (has_real_place plan (address_at plan n offset) ≡ true) ↔ ((offset % 8 ≡ 0) × (n < plan.normal))
  pub is_place : (has_place plan (address_at plan n offset) ≡ true) ↔ ((offset % 8 ≡ 0) × (n < plan.pages))

abbrev pub EachAddressIsParted : Type 0
EachAddressIsParted = (plan : Plan) (n offset : ℕ) → 3 ≤ plan.shift → offset < 2 ^ plan.shift → IsParted plan n offset
