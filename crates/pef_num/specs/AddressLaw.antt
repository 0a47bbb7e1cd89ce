-- Laws of the frames and places of addresses.
use Rattle.std.specs.Prelude.{◌≡◌, ℕ, ◌+◌, ◌*◌, ◌%◌, ◌^◌, ◌<◌, ◌↔◌, Some}
use Rattle.pef_num.specs.declared.place.Place.{Place}
use Rattle.pef_num.specs.Addresses.{frame_in, place_in}

-- a frame's number is found at its address, and at no other
abbrev pub FramesHaveAddresses : Type 0
FramesHaveAddresses = (shift address number : ℕ) → (frame_in shift address ≡ Some number) ↔ ((number < 2 ^ 32) × (address ≡ number * 2 ^ shift))

-- a doubleword's place is found at its address, and at no other
abbrev pub PlacesHaveAddresses : Type 0
PlacesHaveAddresses =
    (shift address : ℕ) (place : Place) →
    (place_in shift address ≡ Some place) ↔ ((place.page < 2 ^ 32) × (place.off < 2 ^ shift) × (address % 8 ≡ 0) × (address ≡ place.page * 2 ^ shift + place.off))
