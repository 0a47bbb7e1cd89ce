-- The frame and the place of an address, and the address of a frame and of a place.
use Rattle.std.proofs.Common.{◌^◌, arith}
use Rattle.std.proofs.lemmas.Nat.{mod-mul-add, div-mul-add, shr_split, mod_below, pow_pos}
use Rattle.std.proofs.lemmas.Bool.Decides.{nat_tests}
use Rattle.pef_num.specs.AddressLaw.{FramesHaveAddresses, PlacesHaveAddresses}

-- an address is its quotient times the size, and its remainder
pub frames_have_addresses : FramesHaveAddresses
frames_have_addresses shift address number = grind (arith, nat_tests, shr_split address shift, mod-mul-add number (2 ^ shift) 0 (pow_pos shift), div-mul-add number (2 ^ shift) 0 (pow_pos shift))

-- an address splits in one way into a multiple of the size and an offset below the size
pub places_have_addresses : PlacesHaveAddresses
places_have_addresses shift address place =
    let below = mod_below address (2 ^ shift) (pow_pos shift) in (
      λ is. grind (arith, nat_tests, below, shr_split address shift),
      λ is. grind (arith, nat_tests, mod-mul-add place.page (2 ^ shift) place.off is.1, div-mul-add place.page (2 ^ shift) place.off is.1),
    )
