-- Which partition entries there can be, and which frame each page has.
use Rattle.std.specs.Prelude.{ℕ, ◌+◌, ◌/◌, ◌%◌, ◌^◌, ◌==◌, nat_lt, nat_le, Bool, not, ◌&&◌, if◌then◌else◌, Option, Some, None, Result, Ok, Err}
use Rattle.pef_pate.specs.declared.pate.Pate.{Pate}
use Rattle.pef_pate.specs.declared.pate.PateFault.{PateFault}
use Rattle.pef_pate.specs.declared.pate.PateFault.TheVariants.{BadBase, BadLength}

-- a base is the address of a normal frame
abbrev pub is_base : ℕ → ℕ → ℕ → Bool
is_base shift normal dw0 = (dw0 % 2 ^ shift == 0) && nat_lt (dw0 / 2 ^ shift) normal

-- a length is at most the guest's pages, and the frames from the base on are that many
abbrev pub is_length : ℕ → ℕ → ℕ → ℕ → ℕ → Bool
is_length shift normal pages dw0 dw1 = nat_le dw1 pages && nat_le (dw0 / 2 ^ shift + dw1) normal

-- the entry, or the first thing that is wrong with it
abbrev pub checked : ℕ → ℕ → ℕ → ℕ → ℕ → Result Pate PateFault
checked shift normal pages dw0 dw1 =
    if not (is_base shift normal dw0) then Err BadBase
    else if not (is_length shift normal pages dw0 dw1) then Err BadLength
    else Ok (record { dw0 = dw0; dw1 = dw1 })

-- the frame of a page: they follow each other from the base's on
abbrev pub frame_at : ℕ → Pate → ℕ → Option ℕ
frame_at shift pate gfn = if nat_lt gfn pate.dw1 then Some (pate.dw0 / 2 ^ shift + gfn) else None
