-- Hypercalls: which rows a table can have, which row a number has, and what leaves with a call.
use Rattle.std.specs.Prelude.{◌≡◌, ℕ, ◌+◌, ◌≤◌, ◌==◌, nat_lt, nat_le, Bool, ◌&&◌, if◌then◌else◌, List, ◌∷◌, map, take, drop, slice_index, Option}
use Rattle.std.specs.List.{All, find, range_with_len}
use Rattle.std.specs.List.Sorted.{IsStrictlyIncreasing}
use Rattle.pef_model.specs.declared.state.Regs.{Regs}
use Rattle.pef_model.specs.declared.hypercall.Row.{Row}

-- a row's inputs, and its outputs, are at most nine registers from R4 on
pub record IsRow (row : Row) : Type 0 where
  pub first : row.first ≡ 4
  pub inputs : row.inputs ≤ 9
  pub outputs : row.outputs ≤ 9

-- the numbers of a table's rows rise strictly, so each number has at most one row
pub record IsTable (rows : List Row) : Type 0 where
  pub rises : IsStrictlyIncreasing (map (λ (row : Row). row.number) rows)
  pub each : All IsRow rows

-- the row that has the number
abbrev pub row_of : List Row → ℕ → Option Row
row_of rows number = find (λ (row : Row). row.number == number) rows

-- a register is an input: it is one of the row's `inputs` registers from its first on
abbrev pub is_input : Row → ℕ → Bool
is_input row r = nat_le row.first r && nat_lt r (row.first + row.inputs)

-- what a register shows once it is scrubbed: R3 the call's number, an input what the guest put there, every other register 0
abbrev pub value_scrubbed : Row → List ℕ → ℕ → ℕ
value_scrubbed row gpr r =
    if r == 3 then row.number
    else if is_input row r then slice_index gpr r
    else 0

-- the registers that leave: each of the 32 is scrubbed, and of where the guest is nothing is shown
abbrev pub scrubbed : Row → Regs → Regs
scrubbed row regs = record { gpr = map (value_scrubbed row regs.gpr) (range_with_len 0 32); nip = 0; srr0 = 0 }

-- the values that a guest lets out by a call that leaves: R3, and the row's inputs
abbrev pub let_out_by : Row → List ℕ → List ℕ
let_out_by row gpr = slice_index gpr 3 ∷ take row.inputs (drop row.first gpr)
