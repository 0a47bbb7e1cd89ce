-- The registers of a caller that has loaded its call.
use Rattle.std.proofs.Common.{◌≡◌, ◌≢◌, ℕ, ◌+◌, ◌-◌, ◌<◌, ◌≤◌, List, ◌++◌, length, take, drop, Bool, true, false, ◌==◌, nat_le, if◌then◌else◌, Option, Some, None, refl, ap, sym, ◌∙◌, arith, length-append, length-take, length-drop, get_or}
use Rattle.std.specs.Prelude.{unwrap_or, slice_get, slice_set}
use Rattle.std.proofs.Math.ListN.{length-set}
use Rattle.std.proofs.lemmas.Bool.Decides.{nat_tests}
use Rattle.std.proofs.lemmas.Grind.{common_steps}
use Rattle.std.proofs.lemmas.List.{get_or_append_left, get_or-append_right, get_or-drop, get_or-take, get_or-set_other}
use Rattle.std.proofs.lemmas.Option.{slice_get-get_or, slice_get_past}
use Rattle.pef_model.specs.declared.command.Code.{Code}
use Rattle.pef_model.specs.declared.command.Cmd.{Cmd}
use Rattle.pef_model.specs.declared.command.Cmd.TheVariants.{HLd, UPate, URegslot, UUnregslot, UPagein, UPageout, UInval, UReturn}
use Rattle.pef_model.specs.Registers.{Call, number_of, call_of, with_call, with_return, loaded, with_code, value_of_call, value_loaded, value_returned}
use Rattle.pef_model.specs.Commands.{IsCommand}
use Rattle.pef_model.proofs.Folds.{test_same}

-- a call's operands are registers from R4 on
abbrev HasRoom : Option Call → Type 0
HasRoom None = Unit {0}
HasRoom (Some call) = 4 + length call.operands ≤ 32

-- no command has more operands than there are registers
has_room : (cmd : Cmd) → IsCommand cmd → HasRoom (call_of cmd)
has_room (UPate lpid dw0 dw1) k = grind arith
has_room (URegslot lpid start size flags id) k = grind arith
has_room (UUnregslot lpid id) k = grind arith
has_room (UPagein lpid src gpa flags order) k = grind arith
has_room (UPageout lpid dest gpa flags order) k = grind arith
has_room (UInval lpid gpa order) k = grind arith
has_room (UReturn r0 r2 outs) k = let nine = k.2 in omega (arith, nine)
has_room (HLd ra) k = tt
has_room cmd k = tt

-- there are as many registers as before
length_call : (gpr : List ℕ) (call : Option Call) → HasRoom call → length gpr ≡ 32 → length (with_call gpr call) ≡ 32
length_call gpr None room full = full
length_call gpr (Some call) room full = simp (length-set, length-append, length-take, length-drop) (omega (arith, room))

length_return : (gpr : List ℕ) (cmd : Cmd) → length gpr ≡ 32 → length (with_return gpr cmd) ≡ 32
length_return gpr (UReturn r0 r2 outs) full = simp length-set full
length_return gpr cmd full = full

pub length_loaded : (gpr : List ℕ) (cmd : Cmd) → IsCommand cmd → length gpr ≡ 32 → length (loaded gpr cmd) ≡ 32
length_loaded gpr cmd k full = length_call (with_return gpr cmd) (call_of cmd) (has_room cmd k) (length_return gpr cmd full)

-- each register after one was set
pub set_value : (gpr : List ℕ) (rd value r : ℕ) → length gpr ≡ 32 → rd < 32 → get_or (slice_set gpr rd value) r 0 ≡ unwrap_or (if r == rd then Some value else None) (get_or gpr r 0)
set_value gpr rd value r h k = by_test (r == rd) refl where
  by_test : (b : Bool) → (r == rd) ≡ b → get_or (slice_set gpr rd value) r 0 ≡ unwrap_or (if b then Some value else None) (get_or gpr r 0)
  by_test true t = let same : r ≡ rd = test_same r rd t in grind (arith, common_steps)
  by_test false t = let other : rd ≢ r = grind (arith, nat_tests) in grind (arith, common_steps)

-- each register after values were put into R4 and the registers after it
module _ (gpr values : List ℕ) (r : ℕ) (full : length gpr ≡ 32) (room : 4 + length values ≤ 32) where
  front : length (take 4 gpr) ≡ 4
  front = simp length-take (omega (arith, full))

  abbrev now : ℕ
  now = get_or (take 4 gpr ++ (values ++ drop (4 + length values) gpr)) r 0

  behind : 4 ≤ r → now ≡ get_or (values ++ drop (4 + length values) gpr) (r - 4) 0
  behind h = get_or-append_right (take 4 gpr) (values ++ drop (4 + length values) gpr) 4 r 0 front h

  past : 4 + length values ≤ r → get_or (values ++ drop (4 + length values) gpr) (r - 4) 0 ≡ get_or gpr r 0
  past h =
      get_or-append_right values (drop (4 + length values) gpr) (length values) (r - 4) 0 refl (omega arith)
      ∙ get_or-drop (4 + length values) gpr (r - 4 - length values) 0
      ∙ ap (λ (i : ℕ). get_or gpr i 0) (omega arith)

  by_value : 4 ≤ r → (b : Bool) → nat_le (4 + length values) r ≡ b → now ≡ unwrap_or (slice_get values (r - 4)) (get_or gpr r 0)
  by_value h true t =
      let high : 4 + length values ≤ r = grind (arith, nat_tests) in
      behind h ∙ past high ∙ ap (λ (o : Option ℕ). unwrap_or o (get_or gpr r 0)) (sym (slice_get_past values (r - 4) (omega arith)))
  by_value h false t =
      let low : r - 4 < length values = grind (arith, nat_tests) in
      behind h ∙ get_or_append_left values (drop (4 + length values) gpr) 0 (r - 4) low
      ∙ ap (λ (o : Option ℕ). unwrap_or o (get_or gpr r 0)) (sym (slice_get-get_or values (r - 4) 0 low))

  by_place : (b : Bool) → nat_le 4 r ≡ b → now ≡ unwrap_or (if b then slice_get values (r - 4) else None) (get_or gpr r 0)
  by_place true t = by_value (grind (arith, nat_tests)) (nat_le (4 + length values) r) refl
  by_place false t =
      let low : r < 4 = grind (arith, nat_tests) in
      get_or_append_left (take 4 gpr) (values ++ drop (4 + length values) gpr) 0 r (omega (arith, front, low)) ∙ get_or-take 4 gpr r 0 low

  pub placed_value : now ≡ unwrap_or (if nat_le 4 r then slice_get values (r - 4) else None) (get_or gpr r 0)
  placed_value = by_place (nat_le 4 r) refl

-- and a number into R3
number_value : (gpr operands : List ℕ) (number r : ℕ) → length gpr ≡ 32 → 4 + length operands ≤ 32 → (b : Bool) → (r == 3) ≡ b →
    get_or (with_call gpr (Some (record { number = number; operands = operands }))) r 0 ≡ unwrap_or (if b then Some number else (if nat_le 4 r then slice_get operands (r - 4) else None)) (get_or gpr r 0)
number_value gpr operands number r full room b t = placed_value (slice_set gpr 3 number) operands r (simp length-set full) room ∙ by_number b t where
  given : Option ℕ
  given = if nat_le 4 r then slice_get operands (r - 4) else None

  by_number : (b : Bool) → (r == 3) ≡ b → unwrap_or given (get_or (slice_set gpr 3 number) r 0) ≡ unwrap_or (if b then Some number else given) (get_or gpr r 0)
  by_number true t = let three : r ≡ 3 = grind (arith, nat_tests) in rw three (grind (arith, common_steps))
  by_number false t = let other : r ≢ 3 = grind (arith, nat_tests) in ap (unwrap_or given) (get_or-set_other gpr 3 r number 0 other)

-- each register after a call was loaded
call_value : (gpr : List ℕ) (call : Option Call) (r : ℕ) → HasRoom call → length gpr ≡ 32 → get_or (with_call gpr call) r 0 ≡ unwrap_or (value_of_call call r) (get_or gpr r 0)
call_value gpr None r room full = refl
call_value gpr (Some call) r room full = number_value gpr call.operands call.number r full room (r == 3) refl

-- each register after a command's call was loaded
pub loads_value : (gpr : List ℕ) (cmd : Cmd) (r : ℕ) → IsCommand cmd → length gpr ≡ 32 → get_or (loaded gpr cmd) r 0 ≡ unwrap_or (value_loaded cmd r) (get_or gpr r 0)
loads_value gpr (UReturn r0 r2 outs) r k full =
    call_value (with_return gpr (UReturn r0 r2 outs)) (call_of (UReturn r0 r2 outs)) r (has_room (UReturn r0 r2 outs) k) (length_return gpr (UReturn r0 r2 outs) full)
    ∙ by_zero (r == 0) refl where
      of_call : Option ℕ
      of_call = value_of_call (call_of (UReturn r0 r2 outs)) r

      other_call : r < 3 → of_call ≡ None
      other_call h = grind (arith, nat_tests)

      by_two : r ≢ 0 → (b : Bool) → (r == 2) ≡ b → unwrap_or of_call (get_or (slice_set (slice_set gpr 0 r0) 2 r2) r 0) ≡ unwrap_or (if b then Some r2 else of_call) (get_or gpr r 0)
      by_two other true t =
          let two : r ≡ 2 = grind (arith, nat_tests) in
          ap (λ (o : Option ℕ). unwrap_or o (get_or (slice_set (slice_set gpr 0 r0) 2 r2) r 0)) (other_call (omega (arith, two))) ∙ grind (arith, common_steps)
      by_two other false t =
          let not_two : r ≢ 2 = grind (arith, nat_tests) in
          ap (unwrap_or of_call) (get_or-set_other (slice_set gpr 0 r0) 2 r r2 0 not_two ∙ get_or-set_other gpr 0 r r0 0 other)

      by_zero : (b : Bool) → (r == 0) ≡ b → unwrap_or of_call (get_or (slice_set (slice_set gpr 0 r0) 2 r2) r 0) ≡ unwrap_or (if b then Some r0 else (if r == 2 then Some r2 else of_call)) (get_or gpr r 0)
      by_zero true t =
          let is : r ≡ 0 = grind (arith, nat_tests) in
          ap (λ (o : Option ℕ). unwrap_or o (get_or (slice_set (slice_set gpr 0 r0) 2 r2) r 0)) (other_call (omega (arith, is))) ∙ grind (arith, common_steps)
      by_zero false t = by_two (grind (arith, nat_tests)) (r == 2) refl
loads_value gpr (HLd ra) r k full = refl
loads_value gpr cmd r k full = call_value gpr (call_of cmd) r (has_room cmd k) full

-- and a code came back
pub returns_value : (gpr : List ℕ) (cmd : Cmd) (code : Code) (r : ℕ) → IsCommand cmd → length gpr ≡ 32 → get_or (with_code (loaded gpr cmd) code) r 0 ≡ unwrap_or (value_returned cmd code r) (get_or gpr r 0)
returns_value gpr cmd code r k full = by_three (r == 3) refl where
  by_three : (b : Bool) → (r == 3) ≡ b → get_or (with_code (loaded gpr cmd) code) r 0 ≡ unwrap_or (if b then Some (number_of code) else value_loaded cmd r) (get_or gpr r 0)
  by_three true t =
      let three : r ≡ 3 = grind (arith, nat_tests) in
      let long : length (loaded gpr cmd) ≡ 32 = length_loaded gpr cmd k full in
      grind (arith, common_steps)
  by_three false t =
      let other : r ≢ 3 = grind (arith, nat_tests) in
      get_or-set_other (loaded gpr cmd) 3 r (number_of code) 0 other ∙ loads_value gpr cmd r k full
