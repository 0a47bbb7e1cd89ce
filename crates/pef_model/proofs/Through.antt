-- A guest's load or store that is done in a normal frame: what it gives or writes, and where.
use Rattle.std.proofs.Common.{◌≡◌, ℕ, ◌%◌, nat_lt, List, [], ◌∷◌, Bool, true, false, refl, ap, sym, ◌∙◌, ◌==◌, if◌then◌else◌, Option, Some, None}
use Rattle.std.proofs.lemmas.Bool.{and_parts}
use Rattle.pef_model.specs.declared.state.Phase.{Phase}
use Rattle.pef_model.specs.declared.state.Phase.TheVariants as phase
use Rattle.pef_model.specs.declared.state.Run.{Run}
use Rattle.pef_model.specs.declared.state.Ctx.TheVariants as ctx
use Rattle.pef_model.specs.declared.command.Cmd.TheVariants.{GLd, GSt}
use Rattle.pef_model.specs.declared.entry.Answer.{Answer}
use Rattle.pef_model.specs.declared.entry.Answer.TheVariants.{Done, Val}
use Rattle.pef_model.specs.Plan.{Plan}
use Rattle.pef_model.specs.Event.{Event}
use Rattle.pef_model.specs.Seal.{doublewords}
use Rattle.pef_model.specs.Target.{Ask}
use Rattle.pef_model.specs.GuestPart.{GuestPart, Meeting, NoPlace, Unbacked, Normal, meets, meets_in, meets_page, meets_entry, has_place, page_of, is_in_slot}
use Rattle.pef_model.specs.Memory.{offset_of}
use Rattle.pef_model.specs.Deed.{Deed, deed_access, deed_gone}
use Rattle.pef_model.specs.History.{cpu_after, guest_after, pool_after, found_after, Extends, reg}
use Rattle.pef_model.proofs.Folds.{test_same}
use Rattle.pef_model.proofs.DeedOf.{deed_of, ask_in, deed_is}

-- an access that meets a normal frame has the address of a doubleword
pub meets_aligned : (plan : Plan) (g : GuestPart) (gpa n : ℕ) → meets plan g gpa ≡ Normal n → gpa % 8 ≡ 0
meets_aligned plan g gpa n is = by_phase g.phase is where
  by_entry : (b : Bool) → (gpa % 8 == 0) ≡ b → (if b then meets_entry plan g.entry (page_of plan gpa) else NoPlace) ≡ Normal n → gpa % 8 ≡ 0
  by_entry true t h = test_same (gpa % 8) 0 t
  by_entry false t h = cc

  by_place : (b : Bool) → is_in_slot plan g gpa ≡ b → (if b then meets_page (g.pages (page_of plan gpa)) else NoPlace) ≡ Normal n → gpa % 8 ≡ 0
  by_place true t h = test_same (gpa % 8) 0 (and_parts _ _ (and_parts (has_place plan gpa) _ t).0).0
  by_place false t h = cc

  by_phase : (p : Phase) → meets_in p plan g gpa ≡ Normal n → gpa % 8 ≡ 0
  by_phase phase.Normal h = by_entry (gpa % 8 == 0) refl h
  by_phase p h = by_place (is_in_slot plan g gpa) refl h

-- an access of a guest that tells a normal frame meets it, answers as one in a normal frame does, and has what it lets out as its bytes
pub record IsThrough (plan : Plan) (g : GuestPart) (gpa n : ℕ) (through : ℕ → Answer) (out : List ℕ) (e : Event) : Type 0 where
  pub meets_is : meets plan g gpa ≡ Normal n
  pub answer : e.trace.answer ≡ through n
  pub bytes : e.bytes ≡ doublewords out

some_same : {x y : ℕ} → Some x ≡ Some y → x ≡ y
some_same h = cc

module _ (plan : Plan) (past : List Event) (e : Event) (run : Run) (gpa n : ℕ) (frame_is : e.saw.frame ≡ Some n) (ask : Ask) (success : Answer) (through : ℕ → Answer) (out : List ℕ) where
  abbrev g : GuestPart
  g = (guest_after plan run.lpid past).part

  none : {x : Option ℕ} → x ≡ Some n → x ≡ None → ⊥
  none some unsaid = cc

  by_meeting : (any : Bool) (m : Meeting) → meets plan g gpa ≡ m → deed_of e ≡ deed_access ask success through out any m → IsThrough plan g gpa n through out e
  by_meeting any (Normal k) met is =
      let same : k ≡ n = some_same (sym (ap (λ (d : Deed). d.frame) is) ∙ frame_is) in
      record { meets_is = met ∙ ap Normal same; answer = ap (λ (d : Deed). d.answer) is ∙ ap through same; bytes = ap (λ (d : Deed). d.bytes) is }
  by_meeting true Unbacked met is = absurd (none frame_is (ap (λ (d : Deed). d.frame) is))
  by_meeting false Unbacked met is = absurd (none frame_is (ap (λ (d : Deed). d.frame) is))
  by_meeting any m met is = absurd (none frame_is (ap (λ (d : Deed). d.frame) is))

  -- whether the guest lives or has ended
  by_life : (b : Bool) → deed_of e ≡ (if b then deed_access ask success through out (nat_lt 0 (pool_after plan past)) (meets plan g gpa) else deed_gone ask) → IsThrough plan g gpa n through out e
  by_life true is = by_meeting (nat_lt 0 (pool_after plan past)) (meets plan g gpa) refl is
  by_life false is = absurd (none frame_is (ap (λ (d : Deed). d.frame) is))

-- a store of a guest that tells a normal frame
pub store_is_through : (plan : Plan) (past : List Event) (e : Event) (run : Run) (rs gpa n : ℕ) → Extends plan past e → e.saw.before ≡ ctx.Guest run → e.trace.cmd ≡ GSt rs gpa → e.saw.frame ≡ Some n →
    IsThrough plan (guest_after plan run.lpid past).part gpa n (λ k. Done) (reg plan past run.lpid run.vid rs ∷ []) e
store_is_through plan past e run rs gpa n extends before cmd_is frame_is =
    by_life plan past e run gpa n frame_is (ask_in (cpu_after plan e.trace.cpu past) (ctx.Guest run) (GSt rs gpa)) Done (λ k. Done) (reg plan past run.lpid run.vid rs ∷ [])
    (run.generation == (guest_after plan run.lpid past).part.generation) (deed_is plan past e (ctx.Guest run) (GSt rs gpa) extends before cmd_is)

-- and a load
pub load_is_through : (plan : Plan) (past : List Event) (e : Event) (run : Run) (rd gpa n : ℕ) → Extends plan past e → e.saw.before ≡ ctx.Guest run → e.trace.cmd ≡ GLd rd gpa → e.saw.frame ≡ Some n →
    IsThrough plan (guest_after plan run.lpid past).part gpa n (λ k. Val (found_after plan past k (offset_of plan gpa))) [] e
load_is_through plan past e run rd gpa n extends before cmd_is frame_is =
    by_life plan past e run gpa n frame_is (ask_in (cpu_after plan e.trace.cpu past) (ctx.Guest run) (GLd rd gpa)) (Val ((guest_after plan run.lpid past).content gpa))
    (λ k. Val (found_after plan past k (offset_of plan gpa))) []
    (run.generation == (guest_after plan run.lpid past).part.generation) (deed_is plan past e (ctx.Guest run) (GLd rd gpa) extends before cmd_is)
