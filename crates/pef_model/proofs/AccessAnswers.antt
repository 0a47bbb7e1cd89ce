-- Where Again and Hole come.
use Rattle.std.proofs.Common.{◌≡◌, ◌≢◌, ℕ, ◌%◌, List, Bool, true, false, ◌==◌, nat_lt, if◌then◌else◌, refl, ap, sym, subst, ◌∙◌, Option, Some, None, inl, inr, arith}
use Rattle.std.specs.Prelude.{IsSome, ◌↔◌, ◌+◌}
use Rattle.std.proofs.lemmas.Grind.{common_steps}
use Rattle.std.proofs.lemmas.Bool.Decides.{nat_tests}
use Rattle.pef_model.specs.declared.state.Phase.TheVariants as phase
use Rattle.pef_model.specs.declared.state.Kind.{Kind}
use Rattle.pef_model.specs.declared.state.Kind.TheVariants as kind
use Rattle.pef_model.specs.declared.state.Run.{Run}
use Rattle.pef_model.specs.declared.state.Ctx.{Ctx}
use Rattle.pef_model.specs.declared.state.Ctx.TheVariants as ctx
use Rattle.pef_model.specs.declared.command.Cmd.{Cmd}
use Rattle.pef_model.specs.declared.command.Cmd.TheVariants.{GLd, GSt, GIrq}
use Rattle.pef_model.specs.declared.entry.Answer.{Answer}
use Rattle.pef_model.specs.declared.entry.Answer.TheVariants.{Again, Gone, Hole}
use Rattle.pef_model.specs.Plan.{Plan}
use Rattle.pef_model.specs.Event.{Event}
use Rattle.pef_model.specs.Target.{Ask, frame_of, is_hypervisor, guest_address_in}
use Rattle.pef_model.specs.Cpu.{CpuPart}
use Rattle.pef_model.specs.Slots.{has_slot}
use Rattle.pef_model.specs.GuestPart.{GuestPart, Meeting, Moves, Private, Normal, Unbacked, has_place, meets, page_of}
use Rattle.pef_model.specs.Guest.{Guest}
use Rattle.pef_model.specs.Deed.{Deed, deed_access, deed_gone}
use Rattle.pef_model.specs.History.{cpu_after, guest_after, pool_after, found_after, Extends, part_after}
use Rattle.pef_model.specs.CauseLaw.{real_address_in, is_access_in, IsAccess, MeetsMover, AgainCause, AtAccess, AgainExactlyWhere, IsOutside, IsOutsideEntry, IsOutOfReach, CannotBeAccessed, HoleExactlyWhere}
use Rattle.pef_model.proofs.Folds.{same_test, test_same}
use Rattle.pef_model.specs.declared.state.Mover.{Mover}
use Rattle.pef_model.proofs.Outcomes.{Outcome, outcome, moving}
use Rattle.pef_model.proofs.DeedOf.{ask_in, deed_in, deed_is, success_of, through_of, shown_of, reach, access_is}

-- Again comes from a vCPU
again_comes : (c : Ctx) (cmd : Cmd) (after : Ctx) (shown : List ℕ) → Outcome c cmd Again after shown → is_hypervisor c ≡ false
again_comes c cmd after shown h = grind (arith, common_steps)

-- at a load or store
again_command : (run : Run) (cmd : Cmd) (after : Ctx) (shown : List ℕ) → Outcome (ctx.Guest run) cmd Again after shown → IsSome (guest_address_in cmd)
again_command run (GLd rd gpa) after shown h = refl
again_command run (GSt rs gpa) after shown h = refl
again_command run GIrq after shown h = absurd h
again_command run cmd after shown h = absurd h

-- the answer of an access that is done
abbrev IsDone : Answer → Type 0
IsDone a = (a ≢ Again) × (a ≢ Hole)

through_is_done : (plan : Plan) (found : ℕ → ℕ → ℕ) (cmd : Cmd) (n : ℕ) → IsDone (through_of plan found cmd n)
through_is_done plan found (GLd rd gpa) n = (λ h. cc, λ h. cc)
through_is_done plan found cmd n = (λ h. cc, λ h. cc)

success_is_done : (g : Guest) (cmd : Cmd) → IsDone (success_of g cmd)
success_is_done g (GLd rd gpa) = (λ h. cc, λ h. cc)
success_is_done g cmd = (λ h. cc, λ h. cc)

-- an access by what it meets
abbrev Accesses : Plan → GuestPart → ℕ → Ask → Answer → (ℕ → Answer) → List ℕ → Bool → Answer → Type 0
Accesses plan g gpa ask success through out any a = (deed_access ask success through out any (meets plan g gpa)).answer ≡ a

-- what answers Again meets a page on the move
again_moves : (ask : Ask) (success : Answer) (through : ℕ → Answer) (out : List ℕ) (any : Bool) (m : Meeting) → IsDone success → ((n : ℕ) → IsDone (through n)) →
    (deed_access ask success through out any m).answer ≡ Again → m ≡ Moves
again_moves ask success through out true Unbacked done written h = absurd (done.0 h)
again_moves ask success through out false Unbacked done written h = cc
again_moves ask success through out any Private done written h = absurd (done.0 h)
again_moves ask success through out any Moves done written h = refl
again_moves ask success through out any (Normal n) done written h = absurd ((written n).0 h)
again_moves ask success through out any m done written h = cc

-- which lies in a page with a mover, of a guest that isn't Normal
moves_at : (plan : Plan) (g : GuestPart) (gpa : ℕ) → meets plan g gpa ≡ Moves → (g.phase ≢ phase.Normal) × (has_place plan gpa ≡ true) × (has_slot g.slots (page_of plan gpa) ≡ true) × IsSome (g.pages (page_of plan gpa)).mover
moves_at plan g gpa h = (λ normal. grind (arith, common_steps), grind (arith, common_steps), grind (arith, common_steps), grind (arith, common_steps))

meets_again : (plan : Plan) (g : GuestPart) (gpa : ℕ) (ask : Ask) (success : Answer) (through : ℕ → Answer) (out : List ℕ) (any : Bool) →
    g.phase ≢ phase.Normal → has_place plan gpa ≡ true → has_slot g.slots (page_of plan gpa) ≡ true → IsSome (g.pages (page_of plan gpa)).mover → Accesses plan g gpa ask success through out any Again
meets_again plan g gpa ask success through out any other place slot moves = grind (arith, common_steps)

-- what answers Hole can't be accessed
hole_meets : (plan : Plan) (g : GuestPart) (gpa : ℕ) (ask : Ask) (success : Answer) (through : ℕ → Answer) (out : List ℕ) (free : ℕ) → IsDone success → ((n : ℕ) → IsDone (through n)) → g.phase ≢ phase.Normal →
    Accesses plan g gpa ask success through out (nat_lt 0 free) Hole → CannotBeAccessed plan g free gpa
hole_meets plan g gpa ask success through out free done written normal h = by_place (gpa % 8 == 0) (nat_lt (page_of plan gpa) plan.pages) (has_slot g.slots (page_of plan gpa)) (g.pages (page_of plan gpa)).mover (g.pages (page_of plan gpa)).kind refl refl refl refl refl where
  other : success ≢ Hole
  other = done.1

  by_place : (b c d : Bool) (m : Option Mover) (k : Kind) → (gpa % 8 == 0) ≡ b → nat_lt (page_of plan gpa) plan.pages ≡ c → has_slot g.slots (page_of plan gpa) ≡ d → (g.pages (page_of plan gpa)).mover ≡ m → (g.pages (page_of plan gpa)).kind ≡ k → CannotBeAccessed plan g free gpa
  by_place false c d m k s t slot u v = inl (λ zero_. grind (arith, nat_tests))
  by_place true false d m k s t slot u v = inr (inl (grind (arith, nat_tests)))
  by_place true true false m k s t slot u v = inr (inr (inl slot))
  by_place true true true m k s t slot u v = inr (inr (inr (grind (arith, nat_tests, common_steps), subst (λ (x : Kind). IsOutOfReach x free) (sym v) (reach_by k v)))) where
    reach_by : (k : Kind) → (g.pages (page_of plan gpa)).kind ≡ k → IsOutOfReach k free
    reach_by kind.Invalid is = grind (arith, nat_tests, common_steps)
    reach_by kind.Secure is = grind (arith, nat_tests, common_steps)
    reach_by kind.Out is = tt
    reach_by (kind.Shared None fresh) is = tt
    reach_by (kind.Shared (Some n) fresh) is = let no : through n ≢ Hole = (written n).1 in grind (arith, nat_tests, common_steps)

meets_hole : (plan : Plan) (g : GuestPart) (gpa : ℕ) (ask : Ask) (success : Answer) (through : ℕ → Answer) (out : List ℕ) (free : ℕ) → g.phase ≢ phase.Normal →
    CannotBeAccessed plan g free gpa → Accesses plan g gpa ask success through out (nat_lt 0 free) Hole
meets_hole plan g gpa ask success through out free normal (inl other) = grind (arith, nat_tests, common_steps)
meets_hole plan g gpa ask success through out free normal (inr (inl above)) = grind (arith, nat_tests, common_steps)
meets_hole plan g gpa ask success through out free normal (inr (inr (inl outside))) = grind (arith, nat_tests, common_steps)
meets_hole plan g gpa ask success through out free normal (inr (inr (inr (rest, none)))) = grind (arith, nat_tests, common_steps)

-- of a Normal guest it lies outside the partition entry
normal_hole : (plan : Plan) (g : GuestPart) (gpa : ℕ) (ask : Ask) (success : Answer) (through : ℕ → Answer) (out : List ℕ) (any : Bool) → ((n : ℕ) → IsDone (through n)) → g.phase ≡ phase.Normal →
    Accesses plan g gpa ask success through out any Hole → IsOutsideEntry plan g gpa
normal_hole plan g gpa ask success through out any written normal h = by_place (gpa % 8 == 0) (nat_lt (page_of plan gpa) g.entry.length_) refl refl where
  by_place : (b c : Bool) → (gpa % 8 == 0) ≡ b → nat_lt (page_of plan gpa) g.entry.length_ ≡ c → IsOutsideEntry plan g gpa
  by_place false c s t = inl (λ zero_. grind (arith, nat_tests))
  by_place true false s t = inr (grind (arith, nat_tests))
  by_place true true s t = let no : through (frame_of plan g.entry.base + page_of plan gpa) ≢ Hole = (written (frame_of plan g.entry.base + page_of plan gpa)).1 in grind (arith, nat_tests, common_steps)

hole_normal : (plan : Plan) (g : GuestPart) (gpa : ℕ) (ask : Ask) (success : Answer) (through : ℕ → Answer) (out : List ℕ) (any : Bool) → g.phase ≡ phase.Normal →
    IsOutsideEntry plan g gpa → Accesses plan g gpa ask success through out any Hole
hole_normal plan g gpa ask success through out any normal (inl other) = grind (arith, nat_tests, common_steps)
hole_normal plan g gpa ask success through out any normal (inr above) = grind (arith, nat_tests, common_steps)

module _ (plan : Plan) (past : List Event) (e : Event) (extends : Extends plan past e) where
  abbrev cpu : CpuPart
  cpu = cpu_after plan e.trace.cpu past

  abbrev any : Bool
  any = nat_lt 0 (pool_after plan past)

  -- what an access of a guest answers, under its generation
  access_answer : (run : Run) (gpa : ℕ) → IsAccess plan past e run gpa → e.trace.answer ≡ (reach plan past run (ask_in cpu (ctx.Guest run) e.trace.cmd) e.trace.cmd gpa).answer
  access_answer run gpa access =
      let ask : Ask = ask_in cpu (ctx.Guest run) e.trace.cmd in
      ap (λ (d : Deed). d.answer) (access_is plan past e run gpa extends access.before access.address)
      ∙ ap (λ (b : Bool). (if b then reach plan past run ask e.trace.cmd gpa else deed_gone ask).answer)
      (ap (λ (k : ℕ). run.generation == k) (sym access.generation) ∙ same_test run.generation)

  -- one that isn't Gone comes under its guest's generation
  not_gone : (run : Run) (gpa : ℕ) → e.saw.before ≡ ctx.Guest run → guest_address_in e.trace.cmd ≡ Some gpa → e.trace.answer ≢ Gone → IsAccess plan past e run gpa
  not_gone run gpa before address other = by_test (run.generation == (part_after plan past run.lpid).generation) refl where
    ask : Ask
    ask = ask_in cpu (ctx.Guest run) e.trace.cmd

    by_test : (b : Bool) → (run.generation == (part_after plan past run.lpid).generation) ≡ b → IsAccess plan past e run gpa
    by_test true t = record { before = before; address = address; generation = test_same run.generation (part_after plan past run.lpid).generation t }
    by_test false t = absurd (other (ap (λ (d : Deed). d.answer) (access_is plan past e run gpa extends before address) ∙ ap (λ (b : Bool). (if b then reach plan past run ask e.trace.cmd gpa else deed_gone ask).answer) t))

  again_from : e.trace.answer ≡ Again → (c : Ctx) → e.saw.before ≡ c → Outcome c e.trace.cmd Again e.saw.after e.saw.shown → MeetsMover plan past e
  again_from is ctx.Hv before given = absurd (true_not_false (again_comes ctx.Hv e.trace.cmd e.saw.after e.saw.shown given)) where
    true_not_false : true ≡ false → ⊥
    true_not_false h = cc
  again_from is (ctx.Uv work) before given = absurd (moving work e.trace.cmd Again e.saw.after e.saw.shown given)
  again_from is (ctx.Guest run) before given = by_address (guest_address_in e.trace.cmd) refl (again_command run e.trace.cmd e.saw.after e.saw.shown given) where
    again_not_gone : Again ≡ Gone → ⊥
    again_not_gone h = cc

    by_address : (o : Option ℕ) → guest_address_in e.trace.cmd ≡ o → IsSome o → MeetsMover plan past e
    by_address None address there = cc
    by_address (Some gpa) address there =
        let g : Guest = guest_after plan run.lpid past in
        let access : IsAccess plan past e run gpa = not_gone run gpa before address (λ gone. again_not_gone (sym is ∙ gone)) in
        let met = moves_at plan g.part gpa
        (again_moves (ask_in cpu (ctx.Guest run) e.trace.cmd) (success_of g e.trace.cmd) (through_of plan (found_after plan past) e.trace.cmd) (shown_of run g e.trace.cmd) any (meets plan g.part gpa)
        (success_is_done g e.trace.cmd) (through_is_done plan (found_after plan past) e.trace.cmd) (sym (access_answer run gpa access) ∙ is)) in
        record { run = run; gpa = gpa; access = access; phase = met.0; place = met.1; slot = met.2; mover = met.3 }

  again_to : AgainCause plan past e → e.trace.answer ≡ Again
  again_to (AtAccess meeting) =
      let g : Guest = guest_after plan meeting.run.lpid past in
      access_answer meeting.run meeting.gpa meeting.access
      ∙ meets_again plan g.part meeting.gpa (ask_in cpu (ctx.Guest meeting.run) e.trace.cmd) (success_of g e.trace.cmd) (through_of plan (found_after plan past) e.trace.cmd) (shown_of meeting.run g e.trace.cmd) any
      meeting.phase meeting.place meeting.slot meeting.mover

  hole_from : (run : Run) (gpa : ℕ) → IsAccess plan past e run gpa → (part_after plan past run.lpid).phase ≢ phase.Normal → e.trace.answer ≡ Hole → CannotBeAccessed plan (part_after plan past run.lpid) (pool_after plan past) gpa
  hole_from run gpa access normal is =
      let g : Guest = guest_after plan run.lpid past in
      hole_meets plan g.part gpa (ask_in cpu (ctx.Guest run) e.trace.cmd) (success_of g e.trace.cmd) (through_of plan (found_after plan past) e.trace.cmd) (shown_of run g e.trace.cmd) (pool_after plan past)
      (success_is_done g e.trace.cmd) (through_is_done plan (found_after plan past) e.trace.cmd) normal (sym (access_answer run gpa access) ∙ is)

  hole_to : (run : Run) (gpa : ℕ) → IsAccess plan past e run gpa → (part_after plan past run.lpid).phase ≢ phase.Normal → CannotBeAccessed plan (part_after plan past run.lpid) (pool_after plan past) gpa → e.trace.answer ≡ Hole
  hole_to run gpa access normal cannot =
      let g : Guest = guest_after plan run.lpid past in
      access_answer run gpa access
      ∙ meets_hole plan g.part gpa (ask_in cpu (ctx.Guest run) e.trace.cmd) (success_of g e.trace.cmd) (through_of plan (found_after plan past) e.trace.cmd) (shown_of run g e.trace.cmd) (pool_after plan past) normal cannot

  normal_hole_exactly : (run : Run) (gpa : ℕ) → IsAccess plan past e run gpa → (part_after plan past run.lpid).phase ≡ phase.Normal → (e.trace.answer ≡ Hole) ↔ IsOutsideEntry plan (part_after plan past run.lpid) gpa
  normal_hole_exactly run gpa access normal =
      let g : Guest = guest_after plan run.lpid past in (
        λ is. normal_hole plan g.part gpa (ask_in cpu (ctx.Guest run) e.trace.cmd) (success_of g e.trace.cmd) (through_of plan (found_after plan past) e.trace.cmd) (shown_of run g e.trace.cmd) any
            (through_is_done plan (found_after plan past) e.trace.cmd) normal (sym (access_answer run gpa access) ∙ is),
        λ outside. access_answer run gpa access
            ∙ hole_normal plan g.part gpa (ask_in cpu (ctx.Guest run) e.trace.cmd) (success_of g e.trace.cmd) (through_of plan (found_after plan past) e.trace.cmd) (shown_of run g e.trace.cmd) any normal outside,
      )

pub again_exactly_where : AgainExactlyWhere
again_exactly_where plan past e extends = (
  λ is. AtAccess (again_from plan past e extends is e.saw.before refl (subst (λ (a : Answer). Outcome e.saw.before e.trace.cmd a e.saw.after e.saw.shown) is (outcome plan past e extends))),
  again_to plan past e extends,
)

-- Hole comes at a load or store
hole_comes : (c : Ctx) (cmd : Cmd) (after : Ctx) (shown : List ℕ) → Outcome c cmd Hole after shown → is_access_in c cmd ≡ true
hole_comes c cmd after shown h = grind (arith, common_steps)

-- a load or store of the hypervisor answers it outside normal memory
real_hole : (plan : Plan) (past : List Event) (cpu : CpuPart) (cmd : Cmd) (ra : ℕ) → real_address_in cmd ≡ Some ra → (deed_in plan past cpu ctx.Hv cmd).answer ≡ Hole → IsOutside plan ra
real_hole plan past cpu cmd ra address h = by_place (ra % 8 == 0) refl where
  by_place : (b : Bool) → (ra % 8 == 0) ≡ b → IsOutside plan ra
  by_place false t = inl (λ zero_. grind (arith, nat_tests))
  by_place true t = inr (grind (arith, nat_tests, common_steps))

outside_hole : (plan : Plan) (past : List Event) (cpu : CpuPart) (cmd : Cmd) (ra : ℕ) → real_address_in cmd ≡ Some ra → IsOutside plan ra → (deed_in plan past cpu ctx.Hv cmd).answer ≡ Hole
outside_hole plan past cpu cmd ra address (inl other) = grind (arith, nat_tests, common_steps)
outside_hole plan past cpu cmd ra address (inr above) = grind (arith, nat_tests, common_steps)

pub hole_exactly_where : HoleExactlyWhere
hole_exactly_where plan past e extends = record {
  hypervisor = λ ra before address. (
    λ is. real_hole plan past cpu e.trace.cmd ra address (sym (answer_is before) ∙ is),
    λ out. answer_is before ∙ outside_hole plan past cpu e.trace.cmd ra address out,
  );
  guest = λ run gpa access normal. (hole_from plan past e extends run gpa access normal, hole_to plan past e extends run gpa access normal);
  normal = normal_hole_exactly plan past e extends;
  others = λ is. hole_comes e.saw.before e.trace.cmd e.saw.after e.saw.shown (subst (λ (a : Answer). Outcome e.saw.before e.trace.cmd a e.saw.after e.saw.shown) is (outcome plan past e extends));
} where
  cpu : CpuPart
  cpu = cpu_after plan e.trace.cpu past

  answer_is : e.saw.before ≡ ctx.Hv → e.trace.answer ≡ (deed_in plan past cpu ctx.Hv e.trace.cmd).answer
  answer_is before = ap (λ (d : Deed). d.answer) (deed_is plan past e ctx.Hv e.trace.cmd extends before refl)
