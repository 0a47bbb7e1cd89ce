-- What an entry tells of the objects beside its target.
use Rattle.std.proofs.Common.{◌≡◌, ℕ, List, [], ◌∷◌, slice_index, Bool, true, false, ◌==◌, nat_lt, if◌then◌else◌, refl, ap, sym, ◌∙◌, arith}
use Rattle.std.proofs.lemmas.Grind.{common_steps}
use Rattle.std.specs.Prelude.{is_some, not, ◌%◌, ◌+◌, None, Some}
use Rattle.pef_model.specs.declared.state.Phase.{Phase}
use Rattle.pef_model.specs.declared.state.Phase.TheVariants as phase
use Rattle.pef_model.specs.declared.state.Kind.{Kind}
use Rattle.pef_model.specs.declared.state.Kind.TheVariants as kind
use Rattle.pef_model.specs.declared.state.Work.TheVariants.{Inward}
use Rattle.pef_model.specs.declared.state.Ctx.{Ctx}
use Rattle.pef_model.specs.declared.state.Ctx.TheVariants as ctx
use Rattle.pef_model.specs.declared.state.Run.{Run}
use Rattle.pef_model.specs.declared.command.Cmd.{Cmd}
use Rattle.pef_model.specs.declared.command.Cmd.TheVariants.{GLd, GSt}
use Rattle.pef_model.specs.declared.entry.Answer.{Answer}
use Rattle.pef_model.specs.declared.entry.Answer.TheVariants.{Done, Val}
use Rattle.pef_model.specs.Plan.{Plan}
use Rattle.pef_model.specs.Event.{Event, mark_of}
use Rattle.pef_model.specs.Target.{Ask, Target, AtGuest, frame_of, told, target_in, value_in}
use Rattle.pef_model.specs.GuestPart.{GuestPart, Meeting, NoPlace, Moves, Private, Normal, Unbacked, meets, meets_in, meets_kind, is_private_in, is_shared, page_of, is_in_slot}
use Rattle.pef_model.specs.Guest.{Guest}
use Rattle.pef_model.specs.Deed.{Deed, deed_access, deed_running, deed_gone, deed_guest, deed_guest_in}
use Rattle.pef_model.specs.History.{cpu_after, guest_after, pool_after, found_after, deed_after, ask_of, entry_of, Extends, part_after}
use Rattle.pef_model.specs.Memory.{offset_of, tells_free}
use Rattle.std.proofs.Common.{rules}
use Rattle.pef_model.specs.ToldLaw.{is_done, frame_met, AccessTellsItsFrame, PrivateAccessTellsNoFrame, told_any, told_found, EntryAtGuestIsTold}
use Rattle.pef_model.proofs.DeedOf.{deed_of, ask_in, success_of, through_of, shown_of, reach, access_is}

-- an access that is done tells the normal frame that it meets
access_frame : (ask : Ask) (success : Answer) (through : ℕ → Answer) (out : List ℕ) (any : Bool) (m : Meeting) → is_done (deed_access ask success through out any m).answer ≡ true →
    (deed_access ask success through out any m).frame ≡ frame_met m
access_frame ask success through out true Unbacked h = refl
access_frame ask success through out false Unbacked h = refl
access_frame ask success through out any (Normal n) h = cc
access_frame ask success through out any m h = refl

pub access_tells_its_frame : AccessTellsItsFrame
access_tells_its_frame plan past e run gpa extends before address done =
    ap (λ (d : Deed). d.frame) told_deed ∙ by_test (run.generation == (part_after plan past run.lpid).generation) (ap (λ (d : Deed). is_done d.answer) (sym told_deed) ∙ done) where
      g : Guest
      g = guest_after plan run.lpid past

      ask : Ask
      ask = ask_in (cpu_after plan e.trace.cpu past) (ctx.Guest run) e.trace.cmd

      told_deed : deed_of e ≡ (if run.generation == g.part.generation then reach plan past run ask e.trace.cmd gpa else deed_gone ask)
      told_deed = access_is plan past e run gpa extends before address

      by_test : (b : Bool) → is_done (if b then reach plan past run ask e.trace.cmd gpa else deed_gone ask).answer ≡ true →
          (if b then reach plan past run ask e.trace.cmd gpa else deed_gone ask).frame ≡ frame_met (meets plan g.part gpa)
      by_test true h = access_frame ask (success_of g e.trace.cmd) (through_of plan (found_after plan past) e.trace.cmd) (shown_of run g e.trace.cmd) (nat_lt 0 (pool_after plan past)) (meets plan g.part gpa) h
      by_test false h = cc

-- whether an access meets a page of the guest's own
is_own : Meeting → Bool
is_own Private = true
is_own Unbacked = true
is_own met = false

-- one that is done and meets no normal frame does
done_meets : (ask : Ask) (success : Answer) (through : ℕ → Answer) (out : List ℕ) (any : Bool) (m : Meeting) → is_done (deed_access ask success through out any m).answer ≡ true → frame_met m ≡ None → is_own m ≡ true
unfolding is_own
done_meets ask success through out any Private h none = refl
done_meets ask success through out any Unbacked h none = refl
done_meets ask success through out any m h none = cc

-- and such a page is private
own_kind : (here moves : Bool) (k : Kind) → is_own (if here then (if moves then Moves else meets_kind k) else NoPlace) ≡ true → not (is_shared k) ≡ true
unfolding is_own
own_kind here moves kind.Invalid h = refl
own_kind here moves kind.Secure h = refl
own_kind here moves kind.Out h = refl
own_kind true true (kind.Shared frame fresh) h = cc
own_kind true false (kind.Shared None fresh) h = cc
own_kind true false (kind.Shared (Some n) fresh) h = cc
own_kind false moves (kind.Shared frame fresh) h = cc

entry_is_none : (here there : Bool) (n : ℕ) → is_own (if here then (if there then Normal n else NoPlace) else NoPlace) ≡ true → false ≡ true
unfolding is_own
entry_is_none true true n h = h
entry_is_none true false n h = h
entry_is_none false there n h = h

own_is_private : (plan : Plan) (g : GuestPart) (gpa : ℕ) (p : Phase) → is_own (meets_in p plan g gpa) ≡ true → is_private_in p (g.pages (page_of plan gpa)).kind ≡ true
own_is_private plan g gpa phase.Normal h =
    entry_is_none (gpa % 8 == 0) (nat_lt (page_of plan gpa) g.entry.length_) (frame_of plan g.entry.base + page_of plan gpa) h
own_is_private plan g gpa other h = own_kind (is_in_slot plan g gpa) (is_some (g.pages (page_of plan gpa)).mover) (g.pages (page_of plan gpa)).kind h

-- an access to a private page meets no normal frame
private_kind : (here moves : Bool) (k : Kind) → not (is_shared k) ≡ true → frame_met (if here then (if moves then Moves else meets_kind k) else NoPlace) ≡ None
private_kind true true k h = refl
private_kind true false kind.Invalid h = refl
private_kind true false kind.Secure h = refl
private_kind true false kind.Out h = refl
private_kind true false (kind.Shared frame fresh) h = cc
private_kind false moves k h = refl

pub private_frame : (plan : Plan) (g : GuestPart) (gpa : ℕ) (p : Phase) → is_private_in p (g.pages (page_of plan gpa)).kind ≡ true → frame_met (meets_in p plan g gpa) ≡ None
private_frame plan g gpa phase.Normal h = cc
private_frame plan g gpa other h = private_kind (is_in_slot plan g gpa) (is_some (g.pages (page_of plan gpa)).mover) (g.pages (page_of plan gpa)).kind h

pub private_access_tells_no_frame : PrivateAccessTellsNoFrame
private_access_tells_no_frame plan past e run gpa extends before address done =
    let told = access_tells_its_frame plan past e run gpa extends before address done in
    let answered = ap (λ (d : Deed). is_done d.answer) (sym (access_is plan past e run gpa extends before address)) ∙ done in (
      λ none. own_is_private plan g.part gpa g.part.phase (by_test (sym told ∙ none) (run.generation == g.part.generation) answered),
      λ private. told ∙ private_frame plan g.part gpa g.part.phase private,
    ) where
      g : Guest
      g = guest_after plan run.lpid past

      ask : Ask
      ask = ask_in (cpu_after plan e.trace.cpu past) (ctx.Guest run) e.trace.cmd

      by_test : frame_met (meets plan g.part gpa) ≡ None → (b : Bool) → is_done (if b then reach plan past run ask e.trace.cmd gpa else deed_gone ask).answer ≡ true → is_own (meets plan g.part gpa) ≡ true
      by_test none true h = done_meets ask (success_of g e.trace.cmd) (through_of plan (found_after plan past) e.trace.cmd) (shown_of run g e.trace.cmd) (nat_lt 0 (pool_after plan past)) (meets plan g.part gpa) h none
      by_test none false h = cc

-- an access is the same with what its deed tells of the pool and of normal memory
load_told : (ask : Ask) (value : ℕ) (through : ℕ → ℕ) (any : Bool) (m : Meeting) →
    let d : Deed = deed_access ask (Val value) (λ n. Val (through n)) [] any m in
    d ≡ deed_access ask (Val value) (λ n. Val (value_in d.answer)) [] (tells_free d.pool) m
load_told ask value through true Unbacked = refl
load_told ask value through false Unbacked = refl
load_told ask value through any m = refl

store_told : (ask : Ask) (out : List ℕ) (any : Bool) (m : Meeting) →
    let d : Deed = deed_access ask Done (λ n. Done) out any m in
    d ≡ deed_access ask Done (λ n. Done) out (tells_free d.pool) m
store_told ask out true Unbacked = refl
store_told ask out false Unbacked = refl
store_told ask out any m = refl

running_told : (plan : Plan) (run : Run) (g : Guest) (found : ℕ → ℕ → ℕ) (any : Bool) (ask : Ask) (cmd : Cmd) →
    let d : Deed = deed_running plan run g found any ask cmd in
    d ≡ deed_running plan run g (λ n offset. value_in d.answer) (tells_free d.pool) ask cmd
running_told plan run g found any ask (GLd rd gpa) = load_told ask (g.content gpa) (λ n. found n (offset_of plan gpa)) any (meets plan g.part gpa)
running_told plan run g found any ask (GSt rs gpa) = store_told ask (slice_index (g.registers run.vid).gpr rs ∷ []) any (meets plan g.part gpa)
running_told plan run g found any ask cmd = refl

-- a deed at a guest is the same with what it tells of the pool and of normal memory
deed_told : (plan : Plan) (g : Guest) (found : ℕ → ℕ → ℕ) (any : Bool) (ask : Ask) (cmd : Cmd) (c : Ctx) →
    let d : Deed = deed_guest_in c plan g found any ask cmd in
    d ≡ deed_guest_in c plan g (λ n offset. value_in d.answer) (tells_free d.pool) ask cmd
deed_told plan g found any ask cmd ctx.Hv = grind (arith, common_steps)
deed_told plan g found any ask cmd (ctx.Uv (Inward move)) = refl
deed_told plan g found any ask cmd (ctx.Uv work) = refl
deed_told plan g found any ask cmd (ctx.Guest run) = by_test (run.generation == g.part.generation) where
  deed : Bool → (ℕ → ℕ → ℕ) → Bool → Deed
  deed b found any = if b then deed_running plan run g found any ask cmd else deed_gone ask

  by_test : (b : Bool) → deed b found any ≡ deed b (λ n offset. value_in (deed b found any).answer) (tells_free (deed b found any).pool)
  by_test true = running_told plan run g found any ask cmd
  by_test false = refl

-- an entry tells what its step learnt of its CPU
told_is : (plan : Plan) (past : List Event) (e : Event) → Extends plan past e → told e ≡ ask_of (cpu_after plan e.trace.cpu past) e.trace.cmd
told_is plan past e extends = search rules

pub entry_at_guest_is_told : EntryAtGuestIsTold
entry_at_guest_is_told plan past e lpid extends aims = extends.is ∙ ap (λ (t : Target). entry_of ask (mark_of e) e.trace.cmd (deed_after plan past ask e.trace.cmd t)) target
    ∙ ap (entry_of ask (mark_of e) e.trace.cmd) told_deed ∙ ap (λ (a : Ask). entry_of a (mark_of e) e.trace.cmd (deed_guest plan g (told_found e) (told_any e) a e.trace.cmd)) (sym (told_is plan past e extends)) where
      ask : Ask
      ask = ask_of (cpu_after plan e.trace.cpu past) e.trace.cmd

      g : Guest
      g = guest_after plan lpid past

      any : Bool
      any = nat_lt 0 (pool_after plan past)

      target : target_in plan ask.before ask.lpid e.trace.cmd ≡ AtGuest lpid
      target = ap (λ (x : Event). target_in plan x.saw.before x.saw.lpid e.trace.cmd) (sym extends.is) ∙ aims

      pool : (deed_guest plan g (found_after plan past) any ask e.trace.cmd).pool ≡ e.saw.pool
      pool = sym (ap (λ (x : Event). x.saw.pool) extends.is ∙ ap (λ (t : Target). (deed_after plan past ask e.trace.cmd t).pool) target)

      answer : (deed_guest plan g (found_after plan past) any ask e.trace.cmd).answer ≡ e.trace.answer
      answer = sym (ap (λ (x : Event). x.trace.answer) extends.is ∙ ap (λ (t : Target). (deed_after plan past ask e.trace.cmd t).answer) target)

      told_deed : deed_guest plan g (found_after plan past) any ask e.trace.cmd ≡ deed_guest plan g (told_found e) (told_any e) ask e.trace.cmd
      told_deed =
          deed_told plan g (found_after plan past) any ask e.trace.cmd ask.before
          ∙ (λ i. deed_guest plan g (λ n offset. value_in (answer i)) (tells_free (pool i)) ask e.trace.cmd)
