-- The objects that an entry touches decide whether it extends a history.
use Rattle.std.proofs.Common.{◌∷◌, ◌≡◌, ℕ, Bool, true, false, ◌==◌, ◌&&◌, nat_lt, if◌then◌else◌, List, refl, ap, sym, ◌∙◌, Option, Some, None, subst, [], slice_index}
use Rattle.std.specs.Prelude.{is_some}
use Rattle.pef_model.specs.declared.state.Phase.{Phase}
use Rattle.pef_model.specs.declared.state.Phase.TheVariants as phase
use Rattle.pef_model.specs.declared.state.Work.TheVariants.{Inward, Outward}
use Rattle.pef_model.specs.declared.state.Ctx.{Ctx}
use Rattle.pef_model.specs.declared.state.Ctx.TheVariants as ctx
use Rattle.pef_model.specs.declared.command.Cmd.{Cmd}
use Rattle.pef_model.specs.declared.command.Cmd.TheVariants.{HEnter, UPagein, UPageout, UReturn, GLd, GSt, GIrq, Go, GHcall}
use Rattle.pef_model.specs.declared.command.Code.{Code}
use Rattle.pef_model.specs.declared.command.Code.TheVariants.{USuccess, UParameter, UInvalid}
use Rattle.pef_model.specs.declared.entry.Answer.{Answer}
use Rattle.pef_model.specs.declared.entry.Answer.TheVariants.{Enter, Ret, Val, Done}
use Rattle.pef_model.specs.declared.entry.PoolSaw.{PoolSaw}
use Rattle.pef_model.specs.declared.state.Run.{Run}
use Rattle.pef_model.specs.Memory.{offset_of}
use Rattle.pef_model.specs.Doubleword.{doubleword}
use Rattle.pef_model.specs.Plan.{Plan}
use Rattle.pef_model.specs.Event.{Event, mark_of}
use Rattle.pef_model.specs.Target.{Ask, Target, Alone, AtGuest, AtFrame, target_in, is_guest, is_number, touches_frame, touches_guest, touches_pool}
use Rattle.pef_model.specs.Cpu.{CpuPart}
use Rattle.pef_model.specs.GuestPart.{GuestPart, Meeting, Normal, Unbacked, meets}
use Rattle.pef_model.specs.Guest.{Guest}
use Rattle.pef_model.specs.PageOut.{page_out_code}
use Rattle.pef_model.specs.PageIn.{page_in_operands, is_last_sealed}
use Rattle.pef_model.specs.Entry.{enter_code}
use Rattle.pef_model.specs.Deed.{Deed, answering, giving, returning, coming_back, deed_page_out_begin, deed_page_in_with, deed_page_in_test, may_return_in, is_waiting, deed_backing, deed_through, deed_access, deed_interrupt, deed_running, deed_gone, deed_hypervisor, deed_guest_in, deed_guest, deed_frame_in, deed_frame, deed_hypercall, deed_by_row, deed_by_kind, taken_up_in}
use Rattle.pef_model.specs.History.{cpu_after, guest_after, pool_after, frame_after, ask_of, entry_of, deed_after, next_entry, next_entry_by, found_after}
use Rattle.pef_model.specs.ReadLaw.{TouchedObjectsDecide, AskedIsTold, IsTold}
use Rattle.pef_model.proofs.Folds.{same_test}
use Rattle.pef_model.specs.declared.hypercall.Row.{Row}
use Rattle.pef_model.specs.declared.hypercall.RowKind.{RowKind}
use Rattle.pef_model.specs.declared.hypercall.RowKind.TheVariants.{Reflected}
use Rattle.pef_model.specs.declared.hypercall.TheConstants.{HCALLS}
use Rattle.pef_model.specs.Hypercalls.{row_of}

-- an access that didn't ask for a frame is the same whether one is free or not, and reads no normal frame but the one that it tells
access_asks : (ask : Ask) (success : Answer) (through other : ℕ → Answer) (out : List ℕ) (any free : Bool) (m : Meeting) → (is_some (deed_access ask success through out any m).pool ≡ true → any ≡ free) →
    ((n : ℕ) → is_number n (deed_access ask success through out any m).frame ≡ true → through n ≡ other n) →
    deed_access ask success through out any m ≡ deed_access ask success other out free m
access_asks ask success through other out true free Unbacked h f = ap (λ (b : Bool). deed_backing ask success b) (h refl)
access_asks ask success through other out false free Unbacked h f = ap (λ (b : Bool). deed_backing ask success b) (h refl)
access_asks ask success through other out any free (Normal n) h f = ap (λ (a : Answer). deed_through ask a out n) (f n (same_test n))
access_asks ask success through other out any free m h f = refl

running_asks : (plan : Plan) (run : Run) (g : Guest) (found other : ℕ → ℕ → ℕ) (any free : Bool) (ask : Ask) (cmd : Cmd) → (is_some (deed_running plan run g found any ask cmd).pool ≡ true → any ≡ free) →
    ((n : ℕ) → is_number n (deed_running plan run g found any ask cmd).frame ≡ true → found n ≡ other n) →
    deed_running plan run g found any ask cmd ≡ deed_running plan run g other free ask cmd
running_asks plan run g found other any free ask (GLd rd gpa) h f =
    access_asks ask (Val (g.content gpa)) (λ n. Val (found n (offset_of plan gpa))) (λ n. Val (other n (offset_of plan gpa))) [] any free (meets plan g.part gpa) h
    (λ n told. ap (λ (at : ℕ → ℕ). Val (at (offset_of plan gpa))) (f n told))
running_asks plan run g found other any free ask (GSt rs gpa) h f = access_asks ask Done (λ n. Done) (λ n. Done) (slice_index (g.registers run.vid).gpr rs ∷ []) any free (meets plan g.part gpa) h (λ n told. refl)
running_asks plan run g found other any free ask cmd h f = refl

-- so is a page-in that came back before it asked
page_in_asks : (plan : Plan) (g : GuestPart) (any free : Bool) (ask : Ask) (lpid src gpa : ℕ) (code : Option Code) →
    (is_some (returning ask code (deed_page_in_with plan g ask lpid src gpa any)).pool ≡ true → any ≡ free) →
    returning ask code (deed_page_in_with plan g ask lpid src gpa any) ≡ returning ask code (deed_page_in_with plan g ask lpid src gpa free)
page_in_asks plan g any free ask lpid src gpa (Some code) h = refl
page_in_asks plan g true free ask lpid src gpa None h = ap (deed_page_in_with plan g ask lpid src gpa) (h refl)
page_in_asks plan g false free ask lpid src gpa None h = ap (deed_page_in_with plan g ask lpid src gpa) (h refl)

hypervisor_asks : (plan : Plan) (g : Guest) (any free : Bool) (ask : Ask) (cmd : Cmd) → (is_some (deed_hypervisor plan g any ask cmd).pool ≡ true → any ≡ free) →
    deed_hypervisor plan g any ask cmd ≡ deed_hypervisor plan g free ask cmd
hypervisor_asks plan g any free ask (UPagein lpid src gpa flags order) h = page_in_asks plan g.part any free ask lpid src gpa (page_in_operands plan g.part src gpa flags order) h
hypervisor_asks plan g any free ask cmd h = refl

-- what was not asked of the pool makes no difference, nor does a normal frame that isn't told
deed_asks : (plan : Plan) (g : Guest) (found other : ℕ → ℕ → ℕ) (any free : Bool) (ask : Ask) (cmd : Cmd) (c : Ctx) → (is_some (deed_guest_in c plan g found any ask cmd).pool ≡ true → any ≡ free) →
    ((n : ℕ) → is_number n (deed_guest_in c plan g found any ask cmd).frame ≡ true → found n ≡ other n) →
    deed_guest_in c plan g found any ask cmd ≡ deed_guest_in c plan g other free ask cmd
deed_asks plan g found other any free ask cmd ctx.Hv h f = hypervisor_asks plan g any free ask cmd h
deed_asks plan g found other any free ask cmd (ctx.Uv (Inward move)) h f = refl
deed_asks plan g found other any free ask cmd (ctx.Uv work) h f = refl
deed_asks plan g found other any free ask cmd (ctx.Guest run) h f = by_test (run.generation == g.part.generation) h f where
  by_test : (b : Bool) → (is_some (if b then deed_running plan run g found any ask cmd else deed_gone ask).pool ≡ true → any ≡ free) →
      ((n : ℕ) → is_number n (if b then deed_running plan run g found any ask cmd else deed_gone ask).frame ≡ true → found n ≡ other n) →
      (if b then deed_running plan run g found any ask cmd else deed_gone ask) ≡ (if b then deed_running plan run g other free ask cmd else deed_gone ask)
  by_test true k l = running_asks plan run g found other any free ask cmd k l
  by_test false k l = refl

-- a step that aims at a normal frame touches it: none of a guest does
at_frame : (plan : Plan) (n : ℕ) (bytes : List ℕ) (ask : Ask) (cmd : Cmd) → target_in plan ask.before ask.lpid cmd ≡ AtFrame n → is_number n (deed_frame plan n bytes ask cmd).frame ≡ true
at_frame plan n bytes ask cmd is = by_ctx ask.before is where
  running : (run : Run) (cmd : Cmd) → target_in plan (ctx.Guest run) ask.lpid cmd ≡ AtFrame n → is_number n None ≡ true
  running run Go h = cc
  running run cmd h = cc

  by_ctx : (c : Ctx) → target_in plan c ask.lpid cmd ≡ AtFrame n → is_number n (deed_frame_in c plan n bytes ask cmd).frame ≡ true
  by_ctx ctx.Hv h = same_test n
  by_ctx (ctx.Uv (Inward move)) h = same_test n
  by_ctx (ctx.Uv (Outward move)) h = same_test n
  by_ctx (ctx.Uv work) h = cc
  by_ctx (ctx.Guest run) h = running run cmd h

pub touched_objects_decide : TouchedObjectsDecide
touched_objects_decide plan past other e agree extends = record { cpu = extends.cpu; command = extends.command; is = extends.is ∙ by_target (target_in plan ask.before ask.lpid e.trace.cmd) refl ∙ asked } where
  ask : Ask
  ask = ask_of (cpu_after plan e.trace.cpu past) e.trace.cmd

  asked : next_entry_by plan other ask (mark_of e) e.trace.cmd ≡ next_entry plan other (mark_of e) e.trace.cmd
  asked = ap (λ (cpu : CpuPart). next_entry_by plan other (ask_of cpu e.trace.cmd) (mark_of e) e.trace.cmd) agree.cpu

  free : List Event → Bool
  free history = nat_lt 0 (pool_after plan history)

  at : List Event → Target → Event
  at history t = entry_of ask (mark_of e) e.trace.cmd (deed_after plan history ask e.trace.cmd t)

  deeds : (lpid : ℕ) → target_in plan ask.before ask.lpid e.trace.cmd ≡ AtGuest lpid →
      deed_guest plan (guest_after plan lpid past) (found_after plan past) (free past) ask e.trace.cmd ≡ deed_guest plan (guest_after plan lpid other) (found_after plan other) (free other) ask e.trace.cmd
  deeds lpid is =
      let touched : touches_guest plan lpid e ≡ true = ap (touches_guest plan lpid) extends.is ∙ ap (is_guest lpid) is ∙ same_test lpid in
      let asks : is_some (deed_guest plan (guest_after plan lpid past) (found_after plan past) (free past) ask e.trace.cmd).pool ≡ true → free past ≡ free other =
      (λ h. ap (nat_lt 0) (agree.pool (ap touches_pool extends.is ∙ ap (λ (t : Target). is_some (deed_after plan past ask e.trace.cmd t).pool) is ∙ h))) in
      let reads : (n : ℕ) → is_number n (deed_guest plan (guest_after plan lpid past) (found_after plan past) (free past) ask e.trace.cmd).frame ≡ true → found_after plan past n ≡ found_after plan other n =
      (λ n h.
      let same = agree.frame n (ap (touches_frame n) extends.is ∙ ap (λ (t : Target). is_number n (deed_after plan past ask e.trace.cmd t).frame) is ∙ h) in
      (λ i offset. doubleword (same i) offset)) in
      deed_asks plan (guest_after plan lpid past) (found_after plan past) (found_after plan other) (free past) (free other) ask e.trace.cmd ask.before asks reads
      ∙ ap (λ (g : Guest). deed_guest plan g (found_after plan other) (free other) ask e.trace.cmd) (agree.guest lpid touched)

  frames : (n : ℕ) → target_in plan ask.before ask.lpid e.trace.cmd ≡ AtFrame n → frame_after plan n past ≡ frame_after plan n other
  frames n is = agree.frame n (ap (touches_frame n) extends.is ∙ ap (λ (t : Target). is_number n (deed_after plan past ask e.trace.cmd t).frame) is ∙ at_frame plan n (frame_after plan n past) ask e.trace.cmd is)

  by_target : (t : Target) → target_in plan ask.before ask.lpid e.trace.cmd ≡ t → next_entry_by plan past ask (mark_of e) e.trace.cmd ≡ next_entry_by plan other ask (mark_of e) e.trace.cmd
  by_target Alone is = ap (at past) is ∙ sym (ap (at other) is)
  by_target (AtFrame n) is = ap (at past) is ∙ ap (λ (bytes : List ℕ). entry_of ask (mark_of e) e.trace.cmd (deed_frame plan n bytes ask e.trace.cmd)) (frames n is) ∙ sym (ap (at other) is)
  by_target (AtGuest lpid) is = ap (at past) is ∙ ap (entry_of ask (mark_of e) e.trace.cmd) (deeds lpid is) ∙ sym (ap (at other) is)

-- what a step saw of the pool is told by it
some_same : {x y : PoolSaw} → Some x ≡ Some y → x ≡ y
some_same h = cc

access_tells : (ask : Ask) (success : Answer) (through : ℕ → Answer) (out : List ℕ) (any : Bool) (m : Meeting) (saw : PoolSaw) → (deed_access ask success through out any m).pool ≡ Some saw → IsTold any saw
access_tells ask success through out true Unbacked saw h = subst (IsTold true) (some_same h) refl
access_tells ask success through out false Unbacked saw h = subst (IsTold false) (some_same h) refl
access_tells ask success through out any m saw h = cc

running_tells : (plan : Plan) (run : Run) (g : Guest) (found : ℕ → ℕ → ℕ) (any : Bool) (ask : Ask) (cmd : Cmd) (saw : PoolSaw) → (deed_running plan run g found any ask cmd).pool ≡ Some saw → IsTold any saw
running_tells plan run g found any ask (GLd rd gpa) saw h = access_tells ask (Val (g.content gpa)) (λ n. Val (found n (offset_of plan gpa))) [] any (meets plan g.part gpa) saw h
running_tells plan run g found any ask (GSt rs gpa) saw h = access_tells ask Done (λ n. Done) (slice_index (g.registers run.vid).gpr rs ∷ []) any (meets plan g.part gpa) saw h
running_tells plan run g found any ask GIrq saw h = by_phase g.part.phase h where
  by_phase : (p : Phase) → (deed_interrupt p (g.registers run.vid).gpr ask).pool ≡ Some saw → IsTold any saw
  by_phase phase.Normal k = cc
  by_phase p k = cc
running_tells plan run g found any ask GHcall saw h = by_phase g.part.phase h where
  by_kind : (kind : RowKind) (row : Row) → (deed_by_kind g.part.words kind ask (g.registers run.vid).gpr row).pool ≡ Some saw → IsTold any saw
  by_kind Reflected row k = cc
  by_kind kind row k = cc

  by_row : (row : Option Row) → (deed_by_row g.part.words ask (g.registers run.vid).gpr row).pool ≡ Some saw → IsTold any saw
  by_row (Some row) k = by_kind row.kind row k
  by_row None k = cc

  by_phase : (p : Phase) → (deed_hypercall g.part.words p (g.registers run.vid).gpr ask).pool ≡ Some saw → IsTold any saw
  by_phase phase.Normal k = cc
  by_phase p k = by_row (row_of HCALLS (slice_index (g.registers run.vid).gpr 3)) k
running_tells plan run g found any ask cmd saw h = cc

page_in_tells : (plan : Plan) (g : GuestPart) (any : Bool) (ask : Ask) (lpid src gpa : ℕ) (code : Option Code) (saw : PoolSaw) →
    (returning ask code (deed_page_in_with plan g ask lpid src gpa any)).pool ≡ Some saw → IsTold any saw
page_in_tells plan g any ask lpid src gpa (Some code) saw h = cc
page_in_tells plan g true ask lpid src gpa None saw h = subst (IsTold true) (some_same h) refl
page_in_tells plan g false ask lpid src gpa None saw h = subst (IsTold false) (some_same h) refl

-- a call that comes back at once, or else doesn't ask
returning_tells : (any : Bool) (ask : Ask) (code : Option Code) (deed : Deed) (saw : PoolSaw) → deed.pool ≡ None → (returning ask code deed).pool ≡ Some saw → IsTold any saw
returning_tells any ask (Some code) deed saw unasked h = cc
returning_tells any ask None deed saw unasked h = cc

hypervisor_tells : (plan : Plan) (g : Guest) (any : Bool) (ask : Ask) (cmd : Cmd) (saw : PoolSaw) → (deed_hypervisor plan g any ask cmd).pool ≡ Some saw → IsTold any saw
hypervisor_tells plan g any ask (UPagein lpid src gpa flags order) saw h = page_in_tells plan g.part any ask lpid src gpa (page_in_operands plan g.part src gpa flags order) saw h
hypervisor_tells plan g any ask (UPageout lpid dest gpa flags order) saw h = returning_tells any ask (page_out_code plan g.part dest gpa flags order) (deed_page_out_begin plan g ask lpid dest gpa) saw refl h
hypervisor_tells plan g any ask (HEnter lpid vid value) saw h = returning_tells any ask (enter_code plan g.part vid) _ saw refl h
hypervisor_tells plan g any ask (UReturn r0 r2 outs) saw h = by_test (may_return_in g.part.phase && is_waiting (g.part.vcpus ask.vid).state) h where
  by_test : (b : Bool) → (if b then record (answering ask Enter) { after = taken_up_in (g.part.vcpus ask.vid).state (record { lpid = ask.lpid; vid = ask.vid; generation = g.part.generation }) } else answering ask (Ret UInvalid)).pool ≡ Some saw → IsTold any saw
  by_test true k = cc
  by_test false k = cc
hypervisor_tells plan g any ask cmd saw h = cc

-- the end of a page-out gives a frame back, and takes none
end_tells : (any : Bool) (ask : Ask) (ends : Bool) (saw : PoolSaw) → (if ends then giving (coming_back ask USuccess) 1 else coming_back ask UParameter).pool ≡ Some saw → IsTold any saw
end_tells any ask true saw h = subst (IsTold any) (some_same h) refl
end_tells any ask false saw h = cc

-- so does that of a page-in that is refused, and one that is accepted keeps its frame
test_tells : (any : Bool) (ask : Ask) (fresh : Bool) (saw : PoolSaw) → (deed_page_in_test ask fresh).pool ≡ Some saw → IsTold any saw
test_tells any ask true saw h = cc
test_tells any ask false saw h = subst (IsTold any) (some_same h) refl

arrival_tells : (any : Bool) (ask : Ask) (ends fresh : Bool) (saw : PoolSaw) → (if ends then deed_page_in_test ask fresh else coming_back ask UParameter).pool ≡ Some saw → IsTold any saw
arrival_tells any ask true fresh saw h = test_tells any ask fresh saw h
arrival_tells any ask false fresh saw h = cc

pub asked_is_told : AskedIsTold
asked_is_told plan g found any ask cmd saw is = by_ctx ask.before is where
  by_ctx : (c : Ctx) → (deed_guest_in c plan g found any ask cmd).pool ≡ Some saw → IsTold any saw
  by_ctx ctx.Hv h = hypervisor_tells plan g any ask cmd saw h
  by_ctx (ctx.Uv (Inward move)) h =
      arrival_tells any ask (move.generation == g.part.generation) (is_last_sealed (g.part.pages move.gfn).sealed ask.hand) saw h
  by_ctx (ctx.Uv (Outward move)) h = end_tells any ask (move.generation == g.part.generation) saw h
  by_ctx (ctx.Uv work) h = cc
  by_ctx (ctx.Guest run) h = by_test (run.generation == g.part.generation) h where
    by_test : (b : Bool) → (if b then deed_running plan run g found any ask cmd else deed_gone ask).pool ≡ Some saw → IsTold any saw
    by_test true k = running_tells plan run g found any ask cmd saw k
    by_test false k = cc
