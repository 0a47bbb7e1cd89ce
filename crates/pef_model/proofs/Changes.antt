-- What a step can change: its CPU, the public part of one guest, the pool.
use Rattle.std.proofs.Common.{◌≡◌, ◌≢◌, ℕ, ◌+◌, ◌<◌, List, ◌∷◌, Bool, true, false, not, refl, ap, sym, ◌∙◌, ◌==◌, ◌&&◌, ◌||◌, ◌⊎◌, if◌then◌else◌, Some, None}
use Rattle.pef_model.specs.declared.state.Kind.TheVariants.{Secure, Out}
use Rattle.pef_model.specs.declared.state.Pending.{Pending}
use Rattle.pef_model.specs.declared.state.Phase.{Phase}
use Rattle.pef_model.specs.declared.state.Phase.TheVariants as phase
use Rattle.pef_model.specs.declared.state.VState.TheVariants as vstate
use Rattle.pef_model.specs.declared.state.Run.{Run}
use Rattle.pef_model.specs.declared.state.Move.{Move}
use Rattle.pef_model.specs.declared.state.Slot.{Slot}
use Rattle.pef_model.specs.declared.state.Work.TheVariants.{Inward, Outward}
use Rattle.pef_model.specs.declared.state.Ctx.{Ctx}
use Rattle.pef_model.specs.declared.state.Ctx.TheVariants as ctx
use Rattle.pef_model.specs.declared.command.Cmd.{Cmd}
use Rattle.pef_model.specs.Plan.{Plan, IsWithin}
use Rattle.pef_model.specs.Event.{Event, Mark}
use Rattle.pef_model.specs.Target.{Ask, Target, Alone, AtGuest, target_in, target_of, vcpu_in, is_guest}
use Rattle.pef_model.specs.Cpu.{CpuPart, next_cpu}
use Rattle.pef_model.specs.GuestPart.{GuestPart, put, is_invalid, next_part, with_secure_page, with_running_vcpu, with_parked_vcpu, with_page_leaving, with_page_out, with_page_coming, with_page_refused, with_page_unmapped, with_entry, ended_normal}
use Rattle.pef_model.specs.Entry.{may_write_in, may_enter_in}
use Rattle.pef_model.specs.Guest.{next_guest}
use Rattle.pef_model.specs.PageOut.{sealed_page}
use Rattle.pef_model.specs.PageIn.{may_page_in_in}
use Rattle.pef_model.specs.PageInval.{may_be_dropped}
use Rattle.pef_model.specs.Deed.{Deed, may_return_in}
use Rattle.pef_model.specs.History.{guest_after, pool_after, frame_after, deed_after, ask_of, entry_of, part_after, begins_out}
use Rattle.pef_model.proofs.Folds.{test_same}
use Rattle.pef_model.proofs.Works.{PageMove, work_of}
use Rattle.pef_model.proofs.Puts.{not_swapped, put-same}

-- a CPU after an entry of its own: its context, hand and selected guest
pub record LeavesCpu (cpu : CpuPart) (e : Event) (after : Ctx) (hand : List ℕ) (lpid : ℕ) : Type 0 where
  pub ctx_is : (next_cpu cpu e).ctx ≡ after
  pub hand_is : (next_cpu cpu e).hand ≡ hand
  pub lpid_is : (next_cpu cpu e).lpid ≡ lpid

-- no guest's public part changes
abbrev pub KeepsParts : Plan → List Event → Event → Type 0
KeepsParts plan past e = (lpid : ℕ) → part_after plan (e ∷ past) lpid ≡ part_after plan past lpid

-- the public part of one guest becomes this one, and every other stays
abbrev pub PutsPart : Plan → List Event → Event → ℕ → GuestPart → Type 0
PutsPart plan past e l new = (lpid : ℕ) → part_after plan (e ∷ past) lpid ≡ put (part_after plan past) l new lpid

-- nothing changes but what is no concern here: registers, contents, frames
pub record IsQuiet (plan : Plan) (past : List Event) (cpu : CpuPart) (e : Event) : Type 0 where
  pub cpu_is : LeavesCpu cpu e cpu.ctx cpu.hand cpu.lpid
  pub parts : KeepsParts plan past e
  pub pool : pool_after plan (e ∷ past) ≡ pool_after plan past

-- a Secure page at rest begins to move outward, sealed into the hand
pub record BeginsMove (plan : Plan) (past : List Event) (cpu : CpuPart) (e : Event) : Type 0 where
  pub move : Move
  pub before : cpu.ctx ≡ ctx.Hv
  pub generation : move.generation ≡ (part_after plan past move.lpid).generation
  pub kind_is : ((part_after plan past move.lpid).pages move.gfn).kind ≡ Secure
  pub at_rest : ((part_after plan past move.lpid).pages move.gfn).mover ≡ None
  pub sealed : e.bytes ≡ sealed_page plan (guest_after plan move.lpid past) move.lpid move.gfn
  pub secure : (part_after plan past move.lpid).phase ≡ phase.Secure
  pub begins : (lpid gfn : ℕ) → begins_out plan lpid gfn e ≡ (move.lpid == lpid) && (move.gfn == gfn)
  pub cpu_is : LeavesCpu cpu e (ctx.Uv (Outward move)) e.bytes cpu.lpid
  pub parts : PutsPart plan past e move.lpid (with_page_leaving (part_after plan past move.lpid) move.gfn e.trace.cpu e.bytes)
  pub pool : pool_after plan (e ∷ past) ≡ pool_after plan past

-- a page that moves is copied
pub record CopiesPage (plan : Plan) (past : List Event) (cpu : CpuPart) (e : Event) : Type 0 where
  pub move : Move
  pub before : cpu.ctx ≡ ctx.Uv (Outward move)
  pub cpu_is : LeavesCpu cpu e (ctx.Uv (Outward (record move { copied = true }))) cpu.hand cpu.lpid
  pub parts : KeepsParts plan past e
  pub pool : pool_after plan (e ∷ past) ≡ pool_after plan past

-- a page has moved outward, and its secure frame goes back
pub record EndsMove (plan : Plan) (past : List Event) (cpu : CpuPart) (e : Event) : Type 0 where
  pub move : Move
  pub before : cpu.ctx ≡ ctx.Uv (Outward move)
  pub generation : move.generation ≡ (part_after plan past move.lpid).generation
  pub cpu_is : LeavesCpu cpu e ctx.Hv cpu.hand cpu.lpid
  pub parts : PutsPart plan past e move.lpid (with_page_out (part_after plan past move.lpid) move.gfn)
  pub pool : pool_after plan (e ∷ past) ≡ pool_after plan past + 1

-- the move of a page of a guest that has ended comes back
pub record DropsMove (plan : Plan) (past : List Event) (cpu : CpuPart) (e : Event) : Type 0 where
  pub work : PageMove
  pub before : cpu.ctx ≡ ctx.Uv (work_of work)
  pub generation : work.move.generation ≢ (part_after plan past work.move.lpid).generation
  pub cpu_is : LeavesCpu cpu e ctx.Hv cpu.hand cpu.lpid
  pub parts : KeepsParts plan past e
  pub pool : pool_after plan (e ∷ past) ≡ pool_after plan past

-- a page that is Out at rest begins to move inward, and a free secure frame is taken for it
pub record ComesIn (plan : Plan) (past : List Event) (cpu : CpuPart) (e : Event) : Type 0 where
  pub move : Move
  pub before : cpu.ctx ≡ ctx.Hv
  pub generation : move.generation ≡ (part_after plan past move.lpid).generation
  pub kind_is : ((part_after plan past move.lpid).pages move.gfn).kind ≡ Out
  pub at_rest : ((part_after plan past move.lpid).pages move.gfn).mover ≡ None
  pub placed : move.gfn < plan.pages
  pub number : IsWithin 1 plan.guests move.lpid
  pub allowed : may_page_in_in (part_after plan past move.lpid).phase ≡ true
  pub cpu_is : LeavesCpu cpu e (ctx.Uv (Inward move)) cpu.hand cpu.lpid
  pub parts : PutsPart plan past e move.lpid (with_page_coming (part_after plan past move.lpid) move.gfn e.trace.cpu)
  pub pool : pool_after plan (e ∷ past) + 1 ≡ pool_after plan past

-- a normal frame is read into the hand of a CPU that moves a page inward
pub record ReadsFrame (plan : Plan) (past : List Event) (cpu : CpuPart) (e : Event) : Type 0 where
  pub move : Move
  pub before : cpu.ctx ≡ ctx.Uv (Inward move)
  pub read : e.bytes ≡ frame_after plan move.frame past
  pub cpu_is : LeavesCpu cpu e (ctx.Uv (Inward (record move { copied = true }))) e.bytes cpu.lpid
  pub parts : KeepsParts plan past e
  pub pool : pool_after plan (e ∷ past) ≡ pool_after plan past

-- a page has moved inward
pub record AcceptsPage (plan : Plan) (past : List Event) (cpu : CpuPart) (e : Event) : Type 0 where
  pub move : Move
  pub before : cpu.ctx ≡ ctx.Uv (Inward move)
  pub generation : move.generation ≡ (part_after plan past move.lpid).generation
  pub cpu_is : LeavesCpu cpu e ctx.Hv cpu.hand cpu.lpid
  pub parts : PutsPart plan past e move.lpid (with_secure_page (part_after plan past move.lpid) move.gfn)
  pub pool : pool_after plan (e ∷ past) ≡ pool_after plan past

-- a page that moved inward is refused, and its secure frame goes back
pub record RefusesPage (plan : Plan) (past : List Event) (cpu : CpuPart) (e : Event) : Type 0 where
  pub move : Move
  pub before : cpu.ctx ≡ ctx.Uv (Inward move)
  pub generation : move.generation ≡ (part_after plan past move.lpid).generation
  pub cpu_is : LeavesCpu cpu e ctx.Hv cpu.hand cpu.lpid
  pub parts : PutsPart plan past e move.lpid (with_page_refused (part_after plan past move.lpid) move.gfn)
  pub pool : pool_after plan (e ∷ past) ≡ pool_after plan past + 1

-- whether a guest in this phase runs: UV_RETURN is for it, or h.enter
abbrev pub may_run_in : Phase → Bool
may_run_in p = may_return_in p || may_enter_in p

-- a vCPU that doesn't run is taken up, and goes on as a guest or in its call
pub record TakesUp (plan : Plan) (past : List Event) (cpu : CpuPart) (e : Event) : Type 0 where
  pub lpid : ℕ
  pub vid : ℕ
  pub before : cpu.ctx ≡ ctx.Hv
  pub allowed : may_run_in (part_after plan past lpid).phase ≡ true
  pub rests : (n : ℕ) → ((part_after plan past lpid).vcpus vid).state ≡ vstate.Running n → ⊥
  pub number : lpid ≡ cpu.lpid ⊎ IsWithin 1 plan.guests lpid
  pub after : Ctx
  pub runs : vcpu_in after ≡ Some (record { lpid = lpid; vid = vid; generation = (part_after plan past lpid).generation })
  pub cpu_is : LeavesCpu cpu e after cpu.hand cpu.lpid
  pub parts : PutsPart plan past e lpid (with_running_vcpu (part_after plan past lpid) vid e.trace.cpu)
  pub pool : pool_after plan (e ∷ past) ≡ pool_after plan past

-- the partition entry of a guest is set, and the guest is in normal memory or ends
pub record WritesEntry (plan : Plan) (past : List Event) (cpu : CpuPart) (e : Event) : Type 0 where
  pub lpid : ℕ
  pub base : ℕ
  pub length_ : ℕ
  pub allowed : may_write_in (part_after plan past lpid).phase ≡ true
  pub cpu_is : LeavesCpu cpu e cpu.ctx cpu.hand cpu.lpid
  pub parts : PutsPart plan past e lpid (with_entry (part_after plan past lpid) base length_)
  pub pool : pool_after plan (e ∷ past) ≡ pool_after plan past

-- the memory slots of a guest change, or the number of its entropy words, and nothing else of it
pub record ChangesSlots (plan : Plan) (past : List Event) (cpu : CpuPart) (e : Event) : Type 0 where
  pub lpid : ℕ
  pub slots : List Slot
  pub words : ℕ
  pub cpu_is : LeavesCpu cpu e cpu.ctx cpu.hand cpu.lpid
  pub parts : PutsPart plan past e lpid (record (part_after plan past lpid) { slots = slots; words = words })
  pub pool : pool_after plan (e ∷ past) ≡ pool_after plan past

-- a page that is Invalid or Shared loses its normal frame
pub record UnmapsPage (plan : Plan) (past : List Event) (cpu : CpuPart) (e : Event) : Type 0 where
  pub lpid : ℕ
  pub gfn : ℕ
  pub drops : may_be_dropped ((part_after plan past lpid).pages gfn).kind ≡ true
  pub placed : gfn < plan.pages
  pub number : IsWithin 1 plan.guests lpid
  pub allowed : may_page_in_in (part_after plan past lpid).phase ≡ true
  pub cpu_is : LeavesCpu cpu e cpu.ctx cpu.hand cpu.lpid
  pub parts : PutsPart plan past e lpid (with_page_unmapped (part_after plan past lpid) gfn)
  pub pool : pool_after plan (e ∷ past) ≡ pool_after plan past

-- a vCPU is selected
pub record Selects (plan : Plan) (past : List Event) (cpu : CpuPart) (e : Event) : Type 0 where
  pub lpid : ℕ
  pub number : IsWithin 1 plan.guests lpid
  pub cpu_is : LeavesCpu cpu e cpu.ctx cpu.hand lpid
  pub parts : KeepsParts plan past e
  pub pool : pool_after plan (e ∷ past) ≡ pool_after plan past

-- a vCPU leaves its CPU, and waits
pub record Parks (plan : Plan) (past : List Event) (cpu : CpuPart) (e : Event) : Type 0 where
  pub run : Run
  pub waits : Pending
  pub before : cpu.ctx ≡ ctx.Guest run
  pub generation : run.generation ≡ (part_after plan past run.lpid).generation
  pub cpu_is : LeavesCpu cpu e ctx.Hv cpu.hand run.lpid
  pub parts : PutsPart plan past e run.lpid (with_parked_vcpu (part_after plan past run.lpid) run.vid waits)
  pub pool : pool_after plan (e ∷ past) ≡ pool_after plan past

-- a CPU finds that the guest which it runs has ended
pub record FindsGone (plan : Plan) (past : List Event) (cpu : CpuPart) (e : Event) : Type 0 where
  pub run : Run
  pub before : cpu.ctx ≡ ctx.Guest run
  pub cpu_is : LeavesCpu cpu e ctx.Hv cpu.hand cpu.lpid
  pub parts : KeepsParts plan past e
  pub pool : pool_after plan (e ∷ past) ≡ pool_after plan past

-- whether an access of a guest in this phase may back a page: one in normal memory goes through its partition entry
abbrev pub is_backed_in : Phase → Bool
is_backed_in p = not (may_enter_in p)

-- an access backs an Invalid page with a free frame
pub record BacksPage (plan : Plan) (past : List Event) (cpu : CpuPart) (e : Event) : Type 0 where
  pub run : Run
  pub gfn : ℕ
  pub before : cpu.ctx ≡ ctx.Guest run
  pub generation : run.generation ≡ (part_after plan past run.lpid).generation
  pub backed : is_backed_in (part_after plan past run.lpid).phase ≡ true
  pub invalid : is_invalid ((part_after plan past run.lpid).pages gfn) ≡ true
  pub at_rest : ((part_after plan past run.lpid).pages gfn).mover ≡ None
  pub placed : gfn < plan.pages
  pub cpu_is : LeavesCpu cpu e cpu.ctx cpu.hand cpu.lpid
  pub parts : PutsPart plan past e run.lpid (with_secure_page (part_after plan past run.lpid) gfn)
  pub pool : pool_after plan (e ∷ past) + 1 ≡ pool_after plan past

-- what an entry of a legal history changes, where its CPU was this before
pub data Change (plan : Plan) (past : List Event) (cpu : CpuPart) (e : Event) : Type 0 where
  Quiet : IsQuiet plan past cpu e → Change plan past cpu e
  Begins : BeginsMove plan past cpu e → Change plan past cpu e
  Copies : CopiesPage plan past cpu e → Change plan past cpu e
  Ends : EndsMove plan past cpu e → Change plan past cpu e
  Drops : DropsMove plan past cpu e → Change plan past cpu e
  Comes : ComesIn plan past cpu e → Change plan past cpu e
  Reads : ReadsFrame plan past cpu e → Change plan past cpu e
  Accepts : AcceptsPage plan past cpu e → Change plan past cpu e
  Refuses : RefusesPage plan past cpu e → Change plan past cpu e
  Takes : TakesUp plan past cpu e → Change plan past cpu e
  Parked : Parks plan past cpu e → Change plan past cpu e
  Gone : FindsGone plan past cpu e → Change plan past cpu e
  Backs : BacksPage plan past cpu e → Change plan past cpu e
  Writes : WritesEntry plan past cpu e → Change plan past cpu e
  Slots : ChangesSlots plan past cpu e → Change plan past cpu e
  Unmaps : UnmapsPage plan past cpu e → Change plan past cpu e
  Selected : Selects plan past cpu e → Change plan past cpu e

-- what holds of a guest in normal memory with this entry, and of one that ends, holds where the entry is set
pub entry_gives : (P : GuestPart → Type 0) (g : GuestPart) (dw0 dw1 : ℕ) →
    P (record g { entry = record { base = dw0; length_ = dw1 }; phase = phase.Normal }) → P (ended_normal (record g { entry = record { base = dw0; length_ = dw1 } })) → P (with_entry g dw0 dw1)
entry_gives P g dw0 dw1 set ended = by_length (dw1 == 0) where
  by_length : (b : Bool) → P (if b then ended_normal (record g { entry = record { base = dw0; length_ = dw1 } }) else record g { entry = record { base = dw0; length_ = dw1 }; phase = phase.Normal })
  by_length true = ended
  by_length false = set

-- an entry that aims at no guest changes none
pub at_none : (plan : Plan) (past : List Event) (e : Event) → ((lpid : ℕ) → is_guest lpid (target_of plan e) ≡ false) → KeepsParts plan past e
at_none plan past e none lpid = ap (λ (b : Bool). (if b then next_guest plan (guest_after plan lpid past) e else guest_after plan lpid past).part) (none lpid)

-- one that aims at a guest makes this of it, and changes no other
pub at_guest : (plan : Plan) (past : List Event) (e : Event) (l : ℕ) (new : GuestPart) → target_of plan e ≡ AtGuest l → next_part plan (part_after plan past l) e ≡ new →
    PutsPart plan past e l new
at_guest plan past e l new target is lpid = ap (λ (t : Target). after (is_guest lpid t)) target ∙ by_test (l == lpid) (lpid == l) refl refl where
  after : Bool → GuestPart
  after b = (if b then next_guest plan (guest_after plan lpid past) e else guest_after plan lpid past).part

  by_test : (b c : Bool) → (l == lpid) ≡ b → (lpid == l) ≡ c → after b ≡ (if c then new else part_after plan past lpid)
  by_test true true t s = ap (λ (x : ℕ). next_part plan (part_after plan past x) e) (sym (test_same l lpid t)) ∙ is
  by_test false false t s = refl
  by_test true false t s = absurd (not_swapped l lpid t s)
  by_test false true t s = absurd (not_swapped lpid l s t)

-- one that aims at a guest and leaves it as it is changes none
pub at_guest_same : (plan : Plan) (past : List Event) (e : Event) (l : ℕ) → target_of plan e ≡ AtGuest l → next_part plan (part_after plan past l) e ≡ part_after plan past l →
    KeepsParts plan past e
at_guest_same plan past e l target is lpid = at_guest plan past e l (part_after plan past l) target is lpid ∙ put-same (part_after plan past) l lpid

-- a step that aims at no guest, and leaves its CPU
pub at_nothing : (plan : Plan) (past : List Event) (cpu : CpuPart) (e : Event) → LeavesCpu cpu e cpu.ctx cpu.hand cpu.lpid → ((lpid : ℕ) → is_guest lpid (target_of plan e) ≡ false) →
    pool_after plan (e ∷ past) ≡ pool_after plan past → Change plan past cpu e
at_nothing plan past cpu e left none pool = Quiet (record { cpu_is = left; parts = at_none plan past e none; pool = pool })

-- a step that aims at a guest, and leaves it and its CPU
pub at_one : (plan : Plan) (past : List Event) (cpu : CpuPart) (e : Event) (l : ℕ) → LeavesCpu cpu e cpu.ctx cpu.hand cpu.lpid → target_of plan e ≡ AtGuest l →
    next_part plan (part_after plan past l) e ≡ part_after plan past l → pool_after plan (e ∷ past) ≡ pool_after plan past → Change plan past cpu e
at_one plan past cpu e l left target is pool = Quiet (record { cpu_is = left; parts = at_guest_same plan past e l target is; pool = pool })

-- what a step learns of a CPU in this context
abbrev pub asked : CpuPart → Ctx → Cmd → Ask
asked cpu c cmd = record (ask_of cpu cmd) { before = c }

-- the entry of a deed of a CPU in this context
abbrev pub entry : CpuPart → Ctx → Mark → Cmd → Deed → Event
entry cpu c mark cmd deed = entry_of (asked cpu c cmd) mark cmd deed

-- a command that is none of its context, or names nothing
pub refused : (plan : Plan) (past : List Event) (cpu : CpuPart) (mark : Mark) (c : Ctx) → cpu.ctx ≡ c → (cmd : Cmd) →
    let e : Event = entry cpu c mark cmd (deed_after plan past (asked cpu c cmd) cmd Alone) in
    LeavesCpu cpu e c cpu.hand cpu.lpid → target_in plan c cpu.lpid cmd ≡ Alone → Change plan past cpu e
refused plan past cpu mark c h cmd left target =
    at_nothing plan past cpu (entry cpu c mark cmd (deed_after plan past (asked cpu c cmd) cmd Alone))
    (record { ctx_is = left.ctx_is ∙ sym h; hand_is = left.hand_is; lpid_is = left.lpid_is }) (λ lpid. ap (is_guest lpid) target) refl
