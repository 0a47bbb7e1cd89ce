-- Tables, computed of guests made by hand: what each phase and each kind of page let the hypervisor do, and what an access meets.
use Rattle.std.specs.Prelude.{◌≡◌, ℕ, ◌==◌, Bool, true, false, if◌then◌else◌, List, [], ◌∷◌, ◌++◌, map, replicate, Some, None}
use Rattle.pef_model.specs.declared.state.Phase.{Phase}
use Rattle.pef_model.specs.declared.state.Phase.TheVariants as phase
use Rattle.pef_model.specs.declared.state.Kind.{Kind}
use Rattle.pef_model.specs.declared.state.Kind.TheVariants.{Invalid, Secure, Out, Shared}
use Rattle.pef_model.specs.declared.state.Way.{Way}
use Rattle.pef_model.specs.declared.state.Way.TheVariants.{Inward, Outward}
use Rattle.pef_model.specs.declared.state.Pending.TheVariants as pending
use Rattle.pef_model.specs.declared.state.Pending.TheVariants.{Irq, Fault, Victim, EsmStart, EsmNeed, EsmDone}
use Rattle.pef_model.specs.declared.state.VState.{VState}
use Rattle.pef_model.specs.declared.state.VState.TheVariants.{Idle, Fresh, Running, Parked}
use Rattle.pef_model.specs.declared.state.Run.{Run}
use Rattle.pef_model.specs.declared.state.Regs.{Regs}
use Rattle.pef_model.specs.declared.state.Work.TheVariants as work
use Rattle.pef_model.specs.declared.state.Ctx.{Ctx}
use Rattle.pef_model.specs.declared.state.Ctx.TheVariants as ctx
use Rattle.pef_model.specs.declared.command.Code.TheVariants.{USuccess, UParameter, UP2, UP3, UP5, UBusy, UPermission, UInvalid}
use Rattle.pef_model.specs.declared.command.Cmd.{Cmd}
use Rattle.pef_model.specs.declared.command.Cmd.TheVariants.{HEnter, UPate, URegslot, UUnregslot, UInval, UReturn, GLd, GIrq, Go}
use Rattle.pef_model.specs.declared.entry.Exit.TheVariants as exit
use Rattle.pef_model.specs.declared.entry.Answer.{Answer}
use Rattle.pef_model.specs.declared.entry.Answer.TheVariants.{Val, Ret, Step, Enter, Exit, Again, Hole, Context, Nothing}
use Rattle.pef_model.specs.Plan.{Plan, plan_of}
use Rattle.pef_model.specs.GuestPart.{Page, Meeting, NoPlace, Moves, Private, Normal, Unshared, Unbacked, Away, invalid_page, new_vcpu, start_part, meets, part_of_hypervisor}
use Rattle.pef_model.specs.Guest.{Guest, start_guest, registers_of_hypervisor}
use Rattle.pef_model.specs.Deed.{Deed, deed_guest}
use Rattle.pef_model.specs.RunLaw.{small_config, return_with}
use Rattle.pef_model.specs.RefusalLaw.{page_out_to, page_in_from}

-- a machine of small sizes with a vault
abbrev pub small_plan : Plan
small_plan = plan_of (record small_config { vault = true })

-- each phase, and states of a vCPU: it runs or doesn't, or waits after an interrupt, for the answer of a hypercall of normal memory, or of one of a secure guest
abbrev pub phases : List Phase
phases = phase.Absent ∷ phase.Normal ∷ phase.Starting ∷ phase.Secure ∷ phase.Aborting ∷ []

abbrev pub states : List VState
states = Idle ∷ Fresh ∷ Running 1 ∷ Parked Irq ∷ Parked pending.Exit ∷ Parked (pending.Hcall 8) ∷ []

-- a page at rest, and one on the move
abbrev pub at_rest : Kind → Page
at_rest kind = record invalid_page { kind = kind }

abbrev pub on_the_move : Kind → Way → Page
on_the_move kind way = record invalid_page { kind = kind; mover = Some (record { cpu = 1; way = way }) }

-- a page of each kind: Invalid, Secure, Out, Shared without a frame and with one, going out, coming in
abbrev pub pages : List Page
pages = at_rest Invalid ∷ at_rest Secure ∷ at_rest Out ∷ at_rest (Shared None true) ∷ at_rest (Shared (Some 3) false) ∷ on_the_move Secure Outward ∷ on_the_move Out Inward ∷ []

-- a guest in a phase, whose pages are all this one and whose vCPUs are all in this state, with two normal frames from frame 1 on in its partition entry
abbrev pub guest_in : Phase → Page → VState → Guest
guest_in phase page state = record (start_guest small_plan 1) {
  part = record (start_part small_plan 1) { phase = phase; entry = record { base = 0x100; length_ = 2 }; pages = λ gfn. page; vcpus = λ vid. new_vcpu state };
}

-- a guest without memory slots
abbrev pub without_slots : Guest → Guest
without_slots g = record g { part = record g.part { slots = [] } }

-- what a command does at a guest in this context, where each doubleword of a normal frame is the frame's number, with this vCPU selected, where a secure frame is free or none is
abbrev pub deed_selecting : Ctx → ℕ → Guest → Bool → Cmd → Deed
deed_selecting before vid g free cmd = deed_guest small_plan g (λ n offset. n) free (record { before = before; lpid = 1; vid = vid; last = Nothing; hand = []; register = 0 }) cmd

-- its answer
abbrev pub answer_selecting : Ctx → ℕ → Guest → Bool → Cmd → Answer
answer_selecting before vid g free cmd = (deed_selecting before vid g free cmd).answer

-- with vCPU 0 selected
abbrev pub answer_at : Ctx → Guest → Bool → Cmd → Answer
answer_at before g free cmd = answer_selecting before 0 g free cmd

-- what UV_RETURN answers: a row for each phase, a column for each state
abbrev pub ReturnsByPhase : Type 0
ReturnsByPhase =
    map (λ phase. map (λ state. answer_at ctx.Hv (guest_in phase invalid_page state) true (return_with 0)) states) phases
    ≡ replicate 6 (Ret UInvalid)
    ∷ replicate 6 (Ret UInvalid)
    ∷ (Ret UInvalid ∷ Enter ∷ Ret UInvalid ∷ Enter ∷ Ret UInvalid ∷ Enter ∷ [])
    ∷ (Ret UInvalid ∷ Enter ∷ Ret UInvalid ∷ Enter ∷ Ret UInvalid ∷ Enter ∷ [])
    ∷ replicate 6 (Ret UInvalid)
    ∷ []

-- a guest that is Secure, whose vCPU 1 alone waits
abbrev pub guest_with_one_vcpu : Guest
guest_with_one_vcpu = record (start_guest small_plan 1) { part = record (start_part small_plan 1) { vcpus = λ vid. new_vcpu (if vid == 1 then Fresh else Idle) } }

-- what UV_RETURN answers there, by the vCPU that is selected
abbrev pub ReturnsToSelected : Type 0
ReturnsToSelected = map (λ vid. answer_selecting ctx.Hv vid guest_with_one_vcpu true (return_with 0)) (0 ∷ 1 ∷ 2 ∷ []) ≡ Ret UInvalid ∷ Enter ∷ Ret UInvalid ∷ []

-- states of a vCPU that is to try its instruction again, and of one that waits in a call of its own
abbrev pub faulted_states : List VState
faulted_states = Parked (Fault 1) ∷ Parked (Victim 1) ∷ []

abbrev pub called_states : List VState
called_states = Parked (pending.Share 1) ∷ Parked (pending.Unshare 1) ∷ Parked (pending.UnshareAll 1) ∷ Parked EsmStart ∷ Parked (EsmNeed 1) ∷ Parked EsmDone ∷ []

-- vCPU 0 of guest 1 in its first generation
abbrev pub first_vcpu : Run
first_vcpu = record { lpid = 1; vid = 0; generation = 1 }

-- the context after UV_RETURN to vCPU 0 of a guest that is Secure
abbrev pub context_returned : VState → Ctx
context_returned state = (deed_selecting ctx.Hv 0 (guest_in phase.Secure invalid_page state) true (return_with 0)).after

-- the registers of a vCPU that is taken up with R0 of 9 and R2 of 0x500, and had these before
abbrev pub registers_before : Regs
registers_before = record { gpr = replicate 32 7; nip = 0x100; srr0 = 0x20 }

abbrev pub registers_returned : VState → Regs
registers_returned state =
    registers_of_hypervisor (record (guest_in phase.Secure invalid_page state) { registers = λ vid. registers_before }) 0 Enter (UReturn 9 0x500 (replicate 9 8)) 0

-- what UV_RETURN does with a vCPU in these states
pub record ReturnsToEach : Type 0 where
  -- it takes the vCPU up in a guest that is Starting or Secure
  pub answers :
      map (λ phase. map (λ state. answer_at ctx.Hv (guest_in phase invalid_page state) true (return_with 0)) (faulted_states ++ called_states)) phases
      ≡ replicate 2 (replicate 8 (Ret UInvalid)) ++ (replicate 2 (replicate 8 Enter) ++ replicate 8 (Ret UInvalid) ∷ [])
  -- which goes on as a guest, and in its call
  pub guests : map context_returned (Fresh ∷ Parked Irq ∷ Parked (pending.Hcall 8) ∷ faulted_states) ≡ replicate 5 (ctx.Guest first_vcpu)
  pub calls :
      map context_returned called_states
      ≡ ctx.Uv (work.Share first_vcpu) ∷ ctx.Uv (work.Unshare first_vcpu) ∷ ctx.Uv (work.UnshareAll first_vcpu) ∷ replicate 3 (ctx.Uv (work.Esm first_vcpu))
  -- no register of R0 to R31 takes anything, R2 interrupts it as a guest, and counts for nothing in its call
  pub interrupted : map registers_returned (Fresh ∷ Parked Irq ∷ faulted_states) ≡ replicate 4 (record registers_before { nip = 0x500; srr0 = 0x100 })
  pub kept : map registers_returned called_states ≡ replicate 6 registers_before
  -- a step of its call is none of its context yet
  pub steps :
      map (λ call. answer_at (ctx.Uv call) (guest_in phase.Secure invalid_page (Running 1)) true Go) (work.Share first_vcpu ∷ work.Unshare first_vcpu ∷ work.UnshareAll first_vcpu ∷ work.Esm first_vcpu ∷ [])
      ≡ replicate 4 Context

-- the answers of a call that moves a page in a guest of this phase, one for each of these pages
abbrev pub answers_in : Phase → List Page → Bool → Cmd → List Answer
answers_in phase pages free cmd = map (λ page. answer_at ctx.Hv (guest_in phase page Idle) free cmd) pages

-- pages that are Secure, Out, going out and coming in; Shared ones
abbrev pub settled_pages : List Page
settled_pages = at_rest Secure ∷ at_rest Out ∷ on_the_move Secure Outward ∷ on_the_move Out Inward ∷ []

abbrev pub shared_pages : List Page
shared_pages = at_rest (Shared None true) ∷ at_rest (Shared (Some 3) false) ∷ []

-- what UV_PAGE_OUT answers: a row for each phase but the one in which a guest ends
abbrev pub PageOutByPhase : Type 0
PageOutByPhase =
    map (λ phase. answers_in phase pages true (page_out_to 0x0)) (phase.Absent ∷ phase.Normal ∷ phase.Starting ∷ phase.Secure ∷ [])
    ≡ replicate 7 (Ret UParameter)
    ∷ replicate 7 (Ret UParameter)
    ∷ (Ret UP3 ∷ Ret UBusy ∷ Ret UP3 ∷ Ret USuccess ∷ Ret USuccess ∷ Ret UBusy ∷ Ret UP3 ∷ [])
    ∷ (Ret UP3 ∷ Step ∷ Ret UP3 ∷ Ret USuccess ∷ Ret USuccess ∷ Ret UBusy ∷ Ret UP3 ∷ [])
    ∷ []

-- what UV_PAGE_IN answers
pub record PageInByPhase : Type 0 where
  -- of every page where the phase isn't one for it
  pub closed : map (λ free. map (λ phase. answers_in phase pages free (page_in_from 0x0)) (phase.Absent ∷ phase.Normal ∷ phase.Aborting ∷ [])) (true ∷ false ∷ []) ≡ replicate 2 (replicate 3 (replicate 7 (Ret UParameter)))
  -- where a secure frame is free, and where none is
  pub free : map (λ phase. answers_in phase settled_pages true (page_in_from 0x0)) (phase.Starting ∷ phase.Secure ∷ []) ≡ replicate 2 (Ret UP3 ∷ Step ∷ Ret UP3 ∷ Ret UBusy ∷ [])
  pub none : map (λ phase. answers_in phase settled_pages false (page_in_from 0x0)) (phase.Starting ∷ phase.Secure ∷ []) ≡ replicate 2 (Ret UP3 ∷ Ret UBusy ∷ Ret UP3 ∷ Ret UBusy ∷ [])
  -- an Invalid page of a guest that is Secure
  pub invalid : map (λ free. answers_in phase.Secure (at_rest Invalid ∷ []) free (page_in_from 0x0)) (true ∷ false ∷ []) ≡ replicate 2 (Ret UP3 ∷ [])

-- UV_PAGE_INVAL of page 0 with all else as it has to be
abbrev pub inval_page : Cmd
inval_page = UInval 1 0x0 8

-- the pages above, and an Invalid one on the move
abbrev pub all_pages : List Page
all_pages = pages ++ on_the_move Invalid Inward ∷ []

-- what UV_PAGE_INVAL leaves of such a page in a guest that is Secure
abbrev pub page_left : Page → Page
page_left page = let g = guest_in phase.Secure page Idle in (part_of_hypervisor small_plan g.part 0 0 [] (answer_at ctx.Hv g true inval_page) inval_page).pages 0

-- what UV_PAGE_INVAL answers, whether a secure frame is free or not, and what it leaves
pub record InvalByPhase : Type 0 where
  -- a row for each phase
  pub answers :
      map (λ free. map (λ phase. answers_in phase all_pages free inval_page) phases) (true ∷ false ∷ [])
      ≡ replicate 2
      (replicate 2 (replicate 8 (Ret UParameter))
      ++ (replicate 2 (Ret USuccess ∷ Ret UP2 ∷ Ret UP2 ∷ Ret USuccess ∷ Ret USuccess ∷ Ret UP2 ∷ Ret UP2 ∷ Ret USuccess ∷ [])
      ++ replicate 8 (Ret UParameter) ∷ []))
  -- a Shared page has no frame, and the mark that it had; every other is as it was
  pub left :
      map page_left all_pages
      ≡ at_rest Invalid ∷ at_rest Secure ∷ at_rest Out ∷ at_rest (Shared None true) ∷ at_rest (Shared None false) ∷ on_the_move Secure Outward ∷ on_the_move Out Inward ∷ on_the_move Invalid Inward ∷ []

-- what no row does yet, a field for each
pub record NotHereYet : Type 0 where
  pub aborting_page_out : answers_in phase.Aborting pages true (page_out_to 0x0) ≡ replicate 7 (Ret UParameter)
  pub starting_page_in : map (λ free. answers_in phase.Starting (at_rest Invalid ∷ []) free (page_in_from 0x0)) (true ∷ false ∷ []) ≡ replicate 2 (Ret UP3 ∷ [])
  pub shared_page_in : map (λ free. map (λ phase. answers_in phase shared_pages free (page_in_from 0x0)) (phase.Starting ∷ phase.Secure ∷ [])) (true ∷ false ∷ []) ≡ replicate 2 (replicate 2 (replicate 2 (Ret UP3)))

-- what an access to the second doubleword of page 1 meets in a guest of this phase
abbrev pub met_in : Phase → List Meeting
met_in phase = map (λ page. meets small_plan (guest_in phase page Idle).part 0x108) pages

-- what an access to a page of each kind meets in a guest that is to be secure
abbrev pub met_in_own : List Meeting
met_in_own = Unbacked ∷ Private ∷ Away ∷ Unshared ∷ Normal 3 ∷ Moves ∷ Moves ∷ []

-- what an access meets: in a guest that is Normal the entry's frame whatever the page is, in each other guest the page; and no place where the address is unaligned, past the entry, past the last page or in no slot
pub record MeetsByPhase : Type 0 where
  pub normal : met_in phase.Normal ≡ replicate 7 (Normal 2)
  pub starting : met_in phase.Starting ≡ met_in_own
  pub secure : met_in phase.Secure ≡ met_in_own
  pub aborting : met_in phase.Aborting ≡ met_in_own
  pub no_place : map (meets small_plan (guest_in phase.Normal invalid_page Idle).part) (0x104 ∷ 0x200 ∷ []) ≡ NoPlace ∷ NoPlace ∷ []
  pub no_slot : map (λ page. meets small_plan (record (guest_in phase.Secure page Idle).part { slots = [] }) 0x108) pages ≡ replicate 7 NoPlace
  pub normal_slots : map (λ page. meets small_plan (record (guest_in phase.Normal page Idle).part { slots = [] }) 0x108) pages ≡ replicate 7 (Normal 2)
  pub no_page : map (meets small_plan (guest_in phase.Secure invalid_page Idle).part) (0x104 ∷ 0x400 ∷ []) ≡ NoPlace ∷ NoPlace ∷ []

-- what a load of a vCPU answers in a guest of this phase, by the page
abbrev pub loads_in : Phase → Bool → List Answer
loads_in phase free = map (λ page. answer_at (ctx.Guest (record { lpid = 1; vid = 0; generation = 1 })) (guest_in phase page (Running 1)) free (GLd 6 0x108)) pages

-- in one that is Secure where a secure frame is free, and where none is; in one that is Normal
pub record LoadsByKind : Type 0 where
  pub free : loads_in phase.Secure true ≡ Val 0 ∷ Val 0 ∷ Hole ∷ Hole ∷ Val 3 ∷ Again ∷ Again ∷ []
  pub none : loads_in phase.Secure false ≡ Hole ∷ Val 0 ∷ Hole ∷ Hole ∷ Val 3 ∷ Again ∷ Again ∷ []
  pub normal : map (loads_in phase.Normal) (true ∷ false ∷ []) ≡ replicate 2 (replicate 7 (Val 2))

-- what the commands for guests in normal memory answer by phase
pub record NormalByPhase : Type 0 where
  -- h.enter: a row for each phase, a column for each state
  pub enters :
      map (λ phase. map (λ state. answer_at ctx.Hv (guest_in phase invalid_page state) true (HEnter 1 0 0)) states) phases
      ≡ replicate 6 (Ret UParameter) ∷ (Enter ∷ Ret UP2 ∷ Ret UP2 ∷ Enter ∷ Enter ∷ Enter ∷ []) ∷ replicate 3 (replicate 6 (Ret UParameter))
  -- UV_WRITE_PATE, with pages and with none
  pub writes :
      map (λ dw1. map (λ phase. answer_at ctx.Hv (guest_in phase invalid_page Idle) true (UPate 1 0x100 dw1)) phases) (2 ∷ 0 ∷ [])
      ≡ replicate 2 (Ret USuccess ∷ Ret USuccess ∷ replicate 3 (Ret UPermission))
  -- an interrupt
  pub interrupts :
      map (λ phase. answer_at (ctx.Guest (record { lpid = 1; vid = 0; generation = 1 })) (guest_in phase invalid_page (Running 1)) true GIrq) (phase.Normal ∷ phase.Starting ∷ phase.Secure ∷ phase.Aborting ∷ [])
      ≡ Exit exit.Normal ∷ replicate 3 (Exit exit.Irq)

-- what the calls for slots answer by phase of a guest with slot 0
pub record SlotsByPhase : Type 0 where
  pub registers :
      map (λ id. map (λ phase. answer_at ctx.Hv (without_slots (guest_in phase invalid_page Idle)) true (URegslot 1 0x0 0x100 0 id)) phases) (7 ∷ 0x10000 ∷ [])
      ≡ (Ret UParameter ∷ Ret UParameter ∷ Ret USuccess ∷ Ret USuccess ∷ Ret UParameter ∷ []) ∷ (Ret UParameter ∷ Ret UParameter ∷ Ret UP5 ∷ Ret UP5 ∷ Ret UParameter ∷ []) ∷ []
  pub unregisters :
      map (λ id. map (λ phase. answer_at ctx.Hv (guest_in phase invalid_page Idle) true (UUnregslot 1 id)) phases) (0 ∷ 1 ∷ [])
      ≡ (Ret UParameter ∷ Ret UParameter ∷ Ret USuccess ∷ Ret USuccess ∷ Ret UParameter ∷ []) ∷ (Ret UParameter ∷ Ret UParameter ∷ Ret UP2 ∷ Ret UP2 ∷ Ret UParameter ∷ []) ∷ []

-- the tables
pub record TablesByPhase : Type 0 where
  pub returns : ReturnsByPhase
  pub selected : ReturnsToSelected
  pub each : ReturnsToEach
  pub page_out : PageOutByPhase
  pub page_in : PageInByPhase
  pub inval : InvalByPhase
  pub yet : NotHereYet
  pub meets_ : MeetsByPhase
  pub loads : LoadsByKind
  pub normal : NormalByPhase
  pub slots : SlotsByPhase
