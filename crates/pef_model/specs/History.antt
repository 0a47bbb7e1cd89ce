-- The objects after a history, the one entry that a step adds, and legal histories.
use Rattle.std.specs.Prelude.{◌≡◌, ℕ, ◌<◌, ◌==◌, nat_lt, Bool, false, ◌&&◌, if◌then◌else◌, List, [], ◌∷◌, Option, Some, None, slice_index}
use Rattle.pef_model.specs.declared.state.Ctx.{Ctx}
use Rattle.pef_model.specs.declared.state.Ctx.TheVariants as ctx
use Rattle.pef_model.specs.declared.command.Cmd.{Cmd}
use Rattle.pef_model.specs.declared.command.Cmd.TheVariants.{UPageout, Dump}
use Rattle.pef_model.specs.declared.entry.Answer.{Answer}
use Rattle.pef_model.specs.Commands.{IsCommand}
use Rattle.pef_model.specs.Plan.{Plan}
use Rattle.pef_model.specs.Event.{Event, Mark, mark_of, newest, value_after}
use Rattle.pef_model.specs.Doubleword.{doubleword}
use Rattle.pef_model.specs.Target.{Ask, Target, Alone, AtGuest, AtFrame, uses_hand, is_sealing, target_in, touches_cpu, touches_guest, touches_pool, touches_frame}
use Rattle.pef_model.specs.Cpu.{CpuPart, start_cpu, next_cpu}
use Rattle.pef_model.specs.GuestPart.{GuestPart, Page, page_of}
use Rattle.pef_model.specs.Guest.{Guest, start_guest, next_guest}
use Rattle.pef_model.specs.Memory.{start_pool, next_pool, start_frame, next_frame, writes_of, written_at}
use Rattle.pef_model.specs.Deed.{Deed, deed_alone, deed_guest, deed_frame}

-- a CPU after a history
abbrev pub cpu_after : Plan → ℕ → List Event → CpuPart
cpu_after plan n past = value_after (touches_cpu n) next_cpu (start_cpu plan) past

-- a guest after a history, with what it keeps to itself
abbrev pub guest_after : Plan → ℕ → List Event → Guest
guest_after plan lpid past = value_after (touches_guest plan lpid) (next_guest plan) (start_guest plan lpid) past

-- a guest's public part after a history
abbrev pub part_after : Plan → List Event → ℕ → GuestPart
part_after plan past lpid = (guest_after plan lpid past).part

-- a page of a guest after a history
abbrev pub page_after : Plan → List Event → ℕ → ℕ → Page
page_after plan past lpid gfn = (guest_after plan lpid past).part.pages gfn

-- the number of free secure frames after a history
abbrev pub pool_after : Plan → List Event → ℕ
pool_after plan past = value_after touches_pool next_pool (start_pool plan) past

-- a normal frame after a history
abbrev pub frame_after : Plan → ℕ → List Event → List ℕ
frame_after plan n past = value_after (touches_frame n) (next_frame plan n) (start_frame plan) past

-- the doubleword at an offset of a normal frame after a history
abbrev pub found_after : Plan → List Event → ℕ → ℕ → ℕ
found_after plan past n offset = doubleword (frame_after plan n past) offset

-- all that the hypervisor could know; of secrets it has what the sealed bytes of page-outs tell
pub record PublicState : Type 0 where
  pub cpus : ℕ → CpuPart
  pub guests : ℕ → GuestPart
  pub pool : ℕ
  pub frames : ℕ → List ℕ

-- the public state after a history
abbrev pub public_state : Plan → List Event → PublicState
public_state plan past = record {
  cpus = λ n. cpu_after plan n past;
  guests = λ lpid. (guest_after plan lpid past).part;
  pool = pool_after plan past;
  frames = λ n. frame_after plan n past;
}

-- the value last stored at an address of a guest's private page; 0 where the page is Invalid
abbrev pub last_store : Plan → List Event → ℕ → ℕ → ℕ
last_store plan past lpid gpa = (guest_after plan lpid past).content gpa

-- the value that an entry writes at a real address
abbrev pub decides_norm : Plan → ℕ → List Event → Event → Option ℕ
decides_norm plan ra past e = written_at plan ra (writes_of plan e)

-- the value last written at a real address
abbrev pub last_norm : Plan → List Event → ℕ → ℕ
last_norm plan past ra = newest (decides_norm plan ra) 0 past

-- the value last assigned to one of R0 to R31 of a vCPU
abbrev pub reg : Plan → List Event → ℕ → ℕ → ℕ → ℕ
reg plan past lpid vid r = slice_index ((guest_after plan lpid past).registers vid).gpr r

-- the register of a CPU that a step shows, where it shows one
abbrev pub register_shown : Ctx → Cmd → List ℕ → ℕ
register_shown ctx.Hv (Dump reg) own = slice_index own reg
register_shown before cmd own = 0

-- what a step learns of its CPU
abbrev pub ask_of : CpuPart → Cmd → Ask
ask_of cpu cmd = record { before = cpu.ctx; lpid = cpu.lpid; vid = cpu.vid; last = cpu.last; hand = if uses_hand cpu.ctx cmd then cpu.hand else []; register = register_shown cpu.ctx cmd cpu.own }

-- the entry of a step
abbrev pub entry_of : Ask → Mark → Cmd → Deed → Event
entry_of ask mark cmd deed = record {
  trace = record { line = mark.line; cpu = mark.cpu; place = mark.place; stamp = mark.stamp; cmd = cmd; answer = deed.answer };
  saw = record { before = ask.before; after = deed.after; lpid = ask.lpid; vid = ask.vid; last = ask.last; pool = deed.pool; frame = deed.frame; shown = deed.shown };
  bytes = deed.bytes;
}

-- what a step does after a history
abbrev pub deed_after : Plan → List Event → Ask → Cmd → Target → Deed
deed_after plan past ask cmd Alone = deed_alone plan ask cmd
deed_after plan past ask cmd (AtGuest lpid) = deed_guest plan (guest_after plan lpid past) (found_after plan past) (nat_lt 0 (pool_after plan past)) ask cmd
deed_after plan past ask cmd (AtFrame n) = deed_frame plan n (frame_after plan n past) ask cmd

-- the entry that a step adds to a history, once it is known what the step learns of its CPU
abbrev pub next_entry_by : Plan → List Event → Ask → Mark → Cmd → Event
next_entry_by plan past ask mark cmd = entry_of ask mark cmd (deed_after plan past ask cmd (target_in plan ask.before ask.lpid cmd))

-- the one entry that a step of a CPU adds to a history
abbrev pub next_entry : Plan → List Event → Mark → Cmd → Event
next_entry plan past mark cmd = next_entry_by plan past (ask_of (cpu_after plan mark.cpu past) cmd) mark cmd

-- an entry extends a history: its CPU is one of the machine's, its command's numbers are in their ranges, and it is the one that its step adds
pub record Extends (plan : Plan) (past : List Event) (e : Event) : Type 0 where
  pub cpu : e.trace.cpu < plan.cpus
  pub command : IsCommand e.trace.cmd
  pub is : e ≡ next_entry plan past (mark_of e) e.trace.cmd

-- each entry of a history extends those before it
abbrev pub IsLegal : Plan → List Event → Type 0
IsLegal plan [] = Unit {0}
IsLegal plan (e ∷ past) = Extends plan past e × IsLegal plan past

-- an entry changes no guest, no normal frame, and not the pool
pub record ChangesNoMemory (plan : Plan) (past : List Event) (e : Event) : Type 0 where
  pub guests : (lpid : ℕ) → guest_after plan lpid (e ∷ past) ≡ guest_after plan lpid past
  pub pool : pool_after plan (e ∷ past) ≡ pool_after plan past
  pub frames : (n : ℕ) → frame_after plan n (e ∷ past) ≡ frame_after plan n past

-- whether a call names a page of a guest as the one to move outward
abbrev pub names_page_out : Plan → ℕ → ℕ → Cmd → Bool
names_page_out plan lpid gfn (UPageout named dest gpa flags order) = (named == lpid) && (page_of plan gpa == gfn)
names_page_out plan lpid gfn cmd = false

-- whether a step begins a page-out of a guest's page
abbrev pub begins_out_in : Plan → ℕ → ℕ → Ctx → Cmd → Answer → Bool
begins_out_in plan lpid gfn before cmd a = is_sealing before cmd a && names_page_out plan lpid gfn cmd

-- whether an entry does
abbrev pub begins_out : Plan → ℕ → ℕ → Event → Bool
begins_out plan lpid gfn e = begins_out_in plan lpid gfn e.saw.before e.trace.cmd e.trace.answer

-- the bytes of the newest begin of a page-out of a guest's page
abbrev pub last_begun : Plan → ℕ → ℕ → List Event → Option (List ℕ)
last_begun plan lpid gfn [] = None
last_begun plan lpid gfn (e ∷ past) = if begins_out plan lpid gfn e then Some e.bytes else last_begun plan lpid gfn past
