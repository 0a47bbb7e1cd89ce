-- What any entry, of a legal history or not, can make of a guest's public part.
use Rattle.std.proofs.Common.{◌≡◌, ◌≢◌, ◌-◌, ◌≤◌, arith, Option, Some, None, ℕ, List, [], ◌∷◌, Bool, true, false, if◌then◌else◌, refl}
use Rattle.pef_model.specs.declared.state.Phase.{Phase}
use Rattle.pef_model.specs.declared.state.Phase.TheVariants as phase
use Rattle.pef_model.specs.declared.state.Pending.{Pending}
use Rattle.pef_model.specs.Plan.{Plan}
use Rattle.pef_model.specs.Event.{Event}
use Rattle.pef_model.specs.Target.{touches_guest}
use Rattle.pef_model.specs.declared.state.Pending.TheVariants as pending
use Rattle.pef_model.specs.declared.state.Slot.{Slot}
use Rattle.pef_model.specs.declared.state.Work.{Work}
use Rattle.pef_model.specs.declared.state.Work.TheVariants.{Inward, Outward}
use Rattle.pef_model.specs.declared.state.Ctx.{Ctx}
use Rattle.pef_model.specs.declared.state.Ctx.TheVariants as ctx
use Rattle.pef_model.specs.declared.command.Code.{Code}
use Rattle.pef_model.specs.declared.command.Code.TheVariants.{USuccess, UP2}
use Rattle.pef_model.specs.declared.command.Cmd.{Cmd}
use Rattle.pef_model.specs.declared.command.Cmd.TheVariants.{HEnter, UPate, URegslot, UUnregslot, UPagein, UPageout, UInval, UReturn, GLd, GSt, GHcall, GIrq}
use Rattle.pef_model.specs.declared.entry.PoolSaw.{PoolSaw}
use Rattle.pef_model.specs.declared.entry.Answer.{Answer}
use Rattle.pef_model.specs.declared.entry.Answer.TheVariants.{Done, Val, Ret, Step, Enter, Exit}
use Rattle.pef_model.specs.Slots.{registered_by, unregistered_by}
use Rattle.pef_model.specs.GuestPart.{GuestPart, Page, VcpuPart, part_of_write, part_of_inval, part_of_hypervisor, part_of_work, part_of_access, part_of_guest, part_in, page_of, slot_asked, waits_for, start_phase, with_secure_page, with_running_vcpu, with_parked_vcpu, with_page_leaving, with_page_out, with_page_coming, with_page_refused, with_page_unmapped, has_word, with_entry}
use Rattle.pef_model.specs.Guest.{Guest, next_guest}
use Rattle.pef_model.specs.History.{guest_after, part_after}
use Rattle.pef_model.proofs.Changes.{entry_gives, may_run_in}

-- a fact holds of a public part, and of all that a step can make of it
pub record IsKept (P : GuestPart → Type 0) (g : GuestPart) : Type 0 where
  pub same : P g
  pub running : (vid cpu : ℕ) → P (with_running_vcpu g vid cpu)
  pub parked : (vid : ℕ) (pending : Pending) → P (with_parked_vcpu g vid pending)
  pub leaving : (gfn cpu : ℕ) (bytes : List ℕ) → P (with_page_leaving g gfn cpu bytes)
  pub out : (gfn : ℕ) → P (with_page_out g gfn)
  pub coming : (gfn cpu : ℕ) → P (with_page_coming g gfn cpu)
  pub refused : (gfn : ℕ) → P (with_page_refused g gfn)
  pub secure : (gfn : ℕ) → P (with_secure_page g gfn)
  pub written : (dw0 dw1 : ℕ) → P (with_entry g dw0 dw1)
  pub slots : (slots : List Slot) → P (record g { slots = slots })
  pub unmapped : (gfn : ℕ) → P (with_page_unmapped g gfn)
  pub drawn : (words : ℕ) → P (record g { words = words })

module _ (P : GuestPart → Type 0) (plan : Plan) (g : GuestPart) (k : IsKept P g) where
  by_write : (code : Code) (dw0 dw1 : ℕ) → P (part_of_write g code dw0 dw1)
  by_write USuccess dw0 dw1 = k.written dw0 dw1
  by_write code dw0 dw1 = k.same

  by_inval : (code : Code) (gfn : ℕ) → P (part_of_inval g code gfn)
  by_inval USuccess gfn = k.unmapped gfn
  by_inval code gfn = k.same

  by_hypervisor : (vid cpu : ℕ) (bytes : List ℕ) (a : Answer) (cmd : Cmd) → P (part_of_hypervisor plan g vid cpu bytes a cmd)
  by_hypervisor vid cpu bytes Step (UPageout lpid dest gpa flags order) = k.leaving (page_of plan gpa) cpu bytes
  by_hypervisor vid cpu bytes Step (UPagein lpid src gpa flags order) = k.coming (page_of plan gpa) cpu
  by_hypervisor vid cpu bytes Enter (UReturn r0 r2 outs) = k.running vid cpu
  by_hypervisor vid cpu bytes Enter (HEnter lpid named value) = k.running named cpu
  by_hypervisor vid cpu bytes (Ret code) (UPate lpid dw0 dw1) = by_write code dw0 dw1
  by_hypervisor vid cpu bytes (Ret code) (URegslot lpid start size flags id) = k.slots (registered_by code g.slots (slot_asked plan start size id))
  by_hypervisor vid cpu bytes (Ret code) (UUnregslot lpid id) = k.slots (unregistered_by code g.slots id)
  by_hypervisor vid cpu bytes (Ret code) (UInval lpid gpa order) = by_inval code (page_of plan gpa)
  by_hypervisor vid cpu bytes a cmd = k.same

  by_work : (bytes : List ℕ) (a : Answer) (work : Work) → P (part_of_work g bytes a work)
  by_work bytes (Ret USuccess) (Outward move) = k.out move.gfn
  by_work bytes (Ret USuccess) (Inward move) = k.secure move.gfn
  by_work bytes (Ret UP2) (Inward move) = k.refused move.gfn
  by_work bytes a work = k.same

  by_access : (gfn : ℕ) (pool : Option PoolSaw) → P (part_of_access g gfn pool)
  by_access gfn (Some saw) = k.secure gfn
  by_access gfn None = k.same

  by_guest : (vid : ℕ) (a : Answer) (cmd : Cmd) (pool : Option PoolSaw) → P (part_of_guest plan g vid a cmd pool)
  by_guest vid (Val value) (GLd rd gpa) pool = by_access (page_of plan gpa) pool
  by_guest vid Done (GSt rs gpa) pool = by_access (page_of plan gpa) pool
  by_guest vid (Exit why) GIrq pool = k.parked vid pending.Irq
  by_guest vid (Ret code) GHcall pool = k.drawn (if has_word code then g.words - 1 else g.words)
  by_guest vid (Exit why) GHcall pool = k.parked vid (waits_for why)
  by_guest vid a cmd pool = k.same

  by_ctx : (c : Ctx) (a : Answer) (cmd : Cmd) (pool : Option PoolSaw) (vid cpu : ℕ) (bytes : List ℕ) → P (part_in plan g c a cmd pool vid cpu bytes)
  by_ctx ctx.Hv a cmd pool vid cpu bytes = by_hypervisor vid cpu bytes a cmd
  by_ctx (ctx.Uv work) a cmd pool vid cpu bytes = by_work bytes a work
  by_ctx (ctx.Guest run) a cmd pool vid cpu bytes = by_guest run.vid a cmd pool

-- so it holds after an entry
pub holds_after : (P : GuestPart → Type 0) (plan : Plan) (past : List Event) (e : Event) (lpid : ℕ) → IsKept P (part_after plan past lpid) → P (part_after plan (e ∷ past) lpid)
holds_after P plan past e lpid kept = by_test (touches_guest plan lpid e) where
  g : Guest
  g = guest_after plan lpid past

  by_test : (b : Bool) → P (if b then next_guest plan g e else g).part
  by_test true = by_ctx P plan g.part kept e.saw.before e.trace.answer e.trace.cmd e.saw.pool e.saw.vid e.trace.cpu e.bytes
  by_test false = kept.same

-- a fact that no change of pages, vCPUs, order, slots and words touches is kept, if it is where a partition entry is set
pub life_kept : (P : GuestPart → Type 0) (g : GuestPart) → ((pages : ℕ → Page) (vcpus : ℕ → VcpuPart) (order : List ℕ) (slots : List Slot) (words : ℕ) → P (record g { pages = pages; vcpus = vcpus; order = order; slots = slots; words = words })) →
    ((dw0 dw1 : ℕ) → P (with_entry g dw0 dw1)) → IsKept P g
life_kept P g h written = record {
  same = h g.pages g.vcpus g.order g.slots g.words;
  running = λ vid cpu. h g.pages (with_running_vcpu g vid cpu).vcpus g.order g.slots g.words;
  parked = λ vid pending. h g.pages (with_parked_vcpu g vid pending).vcpus g.order g.slots g.words;
  leaving = λ gfn cpu bytes. h (with_page_leaving g gfn cpu bytes).pages g.vcpus g.order g.slots g.words;
  out = λ gfn. h (with_page_out g gfn).pages g.vcpus (with_page_out g gfn).order g.slots g.words;
  coming = λ gfn cpu. h (with_page_coming g gfn cpu).pages g.vcpus g.order g.slots g.words;
  refused = λ gfn. h (with_page_refused g gfn).pages g.vcpus g.order g.slots g.words;
  secure = λ gfn. h (with_secure_page g gfn).pages g.vcpus (with_secure_page g gfn).order g.slots g.words;
  written = written;
  slots = λ slots. h g.pages g.vcpus g.order slots g.words;
  unmapped = λ gfn. h (with_page_unmapped g gfn).pages g.vcpus g.order g.slots g.words;
  drawn = λ words. h g.pages g.vcpus g.order g.slots words;
}

-- a guest's generation never falls
pub generation_grows : (plan : Plan) (past : List Event) (e : Event) (lpid : ℕ) → (part_after plan past lpid).generation ≤ (part_after plan (e ∷ past) lpid).generation
generation_grows plan past e lpid =
    let g : GuestPart = part_after plan past lpid in
    holds_after (λ (new : GuestPart). g.generation ≤ new.generation) plan past e lpid
    (life_kept (λ (new : GuestPart). g.generation ≤ new.generation) g (λ pages vcpus order slots words. omega arith) (λ dw0 dw1. entry_gives (λ (new : GuestPart). g.generation ≤ new.generation) g dw0 dw1 (omega arith) (omega arith)))

-- no guest is on its way to become secure, or back
abbrev pub IsSettled : Phase → Type 0
IsSettled phase.Starting = ⊥
IsSettled phase.Aborting = ⊥
IsSettled p = Unit {0}

pub settled : (plan : Plan) (past : List Event) (lpid : ℕ) → IsSettled (part_after plan past lpid).phase
settled plan [] lpid = by_birth (plan.is_born lpid) where
  by_birth : (b : Bool) → IsSettled (start_phase b)
  by_birth true = tt
  by_birth false = tt
settled plan (e ∷ past) lpid =
    let g : GuestPart = part_after plan past lpid in
    let is = settled plan past lpid in
    holds_after (λ (new : GuestPart). IsSettled new.phase) plan past e lpid
    (life_kept (λ (new : GuestPart). IsSettled new.phase) g (λ pages vcpus order slots words. is) (λ dw0 dw1. entry_gives (λ (new : GuestPart). IsSettled new.phase) g dw0 dw1 tt tt))

-- so a guest that runs is Secure, or in normal memory
pub secure_where_runs : (p : Phase) → IsSettled p → may_run_in p ≡ true → p ≢ phase.Normal → p ≡ phase.Secure
secure_where_runs phase.Absent is may other = cc
secure_where_runs phase.Normal is may other = absurd (other refl)
secure_where_runs phase.Starting is may other = absurd is
secure_where_runs phase.Secure is may other = refl
secure_where_runs phase.Aborting is may other = absurd is
