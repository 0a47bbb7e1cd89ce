-- What an object's value reads.
use Rattle.std.proofs.Common.{◌&&◌, not, ◌≡◌, ℕ, List, drop, Bool, true, false, Option, Some, None, [], ◌∷◌, if◌then◌else◌, refl, ap, ◌∙◌, slice_index}
use Rattle.pef_model.specs.declared.state.Work.TheVariants.{Inward, Outward}
use Rattle.pef_model.specs.declared.state.Ctx.{Ctx}
use Rattle.pef_model.specs.declared.state.Ctx.TheVariants as ctx
use Rattle.pef_model.specs.declared.command.Cmd.{Cmd}
use Rattle.pef_model.specs.declared.command.Cmd.TheVariants.{GSt, HSt, HEnter, UPagein, UPageout, UReturn, Go}
use Rattle.pef_model.specs.declared.entry.Answer.{Answer}
use Rattle.pef_model.specs.declared.entry.Answer.TheVariants.{Done, Step, Enter}
use Rattle.pef_model.specs.declared.entry.PoolSaw.{PoolSaw}
use Rattle.pef_model.specs.Plan.{Plan}
use Rattle.pef_model.specs.Event.{Event}
use Rattle.pef_model.specs.Target.{touches_cpu, touches_guest, touches_pool, touches_frame, is_sealing, takes_bytes}
use Rattle.pef_model.specs.Cpu.{CpuPart, start_cpu, next_cpu, cpu_in, cpu_by}
use Rattle.pef_model.specs.GuestPart.{GuestPart, part_in, page_of, next_part, with_running_vcpu, with_page_coming, with_page_leaving}
use Rattle.pef_model.specs.Clash.{clashes, clashes_in, ends_in_clash}
use Rattle.pef_model.specs.Guest.{Guest, start_guest, is_drawing, next_guest, next_registers, registers_of_hypervisor, registers_in, stored_by, stored_in}
use Rattle.pef_model.specs.Memory.{start_pool, next_pool, pool_with, start_frame, next_frame, after_writes, writes_of, writes_in, write_in, offset_by}
use Rattle.pef_model.specs.ReadLaw.{EachOwnEntriesDecide, AgreeForCpu, AgreeForGuest, AgreeForFrame, IsReturn, GivesCpu, TheseFieldsDecide, tells_guest, tells_frame}
use Rattle.pef_model.proofs.Folds.{value_after-filter}
use Rattle.pef_model.proofs.OwnWrites.{own_entries_write}
use Rattle.std.specs.Prelude.{unwrap_or}

pub own_entries_decide : EachOwnEntriesDecide
own_entries_decide plan past =
    let guest = λ (lpid : ℕ). value_after-filter (touches_guest plan lpid) (next_guest plan) (start_guest plan lpid) past in
    record {
      cpu = λ n. value_after-filter (touches_cpu n) next_cpu (start_cpu plan) past;
      guest = guest;
      pool = value_after-filter touches_pool next_pool (start_pool plan) past;
      frame = λ n. value_after-filter (touches_frame n) (next_frame plan n) (start_frame plan) past;
      store = λ lpid gpa. ap (λ (g : Guest). g.content gpa) (guest lpid);
      norm = λ ra. own_entries_write plan ra past;
      register = λ lpid vid r. ap (λ (g : Guest). slice_index (g.registers vid).gpr r) (guest lpid);
    }

-- the bytes count where the hand takes them
hand_reads : (hand x y : List ℕ) (b : Bool) → (b ≡ true → x ≡ y) → (if b then x else hand) ≡ (if b then y else hand)
hand_reads hand x y true h = h refl
hand_reads hand x y false h = refl

cpu_by_reads : (cpu : CpuPart) (c after : Ctx) (cmd : Cmd) (a : Answer) (shown x y : List ℕ) → (takes_bytes c cmd a ≡ true → x ≡ y) →
    cpu_by cpu c after cmd a shown x ≡ cpu_by cpu c after cmd a shown y
cpu_by_reads cpu c after cmd a shown x y h =
    ap (λ (hand : List ℕ). record (cpu_in c cpu cmd a shown) { ctx = after; hand = hand }) (hand_reads cpu.hand x y (takes_bytes c cmd a) h)

cpu_agrees : (e f : Event) (cpu : CpuPart) → AgreeForCpu e f → next_cpu cpu e ≡ next_cpu cpu f
cpu_agrees e f cpu h =
    cpu_by_reads cpu e.saw.before e.saw.after e.trace.cmd e.trace.answer e.saw.shown e.bytes f.bytes h.bytes
    ∙ λ i. cpu_by cpu (h.before i) (h.after i) (h.cmd i) (h.answer i) (h.shown i) f.bytes

pub part_by_is : (plan : Plan) (g : GuestPart) (e : Event) → next_part plan g e ≡ part_in plan g e.saw.before e.trace.answer e.trace.cmd e.saw.pool e.saw.vid e.trace.cpu e.bytes
part_by_is plan g e = refl

-- the vCPU counts at UV_RETURN alone, the CPU where a vCPU runs or a page moves from then on, the bytes where a page-out begins
part_by_reads : (plan : Plan) (g : GuestPart) (c : Ctx) (a : Answer) (cmd : Cmd) (pool : Option PoolSaw) (v w m n : ℕ) (x y : List ℕ) → (IsReturn cmd → v ≡ w) → (GivesCpu a → m ≡ n) → (is_sealing c cmd a ≡ true → x ≡ y) →
    part_in plan g c a cmd pool v m x ≡ part_in plan g c a cmd pool w n y
part_by_reads plan g ctx.Hv Step (UPagein lpid src gpa flags order) pool v w m n x y h k l = ap (with_page_coming g (page_of plan gpa)) (k tt)
part_by_reads plan g ctx.Hv Step (UPageout lpid dest gpa flags order) pool v w m n x y h k l =
    ap (λ (cpu : ℕ). with_page_leaving g (page_of plan gpa) cpu x) (k tt) ∙ ap (with_page_leaving g (page_of plan gpa) n) (l refl)
part_by_reads plan g ctx.Hv Enter (UReturn r0 r2 outs) pool v w m n x y h k l =
    ap (λ (vid : ℕ). with_running_vcpu g vid m) (h tt) ∙ ap (with_running_vcpu g w) (k tt)
part_by_reads plan g ctx.Hv Enter (HEnter lpid named value) pool v w m n x y h k l = ap (with_running_vcpu g named) (k tt)
part_by_reads plan g c a cmd pool v w m n x y h k l = refl

-- a page-out that begins tells the guest its bytes
sealing_tells : (c : Ctx) (cmd : Cmd) (a : Answer) → is_sealing c cmd a ≡ true → tells_guest c cmd a ≡ true
sealing_tells ctx.Hv cmd a h = h
sealing_tells (ctx.Uv work) cmd a h = cc
sealing_tells (ctx.Guest run) cmd a h = cc

part_agrees : (plan : Plan) (e f : Event) (g : GuestPart) → AgreeForGuest plan e f → next_part plan g e ≡ next_part plan g f
part_agrees plan e f g h =
    let z = part_by_reads plan g e.saw.before e.trace.answer e.trace.cmd e.saw.pool e.saw.vid f.saw.vid e.trace.cpu f.trace.cpu e.bytes f.bytes h.vid h.cpu (λ seals. h.bytes (sealing_tells e.saw.before e.trace.cmd e.trace.answer seals)) in
    let a = h.cmd in
    let b = h.answer in
    let c = h.before in
    let p = h.pool in
    cc

-- a vCPU's registers change at UV_RETURN of the selected one, and of no other
registers_read : (c : Ctx) (g : Guest) (cmd : Cmd) (a : Answer) (v w : ℕ) → (IsReturn cmd → v ≡ w) → registers_in c g v cmd a ≡ registers_in c g w cmd a
registers_read ctx.Hv g (UReturn r0 r2 outs) a v w h = ap (λ (x : ℕ). registers_of_hypervisor g x a (UReturn r0 r2 outs)) (h tt)
registers_read ctx.Hv g cmd Enter v w h = refl
registers_read ctx.Hv g cmd a v w h = refl
registers_read (ctx.Uv work) g cmd a v w h = refl
registers_read (ctx.Guest run) g cmd a v w h = refl

-- a digest collision is told by the bytes of a page-in's end
clash_reads : (g : GuestPart) (c : Ctx) (cmd : Cmd) (a : Answer) (x y : List ℕ) → (tells_guest c cmd a ≡ true → x ≡ y) → clashes_in g c cmd x ≡ clashes_in g c cmd y
clash_reads g (ctx.Uv (Inward move)) Go a x y h = ap (ends_in_clash g move) (h refl)
clash_reads g c cmd a x y h = refl

-- what is stored, by the bytes where they tell the guest something
stored_reads : (plan : Plan) (g : Guest) (c : Ctx) (cmd : Cmd) (a : Answer) (frame : Option ℕ) (x y : List ℕ) (gpa : ℕ) → (tells_guest c cmd a ≡ true → x ≡ y) → stored_in c plan g cmd a frame x gpa ≡ stored_in c plan g cmd a frame y gpa
stored_reads plan g (ctx.Guest run) (GSt rs at) Done None x y gpa h = refl
stored_reads plan g c cmd a frame x y gpa h = refl

guest_agrees : (plan : Plan) (e f : Event) (g : Guest) → AgreeForGuest plan e f → next_guest plan g e ≡ next_guest plan g f
guest_agrees plan e f g h =
    let part = part_agrees plan e f g.part h in
    let registers : next_registers plan g e ≡ next_registers plan g f =
    registers_read e.saw.before g e.trace.cmd e.trace.answer e.saw.vid f.saw.vid h.vid ∙ λ i. registers_in (h.before i) g f.saw.vid (h.cmd i) (h.answer i) in
    let clash : clashes g.part e ≡ clashes g.part f =
    clash_reads g.part e.saw.before e.trace.cmd e.trace.answer e.bytes f.bytes h.bytes ∙ λ i. clashes_in g.part (h.before i) (h.cmd i) f.bytes in
    let stored : (gpa : ℕ) → stored_by plan g e gpa ≡ stored_by plan g f gpa =
    (λ gpa. stored_reads plan g e.saw.before e.trace.cmd e.trace.answer e.saw.frame e.bytes f.bytes gpa h.bytes ∙ λ i. stored_in (h.before i) plan g (h.cmd i) (h.answer i) (h.frame i) f.bytes gpa) in
    let drawing : is_drawing e.saw.before e.trace.answer e.trace.cmd ≡ is_drawing f.saw.before f.trace.answer f.trace.cmd = (λ i. is_drawing (h.before i) (h.answer i) (h.cmd i)) in
    (λ i. record g { part = part i; content = λ gpa. unwrap_or (stored gpa i) (g.content gpa); registers = registers i; words = if drawing i then drop 1 g.words else g.words; clean = g.clean && not (clash i) })

-- the bytes count for a normal frame where they tell it something
frame_reads : (shift : ℕ) (c : Ctx) (cmd : Cmd) (a : Answer) (x y : List ℕ) (frame : Option ℕ) → (tells_frame c cmd a ≡ true → x ≡ y) → writes_in shift c cmd a x frame ≡ writes_in shift c cmd a y frame
frame_reads shift c cmd a x y None h = refl
frame_reads shift c cmd a x y (Some n) h = by_ctx c cmd a h where
  by_ctx : (c : Ctx) (cmd : Cmd) (a : Answer) → (tells_frame c cmd a ≡ true → x ≡ y) → write_in shift c cmd a x n ≡ write_in shift c cmd a y n
  by_ctx (ctx.Uv (Outward move)) Go Step h = ap (λ (bytes : List ℕ). record { frame = n; offset = 0; bytes = bytes } ∷ []) (h refl)
  by_ctx (ctx.Guest run) (GSt rs gpa) Done h = ap (λ (bytes : List ℕ). record { frame = n; offset = offset_by shift gpa; bytes = bytes } ∷ []) (h refl)
  by_ctx ctx.Hv (HSt ra value) Done h = refl
  by_ctx c cmd a h = refl

frame_agrees : (plan : Plan) (e f : Event) (n : ℕ) (bytes : List ℕ) → AgreeForFrame e f → next_frame plan n bytes e ≡ next_frame plan n bytes f
frame_agrees plan e f n bytes h =
    let z : writes_in plan.shift e.saw.before e.trace.cmd e.trace.answer e.bytes e.saw.frame ≡ writes_in plan.shift e.saw.before e.trace.cmd e.trace.answer f.bytes e.saw.frame =
    frame_reads plan.shift e.saw.before e.trace.cmd e.trace.answer e.bytes f.bytes e.saw.frame h.bytes in
    let a = h.cmd in
    let b = h.answer in
    let c = h.before in
    let d = h.frame in
    let same : writes_of plan e ≡ writes_of plan f = cc in
    ap (after_writes n bytes) same

pub these_fields_decide : TheseFieldsDecide
these_fields_decide plan e f = record {
  cpu = λ cpu h. cpu_agrees e f cpu h;
  part = λ g h. part_agrees plan e f g h;
  guest = λ g h. guest_agrees plan e f g h;
  pool = λ free h. ap (pool_with free) h;
  frame = λ n bytes h. frame_agrees plan e f n bytes h;
}
