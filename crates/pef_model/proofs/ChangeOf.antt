-- Which change each entry of a legal history makes.
use Rattle.std.proofs.Common.{◌≡◌, nat_le, List, ◌&&◌, refl, sym, subst}
use Rattle.pef_model.specs.declared.state.Work.TheVariants.{Inward, Outward}
use Rattle.pef_model.specs.declared.state.Ctx.{Ctx}
use Rattle.pef_model.specs.declared.state.Ctx.TheVariants as ctx
use Rattle.pef_model.specs.declared.command.Cmd.{Cmd}
use Rattle.pef_model.specs.declared.command.Cmd.TheVariants.{HLd, HSt, HSelect, HEnter, UPate, URegslot, UUnregslot, UPagein, UPageout, UInval, UReturn, GLi, GAdd, GXor, GLd, GSt, GHcall, GIrq, Go, Dump}
use Rattle.pef_model.specs.Plan.{Plan}
use Rattle.pef_model.specs.Event.{Event, Mark, mark_of}
use Rattle.pef_model.specs.Target.{has_real_place}
use Rattle.pef_model.specs.Cpu.{CpuPart}
use Rattle.pef_model.specs.History.{cpu_after, next_entry_by, Extends}
use Rattle.pef_model.proofs.Changes.{Change, asked, refused}
use Rattle.pef_model.proofs.HypervisorChanges.{load, store, return, page_out, named, go}
use Rattle.pef_model.proofs.PageInChanges.{page_in, go_in}
use Rattle.pef_model.proofs.Unmapped.{inval}
use Rattle.pef_model.proofs.EntryChanges.{select, enter, write, register, unregister}
use Rattle.pef_model.proofs.GuestChanges.{at_own}

-- by the context before the step, and the command
change_in : (plan : Plan) (past : List Event) (cpu : CpuPart) (mark : Mark) (c : Ctx) → cpu.ctx ≡ c → (cmd : Cmd) →
    Change plan past cpu (next_entry_by plan past (asked cpu c cmd) mark cmd)
change_in plan past cpu mark ctx.Hv h (HLd ra) = load plan past cpu mark h ra (has_real_place plan ra)
change_in plan past cpu mark ctx.Hv h (HSt ra value) = store plan past cpu mark h ra value (has_real_place plan ra)
change_in plan past cpu mark ctx.Hv h (HSelect lpid vid) = select plan past cpu mark h lpid vid
change_in plan past cpu mark ctx.Hv h (HEnter lpid vid value) = named plan past cpu mark h (HEnter lpid vid value) lpid (nat_le 1 lpid && nat_le lpid plan.guests) refl
    (record { ctx_is = refl; hand_is = refl; lpid_is = refl }) (enter plan past cpu mark h lpid vid value)
change_in plan past cpu mark ctx.Hv h (UPate lpid dw0 dw1) = named plan past cpu mark h (UPate lpid dw0 dw1) lpid (nat_le 1 lpid && nat_le lpid plan.guests) refl
    (record { ctx_is = refl; hand_is = refl; lpid_is = refl }) (write plan past cpu mark h lpid dw0 dw1)
change_in plan past cpu mark ctx.Hv h (URegslot lpid start size flags id) = named plan past cpu mark h (URegslot lpid start size flags id) lpid (nat_le 1 lpid && nat_le lpid plan.guests) refl
    (record { ctx_is = refl; hand_is = refl; lpid_is = refl }) (register plan past cpu mark h lpid start size flags id)
change_in plan past cpu mark ctx.Hv h (UUnregslot lpid id) = named plan past cpu mark h (UUnregslot lpid id) lpid (nat_le 1 lpid && nat_le lpid plan.guests) refl
    (record { ctx_is = refl; hand_is = refl; lpid_is = refl }) (unregister plan past cpu mark h lpid id)
change_in plan past cpu mark ctx.Hv h (UPagein lpid src gpa flags order) = named plan past cpu mark h (UPagein lpid src gpa flags order) lpid (nat_le 1 lpid && nat_le lpid plan.guests) refl
    (record { ctx_is = refl; hand_is = refl; lpid_is = refl }) (page_in plan past cpu mark h lpid src gpa flags order)
change_in plan past cpu mark ctx.Hv h (UPageout lpid dest gpa flags order) = named plan past cpu mark h (UPageout lpid dest gpa flags order) lpid (nat_le 1 lpid && nat_le lpid plan.guests) refl
    (record { ctx_is = refl; hand_is = refl; lpid_is = refl }) (page_out plan past cpu mark h lpid dest gpa flags order)
change_in plan past cpu mark ctx.Hv h (UInval lpid gpa order) = named plan past cpu mark h (UInval lpid gpa order) lpid (nat_le 1 lpid && nat_le lpid plan.guests) refl
    (record { ctx_is = refl; hand_is = refl; lpid_is = refl }) (inval plan past cpu mark h lpid gpa order)
change_in plan past cpu mark ctx.Hv h (UReturn r0 r2 outs) = return plan past cpu mark h r0 r2 outs
change_in plan past cpu mark ctx.Hv h (GLi rd value) = refused plan past cpu mark ctx.Hv h (GLi rd value) (record { ctx_is = refl; hand_is = refl; lpid_is = refl }) refl
change_in plan past cpu mark ctx.Hv h (GAdd rd ra rb) = refused plan past cpu mark ctx.Hv h (GAdd rd ra rb) (record { ctx_is = refl; hand_is = refl; lpid_is = refl }) refl
change_in plan past cpu mark ctx.Hv h (GXor rd ra rb) = refused plan past cpu mark ctx.Hv h (GXor rd ra rb) (record { ctx_is = refl; hand_is = refl; lpid_is = refl }) refl
change_in plan past cpu mark ctx.Hv h (GLd rd gpa) = refused plan past cpu mark ctx.Hv h (GLd rd gpa) (record { ctx_is = refl; hand_is = refl; lpid_is = refl }) refl
change_in plan past cpu mark ctx.Hv h (GSt rs gpa) = refused plan past cpu mark ctx.Hv h (GSt rs gpa) (record { ctx_is = refl; hand_is = refl; lpid_is = refl }) refl
change_in plan past cpu mark ctx.Hv h GHcall = refused plan past cpu mark ctx.Hv h GHcall (record { ctx_is = refl; hand_is = refl; lpid_is = refl }) refl
change_in plan past cpu mark ctx.Hv h (Dump reg) = refused plan past cpu mark ctx.Hv h (Dump reg) (record { ctx_is = refl; hand_is = refl; lpid_is = refl }) refl
change_in plan past cpu mark ctx.Hv h GIrq = refused plan past cpu mark ctx.Hv h GIrq (record { ctx_is = refl; hand_is = refl; lpid_is = refl }) refl
change_in plan past cpu mark ctx.Hv h Go = refused plan past cpu mark ctx.Hv h Go (record { ctx_is = refl; hand_is = refl; lpid_is = refl }) refl
change_in plan past cpu mark (ctx.Uv (Outward move)) h Go = go plan past cpu mark move h move.copied refl
change_in plan past cpu mark (ctx.Uv (Outward move)) h cmd = refused plan past cpu mark (ctx.Uv (Outward move)) h cmd (record { ctx_is = refl; hand_is = refl; lpid_is = refl }) refl
change_in plan past cpu mark (ctx.Uv (Inward move)) h Go = go_in plan past cpu mark move h move.copied refl
change_in plan past cpu mark (ctx.Uv (Inward move)) h cmd = refused plan past cpu mark (ctx.Uv (Inward move)) h cmd (record { ctx_is = refl; hand_is = refl; lpid_is = refl }) refl
change_in plan past cpu mark (ctx.Uv work) h cmd = refused plan past cpu mark (ctx.Uv work) h cmd (record { ctx_is = refl; hand_is = refl; lpid_is = refl }) refl
change_in plan past cpu mark (ctx.Guest run) h (HLd ra) = refused plan past cpu mark (ctx.Guest run) h (HLd ra) (record { ctx_is = refl; hand_is = refl; lpid_is = refl }) refl
change_in plan past cpu mark (ctx.Guest run) h (HSt ra value) = refused plan past cpu mark (ctx.Guest run) h (HSt ra value) (record { ctx_is = refl; hand_is = refl; lpid_is = refl }) refl
change_in plan past cpu mark (ctx.Guest run) h (HSelect lpid vid) = refused plan past cpu mark (ctx.Guest run) h (HSelect lpid vid) (record { ctx_is = refl; hand_is = refl; lpid_is = refl }) refl
change_in plan past cpu mark (ctx.Guest run) h (HEnter lpid vid value) = refused plan past cpu mark (ctx.Guest run) h (HEnter lpid vid value) (record { ctx_is = refl; hand_is = refl; lpid_is = refl }) refl
change_in plan past cpu mark (ctx.Guest run) h (UPate lpid dw0 dw1) = at_own plan past cpu mark run h (UPate lpid dw0 dw1) refl
change_in plan past cpu mark (ctx.Guest run) h (URegslot lpid start size flags id) = at_own plan past cpu mark run h (URegslot lpid start size flags id) refl
change_in plan past cpu mark (ctx.Guest run) h (UUnregslot lpid id) = at_own plan past cpu mark run h (UUnregslot lpid id) refl
change_in plan past cpu mark (ctx.Guest run) h (UPagein lpid src gpa flags order) = at_own plan past cpu mark run h (UPagein lpid src gpa flags order) refl
change_in plan past cpu mark (ctx.Guest run) h (UPageout lpid dest gpa flags order) = at_own plan past cpu mark run h (UPageout lpid dest gpa flags order) refl
change_in plan past cpu mark (ctx.Guest run) h (UInval lpid gpa order) = at_own plan past cpu mark run h (UInval lpid gpa order) refl
change_in plan past cpu mark (ctx.Guest run) h (UReturn r0 r2 outs) = at_own plan past cpu mark run h (UReturn r0 r2 outs) refl
change_in plan past cpu mark (ctx.Guest run) h (GLi rd value) = at_own plan past cpu mark run h (GLi rd value) refl
change_in plan past cpu mark (ctx.Guest run) h (GAdd rd ra rb) = at_own plan past cpu mark run h (GAdd rd ra rb) refl
change_in plan past cpu mark (ctx.Guest run) h (GXor rd ra rb) = at_own plan past cpu mark run h (GXor rd ra rb) refl
change_in plan past cpu mark (ctx.Guest run) h GHcall = at_own plan past cpu mark run h GHcall refl
change_in plan past cpu mark (ctx.Guest run) h (Dump reg) = at_own plan past cpu mark run h (Dump reg) refl
change_in plan past cpu mark (ctx.Guest run) h (GLd rd gpa) = at_own plan past cpu mark run h (GLd rd gpa) refl
change_in plan past cpu mark (ctx.Guest run) h (GSt rs gpa) = at_own plan past cpu mark run h (GSt rs gpa) refl
change_in plan past cpu mark (ctx.Guest run) h GIrq = at_own plan past cpu mark run h GIrq refl
change_in plan past cpu mark (ctx.Guest run) h Go = refused plan past cpu mark (ctx.Guest run) h Go (record { ctx_is = refl; hand_is = refl; lpid_is = refl }) refl

-- an entry that extends a history makes one of the changes
pub change : (plan : Plan) (past : List Event) (e : Event) → Extends plan past e → Change plan past (cpu_after plan e.trace.cpu past) e
change plan past e extends =
    let cpu : CpuPart = cpu_after plan e.trace.cpu past in
    subst (Change plan past cpu) (sym extends.is) (change_in plan past cpu (mark_of e) cpu.ctx refl e.trace.cmd)
