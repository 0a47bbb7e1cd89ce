use Rattle.std.specs.Prelude.{slice_get}
use Rattle.std.proofs.Common.{◌≡◌, ℕ, List, length, false, Some, None, refl, ap, sym, ◌∙◌, slice_index}
use Rattle.pef_model.specs.declared.hypercall.TheConstants.{HCALLS}
use Rattle.pef_model.specs.declared.hypercall.Row.{Row}
use Rattle.pef_model.specs.declared.hypercall.RowKind.TheVariants.{Reflected, Local, Svm}
use Rattle.pef_model.specs.declared.state.Regs.{Regs}
use Rattle.pef_model.specs.declared.command.Code.TheVariants.{HFunction, HUnsupported, HHardware}
use Rattle.pef_model.specs.declared.entry.Exit.TheVariants.{Hcall}
use Rattle.pef_model.specs.Hypercalls.{row_of, let_out_by}
use Rattle.pef_model.specs.Entry.{may_enter_in}
use Rattle.pef_model.specs.Deed.{deed_answered}
use Rattle.pef_regs.specs.declared.vcpu.Vcpu.{Vcpu}
use Rattle.pef_guest.specs.Shows.{vcpu_at}
use Rattle.pef_guest.proofs.OneVcpu.{is_at}
use Rattle.pef_reflect.proofs.CallRow.{by_none, by_row, none_left, some_left, leaves, answers_here, given_here}
use Rattle.pef_reflect.proofs.call.hypercall.Goals as goal

-- no row has the number
pub returns-in_default : goal.returns-in_default
returns-in_default g c pool =
    let vcpu : c.index_mut-vcpu.result.now ≡ vcpu_at c.args.guest.now c.args.run.vid = is_at c.args.guest.now c.args.run.vid c.index_mut-vcpu.result.now c.requires.runs.vid c.index_mut-vcpu.ensures.value in
    let shut : may_enter_in c.args.guest.now.phase ≡ false = sym c.may_enter-open.ensures ∙ c.if-open.false in
    let unknown : row_of HCALLS (slice_index (vcpu_at c.args.guest.now c.args.run.vid).regs.gpr 3) ≡ None =
    ap (λ (v : Vcpu). row_of HCALLS (slice_index v.regs.gpr 3)) (sym vcpu)
    ∙ ap (λ (rows : List Row). row_of rows (slice_index c.index_mut-vcpu.result.now.regs.gpr 3)) (sym c.hcalls.ensures) ∙ sym c.row.ensures.row ∙ c.in_default.is in
    rw c.answered.ensures.answer
    (answers_here g.S.Seal.takes g.S.Seal.stands g.S.Seal.image c.args.guest.now c.args.cpu.now pool c.args.run c.requires.runs c.requires.whole c.index_mut-vcpu.result.now c.answered.new.vcpu HFunction
    c.index_mut-vcpu.ensures.value c.answered.ensures.refused c.answered.ensures.vcpu (λ plan whole part mark. refl) (by_none (length c.args.guest.now.words) c.args.guest.now.phase (vcpu_at c.args.guest.now c.args.run.vid).regs.gpr shut unknown))

-- the hypervisor answers it
pub returns-in-Reflected : goal.returns-in-Reflected
returns-in-Reflected g c pool =
    let vcpu : c.index_mut-vcpu.result.now ≡ vcpu_at c.args.guest.now c.args.run.vid = is_at c.args.guest.now c.args.run.vid c.index_mut-vcpu.result.now c.requires.runs.vid c.index_mut-vcpu.ensures.value in
    let gpr : List ℕ = (vcpu_at c.args.guest.now c.args.run.vid).regs.gpr in
    let shut : may_enter_in c.args.guest.now.phase ≡ false = sym c.may_enter-open.ensures ∙ c.if-open.false in
    let known : row_of HCALLS (slice_index gpr 3) ≡ Some c.in-Some.row =
    ap (λ (v : Vcpu). row_of HCALLS (slice_index v.regs.gpr 3)) (sym vcpu)
    ∙ ap (λ (rows : List Row). row_of rows (slice_index c.index_mut-vcpu.result.now.regs.gpr 3)) (sym c.hcalls.ensures) ∙ sym c.row.ensures.row ∙ c.in-Some.is in
    rw (c.leave_scrubbed.ensures.answer, c.leave_scrubbed.ensures.vcpu, c.leave_scrubbed.ensures.cpu, vcpu)
    (leaves g.S.Seal.takes g.S.Seal.stands g.S.Seal.image c.args.guest.now c.args.cpu.now pool c.args.run c.requires.runs c.requires.whole (Hcall c.in-Some.row.number) (let_out_by c.in-Some.row gpr) (λ (regs : Regs). regs)
    (by_row (length c.args.guest.now.words) c.args.guest.now.phase gpr c.in-Some.row Reflected shut known c.in-Reflected.is) (λ plan whole part mark. refl))

-- the ultravisor does, and gives the next word
pub returns-in-Some-draw : goal.returns-in-Some-draw
returns-in-Some-draw g c pool =
    let vcpu : c.index_mut-vcpu.result.now ≡ vcpu_at c.args.guest.now c.args.run.vid = is_at c.args.guest.now c.args.run.vid c.index_mut-vcpu.result.now c.requires.runs.vid c.index_mut-vcpu.ensures.value in
    let gpr : List ℕ = (vcpu_at c.args.guest.now c.args.run.vid).regs.gpr in
    let shut : may_enter_in c.args.guest.now.phase ≡ false = sym c.may_enter-open.ensures ∙ c.if-open.false in
    let known : row_of HCALLS (slice_index gpr 3) ≡ Some c.in-Some.row =
    ap (λ (v : Vcpu). row_of HCALLS (slice_index v.regs.gpr 3)) (sym vcpu)
    ∙ ap (λ (rows : List Row). row_of rows (slice_index c.index_mut-vcpu.result.now.regs.gpr 3)) (sym c.hcalls.ensures)
    ∙ sym c.row.ensures.row
    ∙ c.in-Some.is in
    let first : slice_get c.args.guest.now.words 0 ≡ Some c.in-Some-draw.word = sym c.draw.ensures.word ∙ c.in-Some-draw.is in
    rw (c.given.ensures.answer, c.draw.ensures.left)
    (given_here g.S.Seal.takes g.S.Seal.stands g.S.Seal.image c.args.guest.now c.args.cpu.now pool c.args.run c.requires.runs c.requires.whole c.index_mut-vcpu.result.now c.given.new.vcpu c.in-Some-draw.word
    c.index_mut-vcpu.ensures.value first c.given.ensures.vcpu
    (λ ask. by_row (length c.args.guest.now.words) c.args.guest.now.phase gpr c.in-Some.row Local shut known c.in-Local.is ask ∙ ap (deed_answered ask gpr) (some_left c.args.guest.now.words c.in-Some-draw.word first)))

-- it has no word left
pub returns-in-None : goal.returns-in-None
returns-in-None g c pool =
    let vcpu : c.index_mut-vcpu.result.now ≡ vcpu_at c.args.guest.now c.args.run.vid = is_at c.args.guest.now c.args.run.vid c.index_mut-vcpu.result.now c.requires.runs.vid c.index_mut-vcpu.ensures.value in
    let gpr : List ℕ = (vcpu_at c.args.guest.now c.args.run.vid).regs.gpr in
    let shut : may_enter_in c.args.guest.now.phase ≡ false = sym c.may_enter-open.ensures ∙ c.if-open.false in
    let known : row_of HCALLS (slice_index gpr 3) ≡ Some c.in-Some.row =
    ap (λ (v : Vcpu). row_of HCALLS (slice_index v.regs.gpr 3)) (sym vcpu)
    ∙ ap (λ (rows : List Row). row_of rows (slice_index c.index_mut-vcpu.result.now.regs.gpr 3)) (sym c.hcalls.ensures)
    ∙ sym c.row.ensures.row
    ∙ c.in-Some.is in
    rw (c.answered-in-None.ensures.answer, c.draw.ensures.ended c.in-None.is)
    (answers_here g.S.Seal.takes g.S.Seal.stands g.S.Seal.image c.args.guest.now c.args.cpu.now pool c.args.run c.requires.runs c.requires.whole c.index_mut-vcpu.result.now c.answered-in-None.new.vcpu HHardware
    c.index_mut-vcpu.ensures.value c.answered-in-None.ensures.refused c.answered-in-None.ensures.vcpu (λ plan whole part mark. refl)
    (λ ask. by_row (length c.args.guest.now.words) c.args.guest.now.phase gpr c.in-Some.row Local shut known c.in-Local.is ask ∙ ap (deed_answered ask gpr) (none_left c.args.guest.now.words (sym c.draw.ensures.word ∙ c.in-None.is))))

-- it is the ultravisor's own
pub returns-in-Svm : goal.returns-in-Svm
returns-in-Svm g c pool =
    let vcpu : c.index_mut-vcpu.result.now ≡ vcpu_at c.args.guest.now c.args.run.vid = is_at c.args.guest.now c.args.run.vid c.index_mut-vcpu.result.now c.requires.runs.vid c.index_mut-vcpu.ensures.value in
    let gpr : List ℕ = (vcpu_at c.args.guest.now c.args.run.vid).regs.gpr in
    let shut : may_enter_in c.args.guest.now.phase ≡ false = sym c.may_enter-open.ensures ∙ c.if-open.false in
    let known : row_of HCALLS (slice_index gpr 3) ≡ Some c.in-Some.row =
    ap (λ (v : Vcpu). row_of HCALLS (slice_index v.regs.gpr 3)) (sym vcpu)
    ∙ ap (λ (rows : List Row). row_of rows (slice_index c.index_mut-vcpu.result.now.regs.gpr 3)) (sym c.hcalls.ensures) ∙ sym c.row.ensures.row ∙ c.in-Some.is in
    rw c.answered-in-Svm.ensures.answer
    (answers_here g.S.Seal.takes g.S.Seal.stands g.S.Seal.image c.args.guest.now c.args.cpu.now pool c.args.run c.requires.runs c.requires.whole c.index_mut-vcpu.result.now c.answered-in-Svm.new.vcpu HUnsupported
    c.index_mut-vcpu.ensures.value c.answered-in-Svm.ensures.refused c.answered-in-Svm.ensures.vcpu (λ plan whole part mark. refl) (by_row (length c.args.guest.now.words) c.args.guest.now.phase gpr c.in-Some.row Svm shut known c.in-Svm.is))
