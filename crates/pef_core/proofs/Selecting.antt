-- What the hypervisor asks of its CPU alone: a vCPU is selected, or the command comes back with a code.
use Rattle.pef_guest.specs.Shows.{ShowsCpu}
use Rattle.std.proofs.Common.{◌≡◌, ℕ, List, slice_index, ◌<◌, ◌≤◌, refl, ap, sym, subst, ◌∙◌, ◌⊎◌, inl, inr, arith}
use Rattle.std.proofs.lemmas.Bool.Decides.{nat_tests}
use Rattle.pef_model.specs.declared.state.Ctx.TheVariants as ctx
use Rattle.pef_model.specs.declared.command.Code.{Code}
use Rattle.pef_model.specs.declared.command.Code.TheVariants.{UParameter, UP2}
use Rattle.pef_model.specs.declared.command.Cmd.{Cmd}
use Rattle.pef_model.specs.declared.command.Cmd.TheVariants.{Dump}
use Rattle.pef_model.specs.declared.entry.Answer.{Answer}
use Rattle.pef_model.specs.declared.entry.Answer.TheVariants as answer
use Rattle.pef_model.specs.Plan.{Plan}
use Rattle.pef_model.specs.Event.{Mark}
use Rattle.pef_model.specs.Cpu.{CpuPart, next_cpu}
use Rattle.pef_model.specs.Registers.{with_code}
use Rattle.pef_model.specs.Target.{Ask}
use Rattle.pef_model.specs.Deed.{answering, answer_select, deed_alone}
use Rattle.pef_model.specs.History.{entry_of, ask_of}
use Rattle.pef_guest.specs.declared.cpu.Cpu.{Cpu}
use Rattle.pef_guest.specs.Refused.{RefusesCpu}
use Rattle.pef_guest.specs.Rows.{ask_hypervisor}
use Rattle.pef_guest.proofs.Asked.{ask_showing, ask_in_hypervisor}
use Rattle.pef_move.specs.PageIn.{RowRead}
use Rattle.pef_core.specs.Does.{DoesOwn, RefusesOwn}

-- the entry of a command of the hypervisor that answers this and leaves its context
abbrev pub LeavesPart : Cmd → Answer → (CpuPart → CpuPart) → Type 0
LeavesPart cmd a change = (c : CpuPart) (mark : Mark) → next_cpu c (entry_of (ask_hypervisor c) mark cmd (answering (ask_hypervisor c) a)) ≡ record (change c) { ctx = ctx.Hv }

-- what it answers, in a machine with so many guests of so many vCPUs each
abbrev pub AnswersAlone : ℕ → ℕ → Cmd → Answer → Type 0
AnswersAlone guests vcpus cmd a = (plan : Plan) → plan.guests ≡ guests → plan.vcpus ≡ vcpus → (c : CpuPart) → (deed_alone plan (ask_showing c cmd) cmd).answer ≡ a

module _ (guests vcpus : ℕ) (cpu cpu_new : Cpu) (hv : cpu.ctx ≡ ctx.Hv) (cmd : Cmd) where
  -- its row, by what it answers
  row_of : (a : Answer) (change : CpuPart → CpuPart) → AnswersAlone guests vcpus cmd a → LeavesPart cmd a change →
      ((c : CpuPart) → ShowsCpu cpu c → ShowsCpu cpu_new (record (change c) { ctx = ctx.Hv })) →
      (plan : Plan) (c : CpuPart) (mark : Mark) → plan.guests ≡ guests → plan.vcpus ≡ vcpus → ShowsCpu cpu c → RowRead c (entry_of (ask_of c cmd) mark cmd (deed_alone plan (ask_of c cmd) cmd)) cpu_new a
  row_of a change is leaves shows_new plan c mark counts sizes shows =
      subst (λ (ask : Ask). RowRead c (entry_of ask mark cmd (deed_alone plan ask cmd)) cpu_new a) (sym (ask_in_hypervisor c cmd (sym shows.ctx ∙ hv)))
      (subst (λ (b : Answer). RowRead c (entry_of (ask_hypervisor c) mark cmd (answering (ask_hypervisor c) b)) cpu_new a) (sym (is plan counts sizes c))
      (record { answered = refl; cpu_is = subst (ShowsCpu cpu_new) (sym (leaves c mark)) (shows_new c shows) }))

  -- it comes back with a code
  pub comes_back : (code : Code) → AnswersAlone guests vcpus cmd (answer.Ret code) →
      LeavesPart cmd (answer.Ret code) (λ c. record c { own = with_code c.own code; last = answer.Ret code }) → cpu_new ≡ record cpu { gpr = with_code cpu.gpr code; last = answer.Ret code } → RefusesCpu cpu cpu_new code →
      DoesOwn guests vcpus cmd cpu cpu_new (answer.Ret code)
  comes_back code is leaves new refuses = record {
    keeps = record { number = refuses.number; ctx = refuses.ctx; selects = inl (refuses.lpid, refuses.vid); hand = refuses.hand };
    refused = subst (λ c. RefusesOwn c cpu cpu_new (answer.Ret code)) (sym hv) refuses;
    row = row_of (answer.Ret code) (λ c. record c { own = with_code c.own code; last = answer.Ret code }) is leaves
        (λ c shows. rw new (record { ctx = hv; own = ap (λ own. with_code own code) shows.own; lpid = shows.lpid; vid = shows.vid; last = refl; hand = shows.hand }));
  }

-- it shows a register
pub shows_one : (guests vcpus : ℕ) (cpu cpu_new : Cpu) (reg : ℕ) → cpu.ctx ≡ ctx.Hv → cpu_new ≡ record cpu { last = answer.Val (slice_index cpu.gpr reg) } →
    DoesOwn guests vcpus (Dump reg) cpu cpu_new (answer.Val (slice_index cpu.gpr reg))
shows_one guests vcpus cpu cpu_new reg hv new = record {
  keeps = rw new (record { number = refl; ctx = refl; selects = inl (refl, refl); hand = refl });
  refused = subst (λ c. RefusesOwn c cpu cpu_new (answer.Val (slice_index cpu.gpr reg))) (sym hv) tt;
  row = λ plan c mark counts sizes shows.
      let value : answer.Val (slice_index cpu.gpr reg) ≡ answer.Val (slice_index c.own reg) = ap (λ (gpr : List ℕ). answer.Val (slice_index gpr reg)) shows.own in
      subst (λ (ask : Ask). RowRead c (entry_of ask mark (Dump reg) (deed_alone plan ask (Dump reg))) cpu_new (answer.Val (slice_index cpu.gpr reg))) (sym (ask_in_hypervisor c (Dump reg) (sym shows.ctx ∙ hv)))
      (record { answered = value; cpu_is = rw new (record { ctx = hv; own = shows.own; lpid = shows.lpid; vid = shows.vid; last = value; hand = shows.hand }) });
}

module _ (guests vcpus lpid vid : ℕ) where
  -- there is no guest of this number
  pub no_guest : (plan : Plan) → plan.guests ≡ guests → (lpid < 1) ⊎ (guests < lpid) → answer_select plan lpid vid ≡ answer.Ret UParameter
  no_guest plan counts (inl none) = grind (arith, nat_tests)
  no_guest plan counts (inr past) = grind (arith, nat_tests)

  -- it has no vCPU of this number
  pub no_vcpu : (plan : Plan) → plan.guests ≡ guests → plan.vcpus ≡ vcpus → 1 ≤ lpid → lpid ≤ guests → vcpus ≤ vid → answer_select plan lpid vid ≡ answer.Ret UP2
  no_vcpu plan counts sizes least most past = grind (arith, nat_tests)

  -- there is the vCPU
  pub selected : (plan : Plan) → plan.guests ≡ guests → plan.vcpus ≡ vcpus → 1 ≤ lpid → lpid ≤ guests → vid < vcpus → answer_select plan lpid vid ≡ answer.Done
  selected plan counts sizes least most below = grind (arith, nat_tests)
