-- Two histories that are alike show the same.
use Rattle.std.proofs.Common.{◌≡◌, ℕ, zero, suc, ◌-◌, List, [], ◌∷◌, length, drop, Bool, true, false, refl, ap, sym, subst, ◌∙◌, ◌==◌, nat_lt, if◌then◌else◌, Some, slice_index, Option, None}
use Rattle.std.specs.Prelude.{◌^◌, IsTrue}
use Rattle.std.specs.List.{list_any, AllByRecursion}
use Rattle.pef_model.specs.declared.config.Config.{Config}
use Rattle.pef_model.specs.declared.state.Phase.{Phase}
use Rattle.pef_model.specs.declared.state.Phase.TheVariants.{Normal}
use Rattle.pef_model.specs.declared.state.Run.{Run}
use Rattle.pef_model.specs.declared.state.Ctx.{Ctx}
use Rattle.pef_model.specs.declared.state.Ctx.TheVariants as ctx
use Rattle.pef_model.specs.declared.command.Cmd.{Cmd}
use Rattle.pef_model.specs.declared.command.Cmd.TheVariants.{HLd, HSt, HSelect, HEnter, GLd, GSt, GIrq, Go, GHcall}
use Rattle.pef_model.specs.declared.entry.Answer.{Answer}
use Rattle.pef_model.specs.declared.entry.Answer.TheVariants.{Done, Val}
use Rattle.pef_model.specs.Plan.{Plan, plan_of, with_entropy}
use Rattle.pef_model.specs.Seal.{vault_image, stream_image, image as image_by}
use Rattle.pef_model.specs.Event.{Event, mark_of, first}
use Rattle.pef_model.specs.Target.{Ask, target_in, touches_cpu, touches_guest, touches_pool, touches_frame}
use Rattle.pef_model.specs.Cpu.{CpuPart, start_cpu, next_cpu}
use Rattle.pef_model.specs.GuestPart.{GuestPart, Meeting, Unbacked, meets, start_part, next_part}
use Rattle.pef_model.specs.Memory.{writes_of, start_pool, next_pool, start_frame, next_frame, offset_of, either_of}
use Rattle.pef_model.specs.Guest.{Guest}
use Rattle.pef_model.specs.Deed.{deed_access, deed_interrupt, deed_running, deed_gone, deed_hypercall, deed_by_row, deed_by_kind}
use Rattle.pef_model.specs.History.{public_state, cpu_after, guest_after, pool_after, ask_of, deed_after, next_entry_by, IsLegal, found_after}
use Rattle.pef_model.specs.Report.{command_name}
use Rattle.pef_model.specs.SecretLaw.{open_cmd, open_answer, open_answer_of_guest, SecretsStayIn}
use Rattle.pef_model.proofs.FrameOpen.{writes_open}
use Rattle.pef_model.specs.View.{SeenStep, Sight, if_hypervisor, sight, view}
use Rattle.pef_model.specs.Alike.{AgreeButWords, AreAlikeOpen, AllAlikeOpen, SealedBytesAgree, begins_sealing, AlikeShowTheSame, OpenIsAlike, UnsealedIsAlike}
use Rattle.pef_model.proofs.Opened.{name_open}
use Rattle.pef_model.proofs.Secrets.{no_secret_in_one_entry, agree_more, part_after}
use Rattle.pef_model.proofs.Deeds.{IsShut}
use Rattle.pef_model.proofs.AlikeEntries.{IsNext, unstamped, opened, Same, entries_shut, sealed_agree, entries_agree}
use Rattle.pef_model.specs.declared.hypercall.Row.{Row}
use Rattle.pef_model.specs.declared.hypercall.RowKind.{RowKind}
use Rattle.pef_model.specs.declared.hypercall.RowKind.TheVariants.{Reflected}
use Rattle.pef_model.specs.declared.hypercall.TheConstants.{HCALLS}
use Rattle.pef_model.specs.Hypercalls.{row_of}

-- a step of a guest after which the hypervisor runs gives no value
running_gives_none : (plan : Plan) (past : List Event) (run : Run) (l v : ℕ) (last : Answer) (hand : List ℕ) (register : ℕ) (cmd : Cmd) →
    (deed_after plan past (record { before = ctx.Guest run; lpid = l; vid = v; last = last; hand = hand; register = register }) cmd (target_in plan (ctx.Guest run) l cmd)).after ≡ ctx.Hv →
    open_answer_of_guest (deed_after plan past (record { before = ctx.Guest run; lpid = l; vid = v; last = last; hand = hand; register = register }) cmd (target_in plan (ctx.Guest run) l cmd)).answer
    ≡ (deed_after plan past (record { before = ctx.Guest run; lpid = l; vid = v; last = last; hand = hand; register = register }) cmd (target_in plan (ctx.Guest run) l cmd)).answer
running_gives_none plan past run l v last hand register cmd = by_command cmd where
  ask : Ask
  ask = record { before = ctx.Guest run; lpid = l; vid = v; last = last; hand = hand; register = register }

  g : Guest
  g = guest_after plan run.lpid past

  free : Bool
  free = nat_lt 0 (pool_after plan past)

  by_reach : (success : Answer) (through : ℕ → Answer) (out : List ℕ) (any : Bool) (m : Meeting) → (deed_access ask success through out any m).after ≡ ctx.Hv → open_answer_of_guest (deed_access ask success through out any m).answer ≡ (deed_access ask success through out any m).answer
  by_reach success through out true Unbacked h = cc
  by_reach success through out false Unbacked h = cc
  by_reach success through out any m h = cc

  by_interrupt : (gpr : List ℕ) (p : Phase) → open_answer_of_guest (deed_interrupt p gpr ask).answer ≡ (deed_interrupt p gpr ask).answer
  by_interrupt gpr Normal = refl
  by_interrupt gpr p = refl

  by_call : (gpr : List ℕ) (p : Phase) → (deed_hypercall g.part.words p gpr ask).after ≡ ctx.Hv → open_answer_of_guest (deed_hypercall g.part.words p gpr ask).answer ≡ (deed_hypercall g.part.words p gpr ask).answer
  by_call gpr Normal h = refl
  by_call gpr p h = by_row (row_of HCALLS (slice_index gpr 3)) h where
    by_kind : (kind : RowKind) (row : Row) → open_answer_of_guest (deed_by_kind g.part.words kind ask gpr row).answer ≡ (deed_by_kind g.part.words kind ask gpr row).answer
    by_kind Reflected row = refl
    by_kind kind row = refl

    by_row : (row : Option Row) → (deed_by_row g.part.words ask gpr row).after ≡ ctx.Hv → open_answer_of_guest (deed_by_row g.part.words ask gpr row).answer ≡ (deed_by_row g.part.words ask gpr row).answer
    by_row (Some row) h = by_kind row.kind row
    by_row None h = refl

  by_running : (cmd : Cmd) → (deed_running plan run g (found_after plan past) free ask cmd).after ≡ ctx.Hv → open_answer_of_guest (deed_running plan run g (found_after plan past) free ask cmd).answer ≡ (deed_running plan run g (found_after plan past) free ask cmd).answer
  by_running (GLd rd gpa) h = by_reach (Val (g.content gpa)) (λ n. Val (found_after plan past n (offset_of plan gpa))) [] free (meets plan g.part gpa) h
  by_running (GSt rs gpa) h = by_reach Done (λ n. Done) (slice_index (g.registers run.vid).gpr rs ∷ []) free (meets plan g.part gpa) h
  by_running GIrq h = by_interrupt (g.registers run.vid).gpr g.part.phase
  by_running GHcall h = by_call (g.registers run.vid).gpr g.part.phase h
  by_running cmd h = cc

  by_generation : (cmd : Cmd) (b : Bool) → (if b then deed_running plan run g (found_after plan past) free ask cmd else deed_gone ask).after ≡ ctx.Hv →
      open_answer_of_guest (if b then deed_running plan run g (found_after plan past) free ask cmd else deed_gone ask).answer ≡ (if b then deed_running plan run g (found_after plan past) free ask cmd else deed_gone ask).answer
  by_generation cmd true h = by_running cmd h
  by_generation cmd false h = refl

  by_command : (cmd : Cmd) → (deed_after plan past ask cmd (target_in plan (ctx.Guest run) l cmd)).after ≡ ctx.Hv →
      open_answer_of_guest (deed_after plan past ask cmd (target_in plan (ctx.Guest run) l cmd)).answer ≡ (deed_after plan past ask cmd (target_in plan (ctx.Guest run) l cmd)).answer
  by_command (HLd ra) h = refl
  by_command (HSt ra value) h = refl
  by_command (HSelect lpid vid) h = refl
  by_command (HEnter lpid vid value) h = refl
  by_command Go h = refl
  by_command cmd h = by_generation cmd (run.generation == g.part.generation) h

gives_none : (plan : Plan) (past : List Event) (e : Event) → IsNext plan past e → e.saw.after ≡ ctx.Hv → open_answer e.saw.before e.trace.answer ≡ e.trace.answer
gives_none plan past e extends after = by_ctx e.saw.before refl where
  ask : Ask
  ask = ask_of (cpu_after plan e.trace.cpu past) e.trace.cmd

  by_ctx : (c : Ctx) → e.saw.before ≡ c → open_answer c e.trace.answer ≡ e.trace.answer
  by_ctx ctx.Hv before = refl
  by_ctx (ctx.Uv work) before = refl
  by_ctx (ctx.Guest run) before =
      let running : Ask = record { before = ctx.Guest run; lpid = ask.lpid; vid = ask.vid; last = ask.last; hand = ask.hand; register = ask.register } in
      let is : ask.before ≡ ctx.Guest run = ap (λ (x : Event). x.saw.before) (sym extends) ∙ before in
      let same : ask ≡ running = (λ i. record { before = is i; lpid = ask.lpid; vid = ask.vid; last = ask.last; hand = ask.hand; register = ask.register }) in
      let entry : e ≡ next_entry_by plan past running (mark_of e) e.trace.cmd = extends ∙ ap (λ (a : Ask). next_entry_by plan past a (mark_of e) e.trace.cmd) same in
      ap (λ (x : Event). open_answer_of_guest x.trace.answer) entry
      ∙ running_gives_none plan past run ask.lpid ask.vid ask.last ask.hand ask.register e.trace.cmd (sym (ap (λ (x : Event). x.saw.after) entry) ∙ after)
      ∙ sym (ap (λ (x : Event). x.trace.answer) entry)

-- a step is shown where the hypervisor runs before it or after it
shown_alike : (before after : Ctx) (s t : SeenStep) → (before ≡ ctx.Hv → s ≡ t) → (after ≡ ctx.Hv → s ≡ t) →
    either_of (if_hypervisor before s) (if_hypervisor after s) ≡ either_of (if_hypervisor before t) (if_hypervisor after t)
shown_alike ctx.Hv after s t h k = ap (λ (x : SeenStep). Some x) (h refl)
shown_alike (ctx.Uv work) ctx.Hv s t h k = ap (λ (x : SeenStep). Some x) (k refl)
shown_alike (ctx.Guest run) ctx.Hv s t h k = ap (λ (x : SeenStep). Some x) (k refl)
shown_alike before after s t h k = refl

module _ (plan : Plan) (words : ℕ → List ℕ) (past history : List Event) (e f : Event) (same : Same plan words past history) (p : IsNext plan past e) (q : IsNext (with_entropy plan words) history f) (alike : AreAlikeOpen e f)
    (sealed : begins_sealing e ≡ true → e.bytes ≡ f.bytes) where
  alike_opened : opened e ≡ opened f
  alike_opened = entries_agree plan words past history e f same p q alike sealed

  law : SecretsStayIn plan (unstamped e) (unstamped f)
  law = no_secret_in_one_entry plan (unstamped e) (unstamped f) alike_opened

  -- stamps count for no object
  cpu_unstamped : (x : Event) (cpu : CpuPart) → next_cpu cpu x ≡ next_cpu cpu (unstamped x)
  cpu_unstamped x cpu = refl

  part_unstamped : (x : Event) (g : GuestPart) → next_part plan g x ≡ next_part plan g (unstamped x)
  part_unstamped x g = refl

  cpu_more : (n : ℕ) → cpu_after plan n (e ∷ past) ≡ cpu_after (with_entropy plan words) n (f ∷ history)
  cpu_more n =
      agree_more (touches_cpu n) next_cpu (start_cpu plan) e f past history (law.touches_cpu n)
      (λ (cpu : CpuPart). cpu_unstamped e cpu ∙ law.cpu cpu ∙ sym (cpu_unstamped f cpu)) (same.cpu n)

  part_more : (lpid : ℕ) → (guest_after plan lpid (e ∷ past)).part ≡ (guest_after (with_entropy plan words) lpid (f ∷ history)).part
  part_more lpid =
      part_after plan lpid (e ∷ past)
      ∙ agree_more (touches_guest plan lpid) (next_part plan) (start_part plan lpid) e f past history (law.touches_guest lpid)
      (λ (g : GuestPart). part_unstamped e g ∙ law.guest g ∙ sym (part_unstamped f g))
      (sym (part_after plan lpid past) ∙ same.part lpid ∙ part_after (with_entropy plan words) lpid history)
      ∙ sym (part_after (with_entropy plan words) lpid (f ∷ history))

  before : e.saw.before ≡ f.saw.before
  before = ap (λ (x : Event). x.saw.before) alike_opened

  after : e.saw.after ≡ f.saw.after
  after = ap (λ (x : Event). x.saw.after) alike_opened

  answers : open_answer e.saw.before e.trace.answer ≡ open_answer f.saw.before f.trace.answer
  answers = ap (λ (x : Event). x.trace.answer) alike_opened

  cmds : open_cmd e.trace.cmd ≡ open_cmd f.trace.cmd
  cmds = alike.cmd

  step : Event → SeenStep
  step x = record { line = x.trace.line; cpu = x.trace.cpu; command = command_name x.trace.cmd; answer = x.trace.answer }

  steps : e.trace.answer ≡ f.trace.answer → step e ≡ step f
  unfolding step
  steps answer =
      let name : command_name e.trace.cmd ≡ command_name f.trace.cmd = name_open e.trace.cmd ∙ ap command_name cmds ∙ sym (name_open f.trace.cmd) in
      (λ i. record { line = alike.line i; cpu = alike.cpu i; command = name i; answer = answer i })

  from_hypervisor : e.saw.before ≡ ctx.Hv → step e ≡ step f
  from_hypervisor h =
      steps (ap (λ (c : Ctx). open_answer c e.trace.answer) (sym h) ∙ answers ∙ ap (λ (c : Ctx). open_answer c f.trace.answer) (sym before ∙ h))

  to_hypervisor : e.saw.after ≡ ctx.Hv → step e ≡ step f
  to_hypervisor h = steps (sym (gives_none plan past e p h) ∙ answers ∙ gives_none (with_entropy plan words) history f q (sym after ∙ h))

  sights : sight plan past e ≡ sight (with_entropy plan words) history f
  unfolding step
  sights =
      let shown = shown_alike e.saw.before e.saw.after (step e) (step f) from_hypervisor to_hypervisor
      ∙ ap (λ (c : Ctx). either_of (if_hypervisor c (step f)) (if_hypervisor e.saw.after (step f))) before
      ∙ ap (λ (c : Ctx). either_of (if_hypervisor f.saw.before (step f)) (if_hypervisor c (step f))) after in
      let registers : if_hypervisor e.saw.after (cpu_after plan e.trace.cpu (e ∷ past)).own ≡ if_hypervisor f.saw.after (cpu_after (with_entropy plan words) f.trace.cpu (f ∷ history)).own =
      ap (λ (cpu : CpuPart). if_hypervisor e.saw.after cpu.own) (cpu_more e.trace.cpu ∙ ap (λ (n : ℕ). cpu_after (with_entropy plan words) n (f ∷ history)) alike.cpu)
      ∙ ap (λ (c : Ctx). if_hypervisor c (cpu_after (with_entropy plan words) f.trace.cpu (f ∷ history)).own) after in
      let writes : writes_of plan e ≡ writes_of plan f =
      writes_open plan.shift e.saw.before e.trace.cmd e.trace.answer e.bytes e.saw.frame
      ∙ ap (λ (x : Event). writes_of plan x) alike_opened
      ∙ sym (writes_open plan.shift f.saw.before f.trace.cmd f.trace.answer f.bytes f.saw.frame) in
      (λ i. record { step = shown i; registers = registers i; writes = writes i })

  pub one_more : Same plan words (e ∷ past) (f ∷ history)
  one_more = record {
    cpu = cpu_more;
    part = part_more;
    pool = agree_more touches_pool next_pool (start_pool plan) e f past history law.touches_pool law.pool same.pool;
    frame = λ n. agree_more (touches_frame n) (next_frame plan n) (start_frame plan) e f past history (law.touches_frame n) (law.frame n) (same.frame n);
    seen = ap (λ (s : Sight). s ∷ view plan past) sights ∙ ap (λ (xs : List Sight). sight (with_entropy plan words) history f ∷ xs) same.seen;
  }

-- two legal histories that are alike have as much in common, by induction on both
pub same_so_far : (plan : Plan) (words : ℕ → List ℕ) (past history : List Event) → IsLegal plan past → IsLegal (with_entropy plan words) history → AllAlikeOpen past history → SealedBytesAgree plan past history → Same plan words past history
same_so_far plan words [] [] p q alike sealed = record { cpu = λ n. refl; part = λ lpid. refl; pool = refl; frame = λ n. refl; seen = refl }
same_so_far plan words [] (f ∷ history) p q alike sealed = absurd alike
same_so_far plan words (e ∷ past) [] p q alike sealed = absurd alike
same_so_far plan words (e ∷ past) (f ∷ history) p q alike sealed =
    let same = same_so_far plan words past history p.1 q.1 alike.1 sealed.1 in
    one_more plan words past history e f same p.0.is q.0.is alike.0 (sealed_agree plan words past history e f same p.0.is q.0.is alike.0 sealed.0)

-- a prefix of a legal history is legal, and prefixes of alike histories are alike
legal_prefix : (plan : Plan) (n : ℕ) (past : List Event) → IsLegal plan past → IsLegal plan (drop n past)
legal_prefix plan zero past h = h
legal_prefix plan (suc n) [] h = tt
legal_prefix plan (suc n) (e ∷ past) h = legal_prefix plan n past h.1

pub alike_prefix : (n : ℕ) (past history : List Event) → AllAlikeOpen past history → AllAlikeOpen (drop n past) (drop n history)
alike_prefix zero past history h = h
alike_prefix (suc n) [] [] h = tt
alike_prefix (suc n) [] (f ∷ history) h = absurd h
alike_prefix (suc n) (e ∷ past) [] h = absurd h
alike_prefix (suc n) (e ∷ past) (f ∷ history) h = alike_prefix n past history h.1

pub sealed_prefix : (plan : Plan) (n : ℕ) (past history : List Event) → SealedBytesAgree plan past history → SealedBytesAgree plan (drop n past) (drop n history)
sealed_prefix plan zero past history h = h
sealed_prefix plan (suc n) [] [] h = tt
sealed_prefix plan (suc n) [] (f ∷ history) h = tt
sealed_prefix plan (suc n) (e ∷ past) [] h = nothing_sealed (drop n past) where
  nothing_sealed : (past : List Event) → SealedBytesAgree plan past []
  nothing_sealed [] = tt
  nothing_sealed (e ∷ past) = tt
sealed_prefix plan (suc n) (e ∷ past) (f ∷ history) h = sealed_prefix plan n past history h.1

pub length_alike : (past history : List Event) → AllAlikeOpen past history → length past ≡ length history
length_alike [] [] h = refl
length_alike [] (f ∷ history) h = absurd h
length_alike (e ∷ past) [] h = absurd h
length_alike (e ∷ past) (f ∷ history) h = ap suc (length_alike past history h.1)

-- configurations that agree but for the entropy words have plans that do
pub one_plan : (one other : Config) → AgreeButWords one other → with_entropy (plan_of one) (plan_of other).entropy ≡ plan_of other
one_plan one other agree = (λ i. record {
  shift = (agree.same i).shift;
  normal = (agree.same i).normal;
  secure = (agree.same i).secure;
  cpus = (agree.same i).cpus;
  guests = (agree.same i).guests;
  vcpus = (agree.same i).vcpus;
  pages = (agree.same i).pages;
  image = image_by (agree.same i);
  is_born = λ lpid. list_any (λ born. born == lpid) (agree.same i).born;
  words = λ lpid. agree.words lpid i;
  entropy = (plan_of other).entropy;
})

pub alike_show_the_same : AlikeShowTheSame
alike_show_the_same one other past history k alike legal legal_too =
    let plan : Plan = plan_of one in
    let words : ℕ → List ℕ = (plan_of other).entropy in
    let plans : with_entropy plan words ≡ plan_of other = one_plan one other alike.open_.configs in
    let n : ℕ = length past - k in
    let there : first k history ≡ drop n history = ap (λ (m : ℕ). drop (m - k) history) (sym (length_alike past history alike.open_.entries)) in
    let same : Same plan words (drop n past) (drop n history) =
    same_so_far plan words (drop n past) (drop n history) (legal_prefix plan n past legal)
    (legal_prefix (with_entropy plan words) n history (subst (λ (x : Plan). IsLegal x history) (sym plans) legal_too))
    (alike_prefix n past history alike.open_.entries) (sealed_prefix plan n past history alike.sealed) in
    record {
      state = (λ i. record { cpus = λ m. same.cpu m i; guests = λ lpid. same.part lpid i; pool = same.pool i; frames = λ m. same.frame m i })
          ∙ ap (λ (x : Plan). public_state x (drop n history)) plans ∙ ap (public_state (plan_of other)) (sym there);
      seen = same.seen ∙ ap (λ (x : Plan). view x (drop n history)) plans ∙ ap (view (plan_of other)) (sym there);
    }

-- a vault's image is the tag and zeros
pub vault_is_shut : (config : Config) → IsTrue config.vault → IsShut (plan_of config)
vault_is_shut config vault tag one other = by_test config.vault vault where
  by_test : (b : Bool) → IsTrue b →
      (if b then vault_image (2 ^ config.shift) tag else stream_image config.key tag one) ≡ (if b then vault_image (2 ^ config.shift) tag else stream_image config.key tag other)
  by_test true h = refl
  by_test false h = cc

-- alike histories of a vault show the same, and what they seal is the same
shut_so_far : (plan : Plan) (words : ℕ → List ℕ) → IsShut plan → (past history : List Event) → IsLegal plan past → IsLegal (with_entropy plan words) history → AllAlikeOpen past history → Same plan words past history × SealedBytesAgree plan past history
shut_so_far plan words shut [] [] p q alike = (record { cpu = λ n. refl; part = λ lpid. refl; pool = refl; frame = λ n. refl; seen = refl }, tt)
shut_so_far plan words shut [] (f ∷ history) p q alike = absurd alike
shut_so_far plan words shut (e ∷ past) [] p q alike = absurd alike
shut_so_far plan words shut (e ∷ past) (f ∷ history) p q alike =
    let before : Same plan words past history × SealedBytesAgree plan past history = shut_so_far plan words shut past history p.1 q.1 alike.1 in
    let sealed : begins_sealing e ≡ true → e.bytes ≡ f.bytes = (λ h. entries_shut plan words past history e f before.0 p.0.is q.0.is alike.0 shut) in
    (one_more plan words past history e f before.0 p.0.is q.0.is alike.0 sealed, ((λ begins private. sealed begins), before.1))

pub open_is_alike : OpenIsAlike
open_is_alike one other past history vault legal legal_too alike =
    let words : ℕ → List ℕ = (plan_of other).entropy in
    let same : Same (plan_of one) words past history × SealedBytesAgree (plan_of one) past history =
    shut_so_far (plan_of one) words (vault_is_shut one vault) past history legal (subst (λ (x : Plan). IsLegal x history) (sym (one_plan one other alike.configs)) legal_too) alike.entries in
    record { open_ = alike; sealed = same.1 }

pub unsealed_is_alike : UnsealedIsAlike
unsealed_is_alike one other past history unsealed alike = record { open_ = alike; sealed = agree past history unsealed } where
  agree : (xs ys : List Event) → AllByRecursion (λ (e : Event). begins_sealing e ≡ false) xs → SealedBytesAgree (plan_of one) xs ys
  agree [] ys h = tt
  agree (x ∷ xs) [] h = tt
  agree (x ∷ xs) (y ∷ ys) h = ((λ sealing private. cc), agree xs ys h.1)
