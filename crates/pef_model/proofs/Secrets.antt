-- What an entry makes of the public state doesn't depend on what a guest alone knows.
use Rattle.std.proofs.Common.{Option, ◌≡◌, ℕ, Bool, true, false, List, [], ◌∷◌, map, refl, ap, sym, ◌∙◌, if◌then◌else◌}
use Rattle.pef_model.specs.declared.state.Work.TheVariants.{Inward}
use Rattle.pef_model.specs.declared.state.Ctx.{Ctx}
use Rattle.pef_model.specs.declared.state.Ctx.TheVariants as ctx
use Rattle.pef_model.specs.declared.command.Cmd.{Cmd}
use Rattle.pef_model.specs.declared.command.Cmd.TheVariants.{GLi, GLd}
use Rattle.pef_model.specs.declared.entry.Answer.{Answer}
use Rattle.pef_model.specs.declared.entry.Answer.TheVariants.{Val, Ret, Exit, Done, Enter, Step}
use Rattle.pef_model.specs.declared.entry.PoolSaw.{PoolSaw}
use Rattle.pef_model.specs.Plan.{Plan}
use Rattle.pef_model.specs.Event.{Event, value_after}
use Rattle.pef_model.specs.Target.{is_guest, touches_cpu, touches_guest, touches_pool, touches_frame, takes_bytes}
use Rattle.pef_model.specs.Cpu.{start_cpu, CpuPart, next_cpu, cpu_in, cpu_of_guest, own_after, last_after, selecting}
use Rattle.pef_model.specs.GuestPart.{start_part, GuestPart, part_in, next_part}
use Rattle.pef_model.specs.Memory.{start_pool, next_pool, start_frame, next_frame, after_writes}
use Rattle.pef_model.proofs.FrameOpen.{writes_open}
use Rattle.pef_model.specs.Guest.{Guest, start_guest, next_guest}
use Rattle.pef_model.specs.declared.state.Run.{Run}
use Rattle.pef_model.specs.History.{cpu_after, guest_after, pool_after, frame_after}
use Rattle.pef_model.proofs.Folds.{counts, skips}
use Rattle.pef_model.proofs.Opened.{target_open}
use Rattle.pef_model.specs.SecretLaw.{SecretsStayIn, NoSecretInOneEntry, open_cmd, open_answer, open_answer_of_guest, open_entry, NoSecretInPublicState}

own_open : (own : List ℕ) (cmd : Cmd) (a : Answer) → own_after own cmd a ≡ own_after own (open_cmd cmd) a
own_open own (GLi rd value) a = refl
own_open own cmd a = refl

cpu_guest_open : (cpu : CpuPart) (run : Run) (a : Answer) (shown : List ℕ) → cpu_of_guest cpu run a shown ≡ cpu_of_guest cpu run (open_answer_of_guest a) shown
cpu_guest_open cpu run (Val value) shown = refl
cpu_guest_open cpu run a shown = refl

selecting_open : (cpu : CpuPart) (cmd : Cmd) (a : Answer) → selecting cpu cmd a ≡ selecting cpu (open_cmd cmd) a
selecting_open cpu (GLi rd value) a = refl
selecting_open cpu cmd a = refl

cpu_in_open : (cpu : CpuPart) (c : Ctx) (cmd : Cmd) (a : Answer) (shown : List ℕ) → cpu_in c cpu cmd a shown ≡ cpu_in c cpu (open_cmd cmd) (open_answer c a) shown
cpu_in_open cpu ctx.Hv cmd a shown = λ i. record (selecting_open cpu cmd a i) { own = own_open cpu.own cmd a i; last = last_after cpu.last a }
cpu_in_open cpu (ctx.Uv work) cmd a shown = refl
cpu_in_open cpu (ctx.Guest run) cmd a shown = cpu_guest_open cpu run a shown

-- nor to whether the hand takes its bytes
takes_open : (c : Ctx) (cmd : Cmd) (a : Answer) → takes_bytes c cmd a ≡ takes_bytes c (open_cmd cmd) (open_answer c a)
takes_open ctx.Hv (GLi rd value) a = refl
takes_open ctx.Hv cmd a = refl
takes_open (ctx.Uv (Inward move)) cmd Step = refl
takes_open (ctx.Uv (Inward move)) cmd a = refl
takes_open (ctx.Uv work) cmd a = refl
takes_open (ctx.Guest run) cmd a = refl

cpu_open : (cpu : CpuPart) (e : Event) → next_cpu cpu e ≡ next_cpu cpu (open_entry e)
cpu_open cpu e = λ i. record (cpu_in_open cpu e.saw.before e.trace.cmd e.trace.answer e.saw.shown i) {
  ctx = e.saw.after;
  hand = if takes_open e.saw.before e.trace.cmd e.trace.answer i then e.bytes else cpu.hand;
}

-- what a guest alone knows makes no difference to what an entry does
effect_open : (plan : Plan) (g : GuestPart) (cpu : ℕ) (bytes : List ℕ) (c : Ctx) (a : Answer) (cmd : Cmd) (pool : Option PoolSaw) (vid : ℕ) → part_in plan g c a cmd pool vid cpu bytes ≡ part_in plan g c (open_answer c a) (open_cmd cmd) pool vid cpu bytes
effect_open plan g cpu bytes ctx.Hv Step (GLi rd value) pool vid = refl
effect_open plan g cpu bytes ctx.Hv Enter (GLi rd value) pool vid = refl
effect_open plan g cpu bytes ctx.Hv (Ret code) (GLi rd value) pool vid = refl
effect_open plan g cpu bytes ctx.Hv a cmd pool vid = refl
effect_open plan g cpu bytes (ctx.Uv work) a cmd pool vid = refl
effect_open plan g cpu bytes (ctx.Guest run) Done (GLi rd value) pool vid = refl
effect_open plan g cpu bytes (ctx.Guest run) (Val value) (GLd rd gpa) pool vid = refl
effect_open plan g cpu bytes (ctx.Guest run) (Ret code) (GLi rd value) pool vid = refl
effect_open plan g cpu bytes (ctx.Guest run) (Exit exit) (GLi rd value) pool vid = refl
effect_open plan g cpu bytes (ctx.Guest run) a cmd pool vid = refl

guest_open : (plan : Plan) (g : GuestPart) (e : Event) → next_part plan g e ≡ next_part plan g (open_entry e)
guest_open plan g e = effect_open plan g e.trace.cpu e.bytes e.saw.before e.trace.answer e.trace.cmd e.saw.pool e.saw.vid

frame_open : (plan : Plan) (n : ℕ) (bytes : List ℕ) (e : Event) → next_frame plan n bytes e ≡ next_frame plan n bytes (open_entry e)
frame_open plan n bytes e = ap (after_writes n bytes) (writes_open plan.shift e.saw.before e.trace.cmd e.trace.answer e.bytes e.saw.frame)

pub no_secret_in_one_entry : NoSecretInOneEntry
no_secret_in_one_entry plan e f same = record {
  touches_cpu = λ n. ap (touches_cpu n) same;
  touches_guest = λ lpid.
      ap (is_guest lpid) (target_open plan e.saw.before e.saw.lpid e.trace.cmd) ∙ ap (touches_guest plan lpid) same
      ∙ sym (ap (is_guest lpid) (target_open plan f.saw.before f.saw.lpid f.trace.cmd));
  touches_pool = ap touches_pool same;
  touches_frame = λ n. ap (touches_frame n) same;
  cpu = λ cpu. cpu_open cpu e ∙ ap (next_cpu cpu) same ∙ sym (cpu_open cpu f);
  guest = λ g. guest_open plan g e ∙ ap (next_part plan g) same ∙ sym (guest_open plan g f);
  pool = λ free. ap (next_pool free) same;
  frame = λ n bytes. frame_open plan n bytes e ∙ ap (next_frame plan n bytes) same ∙ sym (frame_open plan n bytes f);
}

-- a fold over two histories that agree goes on to agree
pub agree_more : {S : Type 0} (touches : Event → Bool) (next : S → Event → S) (start : S) (e f : Event) (past other : List Event) → touches e ≡ touches f →
    ((value : S) → next value e ≡ next value f) → value_after touches next start past ≡ value_after touches next start other →
    value_after touches next start (e ∷ past) ≡ value_after touches next start (f ∷ other)
agree_more {S = S} touches next start e f past other t step before = by_test (touches e) refl where
  by_test : (b : Bool) → touches e ≡ b → value_after touches next start (e ∷ past) ≡ value_after touches next start (f ∷ other)
  by_test true h =
      counts touches next start e past h ∙ step (value_after touches next start past) ∙ ap (λ (x : S). next x f) before ∙ sym (counts touches next start f other (sym t ∙ h))
  by_test false h = skips touches next start e past h ∙ before ∙ sym (skips touches next start f other (sym t ∙ h))

-- a guest's public part is a fold of its own
pub part_after : (plan : Plan) (lpid : ℕ) (past : List Event) → (guest_after plan lpid past).part ≡ value_after (touches_guest plan lpid) (next_part plan) (start_part plan lpid) past
part_after plan lpid [] = refl
part_after plan lpid (e ∷ past) = by_test (part_after plan lpid past) (touches_guest plan lpid e) refl where
  by_test : (guest_after plan lpid past).part ≡ value_after (touches_guest plan lpid) (next_part plan) (start_part plan lpid) past → (b : Bool) → touches_guest plan lpid e ≡ b →
      (guest_after plan lpid (e ∷ past)).part ≡ value_after (touches_guest plan lpid) (next_part plan) (start_part plan lpid) (e ∷ past)
  by_test ih true t =
      ap (λ (g : Guest). g.part) (counts (touches_guest plan lpid) (next_guest plan) (start_guest plan lpid) e past t)
      ∙ ap (λ (g : GuestPart). next_part plan g e) ih ∙ sym (counts (touches_guest plan lpid) (next_part plan) (start_part plan lpid) e past t)
  by_test ih false t =
      ap (λ (g : Guest). g.part) (skips (touches_guest plan lpid) (next_guest plan) (start_guest plan lpid) e past t) ∙ ih
      ∙ sym (skips (touches_guest plan lpid) (next_part plan) (start_part plan lpid) e past t)

-- the objects of the public state agree
record PartsAgree (plan : Plan) (past other : List Event) : Type 0 where
  cpu : (n : ℕ) → cpu_after plan n past ≡ cpu_after plan n other
  part : (lpid : ℕ) → value_after (touches_guest plan lpid) (next_part plan) (start_part plan lpid) past ≡ value_after (touches_guest plan lpid) (next_part plan) (start_part plan lpid) other
  pool : pool_after plan past ≡ pool_after plan other
  frame : (n : ℕ) → frame_after plan n past ≡ frame_after plan n other

parts_agree : (plan : Plan) (past other : List Event) → map open_entry past ≡ map open_entry other → PartsAgree plan past other
parts_agree plan [] [] same = record { cpu = λ n. refl; part = λ lpid. refl; pool = refl; frame = λ n. refl }
parts_agree plan [] (f ∷ other) same = cc
parts_agree plan (e ∷ past) [] same = cc
parts_agree plan (e ∷ past) (f ∷ other) same =
    let first : open_entry e ≡ open_entry f = cc in
    let rest : map open_entry past ≡ map open_entry other = cc in
    let law : SecretsStayIn plan e f = no_secret_in_one_entry plan e f first in
    let before : PartsAgree plan past other = parts_agree plan past other rest in
    record {
      cpu = λ n. agree_more (touches_cpu n) next_cpu (start_cpu plan) e f past other (law.touches_cpu n) law.cpu (before.cpu n);
      part = λ lpid. agree_more (touches_guest plan lpid) (next_part plan) (start_part plan lpid) e f past other (law.touches_guest lpid) law.guest (before.part lpid);
      pool = agree_more touches_pool next_pool (start_pool plan) e f past other law.touches_pool law.pool before.pool;
      frame = λ n. agree_more (touches_frame n) (next_frame plan n) (start_frame plan) e f past other (law.touches_frame n) (law.frame n) (before.frame n);
    }

pub no_secret_in_public_state : NoSecretInPublicState
no_secret_in_public_state plan past other same =
    let agree : PartsAgree plan past other = parts_agree plan past other same in
    let part : (lpid : ℕ) → (guest_after plan lpid past).part ≡ (guest_after plan lpid other).part =
    (λ lpid. part_after plan lpid past ∙ agree.part lpid ∙ sym (part_after plan lpid other)) in
    (λ i. record { cpus = λ n. agree.cpu n i; guests = λ lpid. part lpid i; pool = agree.pool i; frames = λ n. agree.frame n i })
