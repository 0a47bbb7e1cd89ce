-- What an entry makes of a vCPU: its state, and the generation in which it was last taken up.
use Rattle.std.proofs.Common.{◌≡◌, ℕ, Bool, true, false, ◌==◌, ◌&&◌, nat_le, if◌then◌else◌, List, ◌∷◌, Option, Some, None, option_map, unwrap_or, refl, ap, sym, subst, ◌∙◌, arith}
use Rattle.std.proofs.lemmas.Bool.Decides.{nat_tests}
use Rattle.pef_model.specs.declared.state.Phase.TheVariants as phase
use Rattle.pef_model.specs.declared.state.Ctx.{Ctx}
use Rattle.pef_model.specs.declared.state.Ctx.TheVariants as ctx
use Rattle.pef_model.specs.declared.state.Pending.{Pending}
use Rattle.pef_model.specs.declared.state.Pending.TheVariants as pending
use Rattle.pef_model.specs.declared.state.VState.{VState}
use Rattle.pef_model.specs.declared.state.VState.TheVariants as vstate
use Rattle.pef_model.specs.declared.command.Cmd.{Cmd}
use Rattle.pef_model.specs.declared.command.Cmd.TheVariants.{HEnter, UPate, UPagein, UInval, UReturn, GLd, GSt, GHcall, GIrq}
use Rattle.pef_model.specs.declared.command.Code.{Code}
use Rattle.pef_model.specs.declared.command.Code.TheVariants.{USuccess, UP2}
use Rattle.pef_model.specs.declared.state.Work.TheVariants.{Inward, Outward}
use Rattle.pef_model.specs.declared.entry.Exit.TheVariants as exit
use Rattle.pef_model.specs.declared.entry.Answer.{Answer}
use Rattle.pef_model.specs.declared.entry.Answer.TheVariants.{Done, Val, Ret, Step, Enter, Exit, Context}
use Rattle.pef_model.specs.declared.entry.PoolSaw.{PoolSaw}
use Rattle.pef_model.specs.Plan.{Plan}
use Rattle.pef_model.specs.Event.{Event}
use Rattle.pef_model.specs.Target.{Ask, Alone, AtGuest, caller, is_guest, target_in, touches_guest}
use Rattle.pef_model.specs.GuestPart.{GuestPart, VcpuPart, new_vcpu, waits_for, ends_guest, ended_normal, part_of_write, part_of_inval, part_in, part_of_access, page_of}
use Rattle.pef_model.specs.Guest.{Guest, next_guest}
use Rattle.pef_model.specs.Entry.{enter_code}
use Rattle.pef_model.specs.PageInval.{page_inval_code}
use Rattle.pef_model.specs.Deed.{answering, returning}
use Rattle.pef_model.specs.History.{cpu_after, guest_after, ask_of, deed_after, Extends}
use Rattle.pef_model.specs.TransitionLaw.{waits_by, is_vcpu, state_given, taken_given, EachEntryLeavesStates}
use Rattle.pef_model.proofs.Folds.{same_test, test_same, either_same}
use Rattle.pef_model.proofs.Outcomes.{Outcome, outcome}

-- where h.enter enters, UV_WRITE_PATE ends a guest, or UV_PAGE_INVAL is accepted, this test holds
abbrev pub IsThere : Bool → Cmd → Answer → Type 0
IsThere there (HEnter lpid vid value) Enter = there ≡ true
IsThere there (UPate lpid dw0 dw1) (Ret code) = ends_guest code dw1 ≡ true → there ≡ true
IsThere there (UInval lpid gpa order) (Ret USuccess) = there ≡ true
IsThere there cmd a = Unit {0}

-- whether the guest that one of these commands names is one of the machine
abbrev pub is_there : Plan → Cmd → Bool
is_there plan (HEnter lpid vid value) = nat_le 1 lpid && nat_le lpid plan.guests
is_there plan (UPate lpid dw0 dw1) = nat_le 1 lpid && nat_le lpid plan.guests
is_there plan (UInval lpid gpa order) = nat_le 1 lpid && nat_le lpid plan.guests
is_there plan cmd = true

enter_there : (plan : Plan) (past : List Event) (asked : Ask) (lpid vid value : ℕ) (b : Bool) →
    IsThere b (HEnter lpid vid value) (deed_after plan past (record asked { before = ctx.Hv }) (HEnter lpid vid value) (if b then AtGuest lpid else Alone)).answer
enter_there plan past asked lpid vid value false = tt
enter_there plan past asked lpid vid value true = by_code (enter_code plan g vid) where
  ask : Ask
  ask = record asked { before = ctx.Hv }

  g : GuestPart
  g = (guest_after plan lpid past).part

  by_code : (code : Option Code) → IsThere true (HEnter lpid vid value) (returning ask code (record (answering ask Enter) { after = ctx.Guest (record { lpid = lpid; vid = vid; generation = g.generation }) })).answer
  by_code None = refl
  by_code (Some code) = tt

write_there : (plan : Plan) (past : List Event) (asked : Ask) (lpid dw0 dw1 : ℕ) (b : Bool) →
    IsThere b (UPate lpid dw0 dw1) (deed_after plan past (record asked { before = ctx.Hv }) (UPate lpid dw0 dw1) (if b then AtGuest lpid else Alone)).answer
write_there plan past asked lpid dw0 dw1 false = λ ends. ends
write_there plan past asked lpid dw0 dw1 true = λ ends. refl

inval_there : (plan : Plan) (past : List Event) (asked : Ask) (lpid gpa order : ℕ) (b : Bool) →
    IsThere b (UInval lpid gpa order) (deed_after plan past (record asked { before = ctx.Hv }) (UInval lpid gpa order) (if b then AtGuest lpid else Alone)).answer
inval_there plan past asked lpid gpa order false = tt
inval_there plan past asked lpid gpa order true = by_code (page_inval_code plan (guest_after plan lpid past).part gpa order) where
  by_code : (code : Code) → IsThere true (UInval lpid gpa order) (Ret code)
  by_code USuccess = refl
  by_code code = tt

-- so it is of a command of the hypervisor
abbrev pub IsThereIn : Ctx → Plan → Cmd → Answer → Type 0
IsThereIn ctx.Hv plan cmd a = IsThere (is_there plan cmd) cmd a
IsThereIn c plan cmd a = Unit {0}

deed_there : (plan : Plan) (past : List Event) (c : Ctx) (asked : Ask) (cmd : Cmd) → IsThereIn c plan cmd (deed_after plan past (record asked { before = c }) cmd (target_in plan c asked.lpid cmd)).answer
deed_there plan past ctx.Hv asked (HEnter lpid vid value) = enter_there plan past asked lpid vid value (nat_le 1 lpid && nat_le lpid plan.guests)
deed_there plan past ctx.Hv asked (UPate lpid dw0 dw1) = write_there plan past asked lpid dw0 dw1 (nat_le 1 lpid && nat_le lpid plan.guests)
deed_there plan past ctx.Hv asked (UInval lpid gpa order) = inval_there plan past asked lpid gpa order (nat_le 1 lpid && nat_le lpid plan.guests)
deed_there plan past ctx.Hv asked cmd = tt
deed_there plan past (ctx.Uv work) asked cmd = tt
deed_there plan past (ctx.Guest run) asked cmd = tt

-- and of an entry that extends a history
pub there_is : (plan : Plan) (past : List Event) (e : Event) → Extends plan past e → IsThereIn e.saw.before plan e.trace.cmd e.trace.answer
there_is plan past e extends =
    subst (λ (x : Event). IsThereIn x.saw.before plan x.trace.cmd x.trace.answer) (sym extends.is)
    (deed_there plan past (cpu_after plan e.trace.cpu past).ctx (ask_of (cpu_after plan e.trace.cpu past) e.trace.cmd) e.trace.cmd)

-- a vCPU that is taken up, and one that leaves
abbrev pub taken_up : GuestPart → ℕ → VcpuPart
taken_up g cpu = record { state = vstate.Running cpu; generation = g.generation }

abbrev pub parked : GuestPart → ℕ → Pending → VcpuPart
parked g vid waits = record (g.vcpus vid) { state = vstate.Parked waits }

-- what a step makes of this vCPU of the guest at which it aims, by the one that is selected; None where it stays as it was
abbrev pub vcpu_given : GuestPart → ℕ → ℕ → ℕ → Ctx → Cmd → Answer → Option VcpuPart
vcpu_given g vid selected cpu ctx.Hv (UReturn r0 r2 outs) Enter = if selected == vid then Some (taken_up g cpu) else None
vcpu_given g vid selected cpu ctx.Hv (HEnter lpid entered value) Enter = if entered == vid then Some (taken_up g cpu) else None
vcpu_given g vid selected cpu ctx.Hv (UPate lpid dw0 dw1) (Ret code) = if ends_guest code dw1 then Some (new_vcpu vstate.Idle) else None
vcpu_given g vid selected cpu (ctx.Guest run) GHcall (Exit why) = if run.vid == vid then Some (parked g run.vid (waits_for why)) else None
vcpu_given g vid selected cpu (ctx.Guest run) GIrq (Exit why) = if run.vid == vid then Some (parked g run.vid pending.Irq) else None
vcpu_given g vid selected cpu c cmd a = None

-- one vCPU changes
put_vcpu : (vcpus : ℕ → VcpuPart) (vid at : ℕ) (new : VcpuPart) → (if vid == at then new else vcpus vid) ≡ unwrap_or (if at == vid then Some new else None) (vcpus vid)
put_vcpu vcpus vid at new = by_test (vid == at) refl where
  by_test : (b : Bool) → (vid == at) ≡ b → (if b then new else vcpus vid) ≡ unwrap_or (if at == vid then Some new else None) (vcpus vid)
  by_test true t = ap (λ (c : Bool). unwrap_or (if c then Some new else None) (vcpus vid)) (sym (ap (λ (n : ℕ). at == n) (test_same vid at t) ∙ same_test at))
  by_test false t = let other : (at == vid) ≡ false = grind (arith, nat_tests) in ap (λ (c : Bool). unwrap_or (if c then Some new else None) (vcpus vid)) (sym other)

module _ (plan : Plan) (g : GuestPart) (pool : Option PoolSaw) (v cpu : ℕ) (bytes : List ℕ) (vid : ℕ) where
  access_keeps : (gfn : ℕ) (pool : Option PoolSaw) → (part_of_access g gfn pool).vcpus vid ≡ g.vcpus vid
  access_keeps gfn None = refl
  access_keeps gfn (Some saw) = refl

  inval_keeps : (code : Code) (gfn : ℕ) → (part_of_inval g code gfn).vcpus vid ≡ g.vcpus vid
  inval_keeps USuccess gfn = refl
  inval_keeps code gfn = refl

  write_gives : (code : Code) (dw0 dw1 : ℕ) → (part_of_write g code dw0 dw1).vcpus vid ≡ unwrap_or (if ends_guest code dw1 then Some (new_vcpu vstate.Idle) else None) (g.vcpus vid)
  write_gives USuccess dw0 dw1 = by_length (dw1 == 0) where
    by_length : (b : Bool) →
        (if b then ended_normal (record g { entry = record { base = dw0; length_ = dw1 } }) else record g { entry = record { base = dw0; length_ = dw1 }; phase = phase.Normal }).vcpus vid
        ≡ unwrap_or (if b then Some (new_vcpu vstate.Idle) else None) (g.vcpus vid)
    by_length true = refl
    by_length false = refl
  write_gives code dw0 dw1 = refl

  -- what a step makes of it
  vcpu_by : (c : Ctx) (cmd : Cmd) (a : Answer) → (part_in plan g c a cmd pool v cpu bytes).vcpus vid ≡ unwrap_or (vcpu_given g vid v cpu c cmd a) (g.vcpus vid)
  vcpu_by ctx.Hv (UReturn r0 r2 outs) Enter = put_vcpu g.vcpus vid v (taken_up g cpu)
  vcpu_by ctx.Hv (HEnter lpid entered value) Enter = put_vcpu g.vcpus vid entered (taken_up g cpu)
  vcpu_by ctx.Hv cmd Enter = refl
  vcpu_by ctx.Hv (UPate lpid dw0 dw1) (Ret code) = write_gives code dw0 dw1
  vcpu_by ctx.Hv (UInval lpid gpa order) (Ret code) = inval_keeps code (page_of plan gpa)
  vcpu_by ctx.Hv cmd (Ret code) = refl
  vcpu_by ctx.Hv (UPagein lpid src gpa flags order) Step = refl
  vcpu_by ctx.Hv cmd Step = refl
  vcpu_by ctx.Hv cmd a = refl
  vcpu_by (ctx.Uv (Inward move)) cmd (Ret USuccess) = refl
  vcpu_by (ctx.Uv (Inward move)) cmd (Ret UP2) = refl
  vcpu_by (ctx.Uv work) cmd (Ret USuccess) = refl
  vcpu_by (ctx.Uv work) cmd a = refl
  vcpu_by (ctx.Guest run) (GLd rd gpa) (Val value) = access_keeps _ pool
  vcpu_by (ctx.Guest run) cmd (Val value) = refl
  vcpu_by (ctx.Guest run) (GSt rs gpa) Done = access_keeps _ pool
  vcpu_by (ctx.Guest run) cmd Done = refl
  vcpu_by (ctx.Guest run) GHcall (Exit why) = put_vcpu g.vcpus vid run.vid (parked g run.vid (waits_for why))
  vcpu_by (ctx.Guest run) GIrq (Exit why) = put_vcpu g.vcpus vid run.vid (parked g run.vid pending.Irq)
  vcpu_by (ctx.Guest run) cmd (Exit exit) = refl
  vcpu_by (ctx.Guest run) cmd a = refl

-- what is given to a vCPU counts where an entry aims at its guest
abbrev pub given_at : Bool → Option VcpuPart → VcpuPart → VcpuPart
given_at aims given old = unwrap_or (if aims then given else None) old

pub vcpu_after : (plan : Plan) (past : List Event) (e : Event) (lpid vid : ℕ) →
    let g : GuestPart = (guest_after plan lpid past).part in
    (guest_after plan lpid (e ∷ past)).part.vcpus vid ≡ given_at (touches_guest plan lpid e) (vcpu_given g vid e.saw.vid e.trace.cpu e.saw.before e.trace.cmd e.trace.answer) (g.vcpus vid)
vcpu_after plan past e lpid vid = by_test (touches_guest plan lpid e) where
  g : Guest
  g = guest_after plan lpid past

  by_test : (b : Bool) → (if b then next_guest plan g e else g).part.vcpus vid ≡ given_at b (vcpu_given g.part vid e.saw.vid e.trace.cpu e.saw.before e.trace.cmd e.trace.answer) (g.part.vcpus vid)
  by_test true = vcpu_by plan g.part e.saw.pool e.saw.vid e.trace.cpu e.bytes vid e.saw.before e.trace.cmd e.trace.answer
  by_test false = refl

-- what is given to one vCPU of one guest, by two tests, counts where both hold
given_both : {A : Type 0} (field : VcpuPart → A) (new old : VcpuPart) (b c : Bool) → unwrap_or (if b && c then Some (field new) else None) (field old) ≡ field (given_at b (if c then Some new else None) old)
given_both field new old true true = refl
given_both field new old true false = refl
given_both field new old false c = refl

-- nothing is given
given_none : (b : Bool) (old : VcpuPart) → old ≡ given_at b None old
given_none b old = ap (λ (o : Option VcpuPart). unwrap_or o old) (sym (either_same b None))

module _ (plan : Plan) (g : GuestPart) (lpid vid l v cpu : ℕ) where
  abbrev old : VcpuPart
  old = g.vcpus vid

  -- the vCPU after a step, by the context, the command and the answer
  abbrev now : Ctx → Cmd → Answer → VcpuPart
  now c cmd a = given_at (is_guest lpid (target_in plan c l cmd)) (vcpu_given g vid v cpu c cmd a) old

  -- a step that names a guest of the machine aims at it
  named_aims : {A : Type 0} (field : VcpuPart → A) (named : ℕ) (given : Option VcpuPart) (there : Bool) → there ≡ true →
      field (given_at (named == lpid) given old) ≡ field (given_at (is_guest lpid (if there then AtGuest named else Alone)) given old)
  named_aims field named given there is = ap (λ (b : Bool). field (given_at (is_guest lpid (if b then AtGuest named else Alone)) given old)) (sym is)

  -- and so does one that ends it
  ended_aims : {A : Type 0} (field : VcpuPart → A) (named : ℕ) (new : VcpuPart) (there ends : Bool) → (ends ≡ true → there ≡ true) →
      unwrap_or (if (named == lpid) && ends then Some (field new) else None) (field old) ≡ field (given_at (is_guest lpid (if there then AtGuest named else Alone)) (if ends then Some new else None) old)
  ended_aims field named new there true is = given_both field new old (named == lpid) true ∙ named_aims field named (Some new) there (is refl)
  ended_aims field named new there false is = given_both field new old (named == lpid) false ∙ ap field (sym (given_none (named == lpid) old) ∙ given_none (is_guest lpid (if there then AtGuest named else Alone)) old)

  -- a command of another context parks no vCPU
  waits_for_none : (vid : ℕ) (c : Ctx) (cmd : Cmd) → waits_by g vid c cmd Context ≡ None
  waits_for_none vid c GHcall = refl
  waits_for_none vid c cmd = refl

  state_is : (c : Ctx) (cmd : Cmd) (a : Answer) (after : Ctx) (shown : List ℕ) → Outcome c cmd a after shown → IsThereIn c plan cmd a → (now c cmd a).state ≡ unwrap_or (state_given g lpid vid l v cpu c cmd a) old.state
  state_is ctx.Hv (UReturn r0 r2 outs) Enter after shown h there = sym (given_both (λ (x : VcpuPart). x.state) (taken_up g cpu) old (l == lpid) (v == vid))
  state_is ctx.Hv (HEnter named entered value) Enter after shown h there =
      sym (given_both (λ (x : VcpuPart). x.state) (taken_up g cpu) old (named == lpid) (entered == vid)
      ∙ named_aims (λ (x : VcpuPart). x.state) named (if entered == vid then Some (taken_up g cpu) else None) (nat_le 1 named && nat_le named plan.guests) there)
  state_is ctx.Hv (UPate named dw0 dw1) (Ret code) after shown h there =
      sym (ended_aims (λ (x : VcpuPart). x.state) named (new_vcpu vstate.Idle) (nat_le 1 named && nat_le named plan.guests) (ends_guest code dw1) there)
  state_is ctx.Hv cmd a after shown h there = ap (λ (x : VcpuPart). x.state) (sym (given_none (is_guest lpid (target_in plan ctx.Hv l cmd)) old))
  state_is (ctx.Uv (Inward move)) cmd a after shown h there = ap (λ (x : VcpuPart). x.state) (sym (given_none (is_guest lpid (target_in plan (ctx.Uv (Inward move)) l cmd)) old))
  state_is (ctx.Uv (Outward move)) cmd a after shown h there = ap (λ (x : VcpuPart). x.state) (sym (given_none (is_guest lpid (target_in plan (ctx.Uv (Outward move)) l cmd)) old))
  state_is (ctx.Uv work) cmd Context after shown h there =
      ap (λ (o : Option VState). unwrap_or o old.state) (sym (ap (λ (o : Option Pending). if is_vcpu lpid vid (caller work) then option_map vstate.Parked o else None) (waits_for_none vid (ctx.Uv work) cmd) ∙ either_same (is_vcpu lpid vid (caller work)) None))
  state_is (ctx.Uv work) cmd a after shown h there = absurd h
  state_is (ctx.Guest run) GHcall (Exit exit.Normal) after shown h there = sym (given_both (λ (x : VcpuPart). x.state) (parked g run.vid pending.Exit) old (run.lpid == lpid) (run.vid == vid))
  state_is (ctx.Guest run) GHcall (Exit exit.Irq) after shown h there = sym (given_both (λ (x : VcpuPart). x.state) (parked g run.vid pending.Irq) old (run.lpid == lpid) (run.vid == vid))
  state_is (ctx.Guest run) GHcall (Exit (exit.Hcall n)) after shown h there = sym (given_both (λ (x : VcpuPart). x.state) (parked g run.vid (pending.Hcall n)) old (run.lpid == lpid) (run.vid == vid))
  state_is (ctx.Guest run) GIrq (Exit exit.Normal) after shown h there = sym (given_both (λ (x : VcpuPart). x.state) (parked g run.vid pending.Irq) old (run.lpid == lpid) (run.vid == vid))
  state_is (ctx.Guest run) GIrq (Exit exit.Irq) after shown h there = sym (given_both (λ (x : VcpuPart). x.state) (parked g run.vid pending.Irq) old (run.lpid == lpid) (run.vid == vid))
  state_is (ctx.Guest run) GIrq (Exit (exit.Hcall n)) after shown h there = absurd h
  state_is (ctx.Guest run) cmd (Exit why) after shown h there = absurd h
  state_is (ctx.Guest run) cmd a after shown h there =
      ap (λ (x : VcpuPart). x.state) (sym (given_none (is_guest lpid (target_in plan (ctx.Guest run) l cmd)) old))
      ∙ ap (λ (o : Option VState). unwrap_or o old.state) (sym (either_same ((run.lpid == lpid) && (run.vid == vid)) None))

  -- a vCPU that leaves keeps its generation
  parked_keeps : (waits : Pending) (at : ℕ) (b c : Bool) → (at == vid) ≡ c → (given_at b (if c then Some (parked g at waits) else None) old).generation ≡ old.generation
  parked_keeps waits at true true t = ap (λ (n : ℕ). (g.vcpus n).generation) (test_same at vid t)
  parked_keeps waits at true false t = refl
  parked_keeps waits at false c t = refl

  generation_is : (c : Ctx) (cmd : Cmd) (a : Answer) → IsThereIn c plan cmd a → (now c cmd a).generation ≡ unwrap_or (taken_given g lpid vid l v c cmd a) old.generation
  generation_is ctx.Hv (UReturn r0 r2 outs) Enter there = sym (given_both (λ (x : VcpuPart). x.generation) (taken_up g cpu) old (l == lpid) (v == vid))
  generation_is ctx.Hv (HEnter named entered value) Enter there =
      sym (given_both (λ (x : VcpuPart). x.generation) (taken_up g cpu) old (named == lpid) (entered == vid)
      ∙ named_aims (λ (x : VcpuPart). x.generation) named (if entered == vid then Some (taken_up g cpu) else None) (nat_le 1 named && nat_le named plan.guests) there)
  generation_is ctx.Hv (UPate named dw0 dw1) (Ret code) there =
      sym (ended_aims (λ (x : VcpuPart). x.generation) named (new_vcpu vstate.Idle) (nat_le 1 named && nat_le named plan.guests) (ends_guest code dw1) there)
  generation_is (ctx.Guest run) GHcall (Exit why) there = parked_keeps (waits_for why) run.vid (run.lpid == lpid) (run.vid == vid) refl
  generation_is (ctx.Guest run) GIrq (Exit why) there = parked_keeps pending.Irq run.vid (run.lpid == lpid) (run.vid == vid) refl
  generation_is c cmd a there = ap (λ (x : VcpuPart). x.generation) (sym (given_none (is_guest lpid (target_in plan c l cmd)) old))

pub each_entry_leaves_states : EachEntryLeavesStates
each_entry_leaves_states plan past e lpid vid extends =
    let g : GuestPart = (guest_after plan lpid past).part in
    let is = vcpu_after plan past e lpid vid in
    record {
      state = ap (λ (x : VcpuPart). x.state) is
          ∙ state_is plan g lpid vid e.saw.lpid e.saw.vid e.trace.cpu e.saw.before e.trace.cmd e.trace.answer e.saw.after e.saw.shown (outcome plan past e extends) (there_is plan past e extends);
      generation = ap (λ (x : VcpuPart). x.generation) is ∙ generation_is plan g lpid vid e.saw.lpid e.saw.vid e.trace.cpu e.saw.before e.trace.cmd e.trace.answer (there_is plan past e extends);
    }
