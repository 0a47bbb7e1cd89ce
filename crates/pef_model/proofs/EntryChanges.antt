-- Which change a step makes that selects a vCPU, enters one, sets a partition entry, or changes memory slots.
use Rattle.std.proofs.Common.{◌≡◌, ℕ, nat_lt, nat_le, List, Bool, true, false, not, refl, ap, sym, ◌∙◌, ◌&&◌, ◌||◌, if◌then◌else◌, Option, Some, None, inr}
use Rattle.std.proofs.lemmas.Bool.{and_parts, not-false, or_right}
use Rattle.pef_model.specs.declared.state.VState.{VState}
use Rattle.pef_model.specs.declared.state.VState.TheVariants as vstate
use Rattle.pef_model.specs.declared.state.Ctx.TheVariants as ctx
use Rattle.pef_model.specs.declared.command.Code.{Code}
use Rattle.pef_model.specs.declared.command.Code.TheVariants.{USuccess, UParameter, UP2, UP3, UPermission}
use Rattle.pef_model.specs.declared.command.Cmd.TheVariants.{HSelect, HEnter, UPate, URegslot, UUnregslot}
use Rattle.pef_model.specs.declared.entry.Answer.{Answer}
use Rattle.pef_model.specs.declared.entry.Answer.TheVariants as answer
use Rattle.pef_model.specs.Plan.{Plan}
use Rattle.pef_model.specs.Event.{Event, Mark}
use Rattle.pef_model.specs.Target.{Ask, AtGuest, target_in}
use Rattle.pef_model.specs.Cpu.{CpuPart}
use Rattle.pef_model.specs.Slots.{registered_by, unregistered_by}
use Rattle.pef_model.specs.GuestPart.{GuestPart, with_running_vcpu, with_entry, slot_asked}
use Rattle.pef_model.specs.PageOut.{has_frame}
use Rattle.pef_model.specs.Entry.{has_frames, may_write_in, write_code, may_enter_in, can_be_entered, enter_code}
use Rattle.pef_model.specs.Deed.{answering, returning, may_return_in}
use Rattle.pef_model.specs.History.{deed_after, part_after}
use Rattle.pef_model.specs.SlotCalls.{register_code, unregister_code}
use Rattle.pef_model.proofs.Changes.{Change, Takes, Writes, Slots, Selected, asked, entry, at_none, at_nothing, at_one, at_guest}
use Rattle.pef_model.proofs.HypervisorChanges.{passes}
use Rattle.pef_model.proofs.PageInChanges.{numbered}

-- a vCPU that can be entered doesn't run
entered_not : (state : VState) (n : ℕ) → state ≡ vstate.Running n → can_be_entered state ≡ true → ⊥
entered_not state n runs enters = let none : false ≡ true = ap can_be_entered (sym runs) ∙ enters in cc

-- h.enter enters only where the guest is in normal memory, and the vCPU can be entered
enters : (plan : Plan) (g : GuestPart) (vid : ℕ) → enter_code plan g vid ≡ None → (may_enter_in g.phase ≡ true) × (can_be_entered (g.vcpus vid).state ≡ true)
enters plan g vid h =
    let phases = passes (not (may_enter_in g.phase)) UParameter _ h in
    let vcpus = passes (not (nat_lt vid plan.vcpus && can_be_entered (g.vcpus vid).state)) UP2 _ phases.1 in
    let parts = and_parts (nat_lt vid plan.vcpus) (can_be_entered (g.vcpus vid).state) (not-false (nat_lt vid plan.vcpus && can_be_entered (g.vcpus vid).state) vcpus.0) in
    (not-false (may_enter_in g.phase) phases.0, parts.1)

-- UV_WRITE_PATE sets the entry only where the guest isn't to be secure
writes : (plan : Plan) (g : GuestPart) (dw0 dw1 : ℕ) → write_code plan g dw0 dw1 ≡ USuccess → may_write_in g.phase ≡ true
writes plan g dw0 dw1 h = by_phase (may_write_in g.phase) h where
  by_phase : (b : Bool) → (if not b then UPermission else if not (has_frame plan dw0) then UP2 else if not (has_frames plan dw0 dw1) then UP3 else USuccess) ≡ USuccess → b ≡ true
  by_phase true k = refl
  by_phase false k = cc

module _ (plan : Plan) (past : List Event) (cpu : CpuPart) (mark : Mark) (h : cpu.ctx ≡ ctx.Hv) where
  -- the hypervisor selects a vCPU where there is one
  pub select : (lpid vid : ℕ) → Change plan past cpu (entry cpu ctx.Hv mark (HSelect lpid vid) (deed_after plan past (asked cpu ctx.Hv (HSelect lpid vid)) (HSelect lpid vid) (target_in plan ctx.Hv cpu.lpid (HSelect lpid vid))))
  select lpid vid = by_place (nat_le 1 lpid && nat_le lpid plan.guests) (nat_lt vid plan.vcpus) refl where
    event : Answer → Event
    event a = entry cpu ctx.Hv mark (HSelect lpid vid) (answering (asked cpu ctx.Hv (HSelect lpid vid)) a)

    by_place : (a b : Bool) → (nat_le 1 lpid && nat_le lpid plan.guests) ≡ a → Change plan past cpu (event (if not a then answer.Ret UParameter else if not b then answer.Ret UP2 else answer.Done))
    by_place true true t = Selected (record {
      lpid = lpid;
      number = numbered plan lpid true t refl;
      cpu_is = record { ctx_is = sym h; hand_is = refl; lpid_is = refl };
      parts = at_none plan past (event answer.Done) (λ l. refl);
      pool = refl;
    })
    by_place true false t = at_nothing plan past cpu (event (answer.Ret UP2)) (record { ctx_is = sym h; hand_is = refl; lpid_is = refl }) (λ l. refl) refl
    by_place false b t = at_nothing plan past cpu (event (answer.Ret UParameter)) (record { ctx_is = sym h; hand_is = refl; lpid_is = refl }) (λ l. refl) refl

  -- h.enter takes up a vCPU of a guest in normal memory
  pub enter : (lpid vid value : ℕ) → target_in plan ctx.Hv cpu.lpid (HEnter lpid vid value) ≡ AtGuest lpid →
      Change plan past cpu (entry cpu ctx.Hv mark (HEnter lpid vid value) (deed_after plan past (asked cpu ctx.Hv (HEnter lpid vid value)) (HEnter lpid vid value) (AtGuest lpid)))
  enter lpid vid value target = by_code (enter_code plan g vid) refl where
    ask : Ask
    ask = asked cpu ctx.Hv (HEnter lpid vid value)

    g : GuestPart
    g = part_after plan past lpid

    event : Option Code → Event
    event code = entry cpu ctx.Hv mark (HEnter lpid vid value)
        (returning ask code (record (answering ask answer.Enter) { after = ctx.Guest (record { lpid = lpid; vid = vid; generation = g.generation }) }))

    by_code : (code : Option Code) → enter_code plan g vid ≡ code → Change plan past cpu (event code)
    by_code None t =
        let parts = enters plan g vid t in
        Takes (record {
          lpid = lpid;
          vid = vid;
          before = h;
          allowed = ap (λ (b : Bool). may_return_in g.phase || b) parts.0 ∙ or_right (may_return_in g.phase) true refl;
          rests = λ n runs. entered_not (g.vcpus vid).state n runs parts.1;
          number = inr (numbered plan lpid (nat_le 1 lpid && nat_le lpid plan.guests) refl target);
          after = ctx.Guest (record { lpid = lpid; vid = vid; generation = g.generation });
          runs = refl;
          cpu_is = record { ctx_is = refl; hand_is = refl; lpid_is = refl };
          parts = at_guest plan past (event None) lpid (with_running_vcpu g vid mark.cpu) target refl;
          pool = refl;
        })
    by_code (Some code) t = at_one plan past cpu (event (Some code)) lpid (record { ctx_is = sym h; hand_is = refl; lpid_is = refl }) target refl refl

  -- UV_WRITE_PATE sets the partition entry of a guest that isn't to be secure
  pub write : (lpid dw0 dw1 : ℕ) → target_in plan ctx.Hv cpu.lpid (UPate lpid dw0 dw1) ≡ AtGuest lpid →
      Change plan past cpu (entry cpu ctx.Hv mark (UPate lpid dw0 dw1) (deed_after plan past (asked cpu ctx.Hv (UPate lpid dw0 dw1)) (UPate lpid dw0 dw1) (AtGuest lpid)))
  write lpid dw0 dw1 target = by_code (write_code plan g dw0 dw1) refl where
    g : GuestPart
    g = part_after plan past lpid

    event : Code → Event
    event code = entry cpu ctx.Hv mark (UPate lpid dw0 dw1) (answering (asked cpu ctx.Hv (UPate lpid dw0 dw1)) (answer.Ret code))

    by_code : (code : Code) → write_code plan g dw0 dw1 ≡ code → Change plan past cpu (event code)
    by_code USuccess t = Writes (record {
      lpid = lpid;
      base = dw0;
      length_ = dw1;
      allowed = writes plan g dw0 dw1 t;
      cpu_is = record { ctx_is = sym h; hand_is = refl; lpid_is = refl };
      parts = at_guest plan past (event USuccess) lpid (with_entry g dw0 dw1) target refl;
      pool = refl;
    })
    by_code code t = at_one plan past cpu (event code) lpid (record { ctx_is = sym h; hand_is = refl; lpid_is = refl }) target refl refl

  -- the calls for memory slots change these alone, whatever their code
  pub register : (lpid start size flags id : ℕ) → target_in plan ctx.Hv cpu.lpid (URegslot lpid start size flags id) ≡ AtGuest lpid →
      Change plan past cpu (entry cpu ctx.Hv mark (URegslot lpid start size flags id) (deed_after plan past (asked cpu ctx.Hv (URegslot lpid start size flags id)) (URegslot lpid start size flags id) (AtGuest lpid)))
  register lpid start size flags id target =
      let g : GuestPart = part_after plan past lpid in
      Slots (record {
        lpid = lpid;
        words = g.words;
        slots = registered_by (register_code plan g start size flags id) g.slots (slot_asked plan start size id);
        cpu_is = record { ctx_is = sym h; hand_is = refl; lpid_is = refl };
        parts = at_guest plan past (entry cpu ctx.Hv mark (URegslot lpid start size flags id) (deed_after plan past (asked cpu ctx.Hv (URegslot lpid start size flags id)) (URegslot lpid start size flags id) (AtGuest lpid))) lpid _ target refl;
        pool = refl;
      })

  pub unregister : (lpid id : ℕ) → target_in plan ctx.Hv cpu.lpid (UUnregslot lpid id) ≡ AtGuest lpid →
      Change plan past cpu (entry cpu ctx.Hv mark (UUnregslot lpid id) (deed_after plan past (asked cpu ctx.Hv (UUnregslot lpid id)) (UUnregslot lpid id) (AtGuest lpid)))
  unregister lpid id target =
      let g : GuestPart = part_after plan past lpid in
      Slots (record {
        lpid = lpid;
        words = g.words;
        slots = unregistered_by (unregister_code g id) g.slots id;
        cpu_is = record { ctx_is = sym h; hand_is = refl; lpid_is = refl };
        parts = at_guest plan past (entry cpu ctx.Hv mark (UUnregslot lpid id) (deed_after plan past (asked cpu ctx.Hv (UUnregslot lpid id)) (UUnregslot lpid id) (AtGuest lpid))) lpid _ target refl;
        pool = refl;
      })
