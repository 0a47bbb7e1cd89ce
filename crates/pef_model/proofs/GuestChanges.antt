-- Which change a step of a guest makes.
use Rattle.std.proofs.Common.{◌≡◌, ℕ, ◌%◌, ◌<◌, nat_lt, List, [], Bool, true, false, refl, ap, ◌==◌, if◌then◌else◌, Option, Some, None, is_some, arith, sym, ◌+◌, slice_index, ◌∷◌, ◌-◌}
use Rattle.std.proofs.lemmas.Bool.{and_parts}
use Rattle.std.proofs.lemmas.Bool.Decides.{nat_tests}
use Rattle.pef_model.specs.declared.entry.PoolSaw.{PoolSaw}
use Rattle.pef_model.specs.declared.state.Phase.{Phase}
use Rattle.pef_model.specs.declared.state.Phase.TheVariants as phase
use Rattle.pef_model.specs.declared.state.Kind.{Kind}
use Rattle.pef_model.specs.declared.state.Kind.TheVariants as kind
use Rattle.pef_model.specs.declared.state.Mover.{Mover}
use Rattle.pef_model.specs.declared.state.Run.{Run}
use Rattle.pef_model.specs.declared.state.Ctx.TheVariants as ctx
use Rattle.pef_model.specs.declared.command.Cmd.{Cmd}
use Rattle.pef_model.specs.declared.command.Cmd.TheVariants.{HLd, HSt, HSelect, HEnter, UPate, URegslot, UUnregslot, UPagein, UPageout, UInval, UReturn, GLi, GAdd, GXor, GLd, GSt, GHcall, GIrq, Go, Dump}
use Rattle.pef_model.specs.declared.entry.Exit.{Exit}
use Rattle.pef_model.specs.declared.entry.Exit.TheVariants as exit
use Rattle.pef_model.specs.declared.entry.Answer.{Answer}
use Rattle.pef_model.specs.declared.entry.Answer.TheVariants as answer
use Rattle.pef_model.specs.Memory.{offset_of}
use Rattle.pef_model.specs.Plan.{Plan}
use Rattle.pef_model.specs.Event.{Event, Mark}
use Rattle.pef_model.specs.Target.{Ask, AtGuest, target_in, frame_of}
use Rattle.pef_model.specs.Cpu.{CpuPart, cpu_of_guest}
use Rattle.pef_model.specs.GuestPart.{Page, GuestPart, Meeting, NoPlace, Moves, Private, Unbacked, meets, meets_in, meets_page, meets_kind, part_in, part_of_access, page_of, has_place, is_invalid, with_secure_page, Normal, is_in_slot, waits_for}
use Rattle.pef_model.specs.Guest.{Guest}
use Rattle.pef_model.specs.Seal.{doublewords}
use Rattle.pef_model.proofs.Folds.{test_same}
use Rattle.pef_model.specs.Deed.{Deed, answering, deed_access, deed_interrupt, deed_running, deed_gone, deed_hypercall, deed_by_row, deed_by_kind, random_code}
use Rattle.pef_model.specs.History.{guest_after, pool_after, deed_after, found_after}
use Rattle.pef_model.proofs.Changes as change
use Rattle.pef_model.proofs.Changes.{Change, Slots, is_backed_in, asked, entry, at_guest, at_guest_same, at_one}
use Rattle.pef_model.specs.declared.hypercall.Row.{Row}
use Rattle.pef_model.specs.declared.hypercall.RowKind.{RowKind}
use Rattle.pef_model.specs.declared.hypercall.RowKind.TheVariants.{Reflected, Local, Svm}
use Rattle.pef_model.specs.declared.hypercall.TheConstants.{HCALLS}
use Rattle.pef_model.specs.Hypercalls.{row_of, let_out_by}
use Rattle.pef_model.specs.declared.command.Code.TheVariants.{HSuccess, HUnsupported, HFunction}
use Rattle.pef_model.specs.declared.command.Code.{Code}
use Rattle.pef_model.specs.declared.state.Pending.TheVariants as pending

-- a page of a place that is Invalid at rest
record IsUnbacked (plan : Plan) (g : GuestPart) (gpa : ℕ) : Type 0 where
  placed : has_place plan gpa ≡ true
  backed : is_backed_in g.phase ≡ true
  invalid : is_invalid (g.pages (page_of plan gpa)) ≡ true
  at_rest : (g.pages (page_of plan gpa)).mover ≡ None

-- by its kind
unbacked_kind : (k : Kind) → meets_kind k ≡ Unbacked → k ≡ kind.Invalid
unbacked_kind kind.Invalid h = refl
unbacked_kind kind.Secure h = cc
unbacked_kind kind.Out h = cc
unbacked_kind (kind.Shared None fresh) h = cc
unbacked_kind (kind.Shared (Some n) fresh) h = cc

unbacked_page : (page : Page) → meets_page page ≡ Unbacked → (page.kind ≡ kind.Invalid) × (page.mover ≡ None)
unbacked_page page = by_mover page.mover refl where
  by_mover : (mover : Option Mover) → page.mover ≡ mover → (if is_some mover then Moves else meets_kind page.kind) ≡ Unbacked → (page.kind ≡ kind.Invalid) × (page.mover ≡ None)
  by_mover None rests h = (unbacked_kind page.kind h, rests)
  by_mover (Some mover) rests h = cc

unbacked_place : (plan : Plan) (g : GuestPart) (gpa : ℕ) → is_backed_in g.phase ≡ true → (b : Bool) → is_in_slot plan g gpa ≡ b → (if b then meets_page (g.pages (page_of plan gpa)) else NoPlace) ≡ Unbacked →
    IsUnbacked plan g gpa
unbacked_place plan g gpa backed true t h =
    let found = unbacked_page (g.pages (page_of plan gpa)) h in
    record { placed = (and_parts (has_place plan gpa) _ t).0; backed = backed; invalid = ap (λ (k : Kind). is_invalid (record (g.pages (page_of plan gpa)) { kind = k })) found.0; at_rest = found.1 }
unbacked_place plan g gpa backed false t h = cc

-- an access meets no other page so
unbacked : (plan : Plan) (g : GuestPart) (gpa : ℕ) → meets plan g gpa ≡ Unbacked → IsUnbacked plan g gpa
unbacked plan g gpa h = by_phase g.phase refl h where
  by_entry : (b c : Bool) → (if b then (if c then Normal (frame_of plan g.entry.base + page_of plan gpa) else NoPlace) else NoPlace) ≡ Unbacked → IsUnbacked plan g gpa
  by_entry true true k = cc
  by_entry true false k = cc
  by_entry false c k = cc

  by_phase : (p : Phase) → g.phase ≡ p → meets_in p plan g gpa ≡ Unbacked → IsUnbacked plan g gpa
  by_phase phase.Normal is k = by_entry (gpa % 8 == 0) (nat_lt (page_of plan gpa) g.entry.length_) k
  by_phase p is k = unbacked_place plan g gpa (ap is_backed_in is) (is_in_slot plan g gpa) refl k

module _ (plan : Plan) (past : List Event) (cpu : CpuPart) (mark : Mark) (run : Run) (h : cpu.ctx ≡ ctx.Guest run) where
  abbrev g : Guest
  g = guest_after plan run.lpid past

  abbrev any : Bool
  any = nat_lt 0 (pool_after plan past)

  abbrev ask_of : Cmd → Ask
  ask_of cmd = asked cpu (ctx.Guest run) cmd

  abbrev entry_of : Cmd → Deed → Event
  entry_of cmd deed = entry cpu (ctx.Guest run) mark cmd deed

  -- an access with this answer where it is done
  access : (cmd : Cmd) (success : Answer) (through : ℕ → Answer) (out : List ℕ) (gpa : ℕ) → target_in plan (ctx.Guest run) cpu.lpid cmd ≡ AtGuest run.lpid →
      ((pool : Option PoolSaw) → part_in plan g.part (ctx.Guest run) success cmd pool cpu.vid mark.cpu [] ≡ part_of_access g.part (page_of plan gpa) pool) → ((shown : List ℕ) → cpu_of_guest cpu run success shown ≡ cpu) →
      ((n : ℕ) → part_in plan g.part (ctx.Guest run) (through n) cmd None cpu.vid mark.cpu (doublewords out) ≡ g.part) → ((n : ℕ) → cpu_of_guest cpu run (through n) out ≡ cpu) →
      run.generation ≡ g.part.generation → (b : Bool) → any ≡ b → (m : Meeting) → meets plan g.part gpa ≡ m → Change plan past cpu (entry_of cmd (deed_access (ask_of cmd) success through out b m))
  access cmd success through out gpa target does stays passes shows same true some Unbacked met =
      let found = unbacked plan g.part gpa met in
      let free : 0 < pool_after plan past = grind (arith, nat_tests) in
      let below : nat_lt (page_of plan gpa) plan.pages ≡ true = let place = and_parts _ (nat_lt (page_of plan gpa) plan.pages) found.placed in place.1 in
      change.Backs (record {
        run = run;
        gfn = page_of plan gpa;
        before = h;
        generation = same;
        backed = found.backed;
        invalid = found.invalid;
        at_rest = found.at_rest;
        placed = grind (arith, nat_tests);
        cpu_is = record { ctx_is = sym h; hand_is = refl; lpid_is = ap (λ (x : CpuPart). x.lpid) (stays []) };
        parts = at_guest plan past (entry_of cmd (deed_access (ask_of cmd) success through out true Unbacked)) run.lpid (with_secure_page g.part (page_of plan gpa)) target (does (Some (record { any = true; taken = 1; given = 0 })));
        pool = omega arith;
      })
  access cmd success through out gpa target does stays passes shows same false none Unbacked met =
      at_one plan past cpu _ run.lpid (record { ctx_is = sym h; hand_is = refl; lpid_is = refl }) target refl (omega arith)
  access cmd success through out gpa target does stays passes shows same b free Private met =
      at_one plan past cpu _ run.lpid
      (record { ctx_is = sym h; hand_is = refl; lpid_is = ap (λ (x : CpuPart). x.lpid) (stays []) })
      target (does None) refl
  access cmd success through out gpa target does stays passes shows same b free (Normal n) met =
      at_one plan past cpu _ run.lpid (record { ctx_is = sym h; hand_is = refl; lpid_is = ap (λ (x : CpuPart). x.lpid) (shows n) }) target (passes n) refl
  access cmd success through out gpa target does stays passes shows same b free m met = at_one plan past cpu _ run.lpid (record { ctx_is = sym h; hand_is = refl; lpid_is = refl }) target refl refl

  -- a vCPU that leaves is parked
  parked : run.generation ≡ g.part.generation → (why : Exit) (shown : List ℕ) →
      Change plan past cpu (entry_of GIrq (record (answering (ask_of GIrq) (answer.Exit why)) { after = ctx.Hv; shown = shown }))
  parked same why shown = change.Parked (record {
    run = run;
    waits = pending.Irq;
    before = h;
    generation = same;
    cpu_is = record { ctx_is = refl; hand_is = refl; lpid_is = refl };
    parts = at_guest plan past (entry_of GIrq (record (answering (ask_of GIrq) (answer.Exit why)) { after = ctx.Hv; shown = shown })) run.lpid _ refl refl;
    pool = refl;
  })

  -- an interrupt parks it, in whatever phase
  interrupted : run.generation ≡ g.part.generation → (p : Phase) → Change plan past cpu (entry_of GIrq (deed_interrupt p (g.registers run.vid).gpr (ask_of GIrq)))
  interrupted same phase.Normal = parked same exit.Normal (g.registers run.vid).gpr
  interrupted same p = parked same exit.Irq []

  -- a hypercall that leaves parks it too, and one that is answered changes nothing but how many words are left
  called : run.generation ≡ g.part.generation → (why : Exit) (shown : List ℕ) →
      Change plan past cpu (entry_of GHcall (record (answering (ask_of GHcall) (answer.Exit why)) { after = ctx.Hv; shown = shown }))
  called same why shown = change.Parked (record {
    run = run;
    waits = waits_for why;
    before = h;
    generation = same;
    cpu_is = record { ctx_is = refl; hand_is = refl; lpid_is = refl };
    parts = at_guest plan past (entry_of GHcall (record (answering (ask_of GHcall) (answer.Exit why)) { after = ctx.Hv; shown = shown })) run.lpid _ refl refl;
    pool = refl;
  })

  answered : (code : Code) (shown : List ℕ) → Change plan past cpu (entry_of GHcall (record (answering (ask_of GHcall) (answer.Ret code)) { shown = shown }))
  answered HSuccess shown = Slots (record {
    lpid = run.lpid;
    slots = g.part.slots;
    words = g.part.words - 1;
    cpu_is = record { ctx_is = sym h; hand_is = refl; lpid_is = refl };
    parts = at_guest plan past (entry_of GHcall (record (answering (ask_of GHcall) (answer.Ret HSuccess)) { shown = shown })) run.lpid _ refl refl;
    pool = refl;
  })
  answered code shown = at_one plan past cpu _ run.lpid (record { ctx_is = sym h; hand_is = refl; lpid_is = refl }) refl refl refl

  calls : run.generation ≡ g.part.generation → (p : Phase) → Change plan past cpu (entry_of GHcall (deed_hypercall g.part.words p (g.registers run.vid).gpr (ask_of GHcall)))
  calls same phase.Normal = called same exit.Normal (g.registers run.vid).gpr
  calls same p = by_row (row_of HCALLS (slice_index (g.registers run.vid).gpr 3)) where
    by_kind : (kind : RowKind) (row : Row) → Change plan past cpu (entry_of GHcall (deed_by_kind g.part.words kind (ask_of GHcall) (g.registers run.vid).gpr row))
    by_kind Reflected row = called same (exit.Hcall row.number) (let_out_by row (g.registers run.vid).gpr)
    by_kind Local row = answered (random_code g.part.words) _
    by_kind Svm row = answered HUnsupported _

    by_row : (row : Option Row) → Change plan past cpu (entry_of GHcall (deed_by_row g.part.words (ask_of GHcall) (g.registers run.vid).gpr row))
    by_row (Some row) = by_kind row.kind row
    by_row None = answered HFunction _

  -- a command of a guest that lives
  running : (cmd : Cmd) → run.generation ≡ g.part.generation → target_in plan (ctx.Guest run) cpu.lpid cmd ≡ AtGuest run.lpid → Change plan past cpu (entry_of cmd (deed_running plan run g (found_after plan past) any (ask_of cmd) cmd))
  running (HLd ra) same target = cc
  running (HSt ra value) same target = cc
  running (HSelect lpid vid) same target = cc
  running (HEnter lpid vid value) same target = cc
  running (UPate lpid dw0 dw1) same target = at_one plan past cpu _ run.lpid (record { ctx_is = sym h; hand_is = refl; lpid_is = refl }) target refl refl
  running (URegslot lpid start size flags id) same target = at_one plan past cpu _ run.lpid (record { ctx_is = sym h; hand_is = refl; lpid_is = refl }) target refl refl
  running (UUnregslot lpid id) same target = at_one plan past cpu _ run.lpid (record { ctx_is = sym h; hand_is = refl; lpid_is = refl }) target refl refl
  running (UPagein lpid src gpa flags order) same target = at_one plan past cpu _ run.lpid (record { ctx_is = sym h; hand_is = refl; lpid_is = refl }) target refl refl
  running (UPageout lpid dest gpa flags order) same target = at_one plan past cpu _ run.lpid (record { ctx_is = sym h; hand_is = refl; lpid_is = refl }) target refl refl
  running (UInval lpid gpa order) same target = at_one plan past cpu _ run.lpid (record { ctx_is = sym h; hand_is = refl; lpid_is = refl }) target refl refl
  running (UReturn r0 r2 outs) same target = at_one plan past cpu _ run.lpid (record { ctx_is = sym h; hand_is = refl; lpid_is = refl }) target refl refl
  running (GLi rd value) same target = at_one plan past cpu _ run.lpid (record { ctx_is = sym h; hand_is = refl; lpid_is = refl }) target refl refl
  running (GAdd rd ra rb) same target = at_one plan past cpu _ run.lpid (record { ctx_is = sym h; hand_is = refl; lpid_is = refl }) target refl refl
  running (GXor rd ra rb) same target = at_one plan past cpu _ run.lpid (record { ctx_is = sym h; hand_is = refl; lpid_is = refl }) target refl refl
  running (Dump reg) same target = at_one plan past cpu _ run.lpid (record { ctx_is = sym h; hand_is = refl; lpid_is = refl }) target refl refl
  running GHcall same target = calls same g.part.phase
  running (GLd rd gpa) same target =
      access (GLd rd gpa) (answer.Val (g.content gpa)) (λ n. answer.Val (found_after plan past n (offset_of plan gpa))) [] gpa target (λ pool. refl) (λ shown. refl) (λ n. refl) (λ n. refl) same any refl (meets plan g.part gpa) refl
  running (GSt rs gpa) same target = access (GSt rs gpa) answer.Done (λ n. answer.Done) (slice_index (g.registers run.vid).gpr rs ∷ []) gpa target (λ pool. refl) (λ shown. refl) (λ n. refl) (λ n. refl) same any refl (meets plan g.part gpa) refl
  running GIrq same target = interrupted same g.part.phase
  running Go same target = cc

  -- a command that aims at the guest, which lives or has ended
  pub at_own : (cmd : Cmd) → target_in plan (ctx.Guest run) cpu.lpid cmd ≡ AtGuest run.lpid →
      Change plan past cpu (entry_of cmd (deed_after plan past (ask_of cmd) cmd (AtGuest run.lpid)))
  at_own cmd target = by_life (run.generation == g.part.generation) refl where
    deed : Bool → Deed
    deed b = if b then deed_running plan run g (found_after plan past) any (ask_of cmd) cmd else deed_gone (ask_of cmd)

    by_life : (b : Bool) → (run.generation == g.part.generation) ≡ b → Change plan past cpu (entry_of cmd (deed b))
    by_life true t = running cmd (test_same run.generation g.part.generation t) target
    by_life false t = change.Gone (record {
      run = run;
      before = h;
      cpu_is = record { ctx_is = refl; hand_is = refl; lpid_is = refl };
      parts = at_guest_same plan past (entry_of cmd (deed false)) run.lpid target refl;
      pool = refl;
    })
