-- What a guest's load and store do in a normal frame.
use Rattle.std.proofs.Common.{◌≡◌, ℕ, ◌+◌, ◌%◌, ◌^◌, ◌≤◌, ◌==◌, Bool, true, false, if◌then◌else◌, List, [], ◌∷◌, length, Option, Some, slice_index, refl, ap, sym, subst, ◌∙◌}
use Rattle.pef_model.specs.declared.state.Phase.{Phase}
use Rattle.pef_model.specs.declared.state.Phase.TheVariants as phase
use Rattle.pef_model.specs.declared.state.Run.{Run}
use Rattle.pef_model.specs.declared.state.Ctx.TheVariants as ctx
use Rattle.pef_model.specs.declared.state.Regs.{Regs}
use Rattle.pef_model.specs.declared.state.Tag.{Tag}
use Rattle.pef_model.specs.declared.command.Cmd.{Cmd}
use Rattle.pef_model.specs.declared.command.Cmd.TheVariants.{GLd, GSt}
use Rattle.pef_model.specs.declared.entry.Answer.{Answer}
use Rattle.pef_model.specs.declared.entry.Answer.TheVariants.{Val, Done}
use Rattle.pef_model.specs.Plan.{Plan}
use Rattle.pef_model.specs.Event.{Mark}
use Rattle.pef_model.specs.Cpu.{CpuPart}
use Rattle.pef_model.specs.Doubleword.{doubleword, with_doubleword}
use Rattle.pef_model.specs.Guest.{Guest as GuestWhole}
use Rattle.pef_model.specs.GuestPart.{Meeting, NoPlace, Normal, meets}
use Rattle.pef_model.specs.Memory.{offset_of, overwritten, write_in, after_writes}
use Rattle.pef_model.specs.Seal.{doublewords}
use Rattle.pef_model.specs.Deed.{deed_access}
use Rattle.pef_model.specs.History.{entry_of}
use Rattle.pef_model.proofs.Folds.{same_test, test_same}
use Rattle.pef_model.proofs.Places.{room_at}
use Rattle.pef_model.proofs.Written.{doubleword_overwrites}
use Rattle.pef_frames.specs.Pool.{PoolState}
use Rattle.pef_guest.specs.declared.cpu.Cpu.{Cpu}
use Rattle.pef_regs.specs.declared.vcpu.Vcpu.{Vcpu}
use Rattle.pef_guest.specs.declared.guest.Guest.{Guest}
use Rattle.pef_guest.specs.Shows.{ShowsCpu, vcpu_at, Shows}
use Rattle.pef_guest.specs.Whole.{IsWhole}
use Rattle.pef_guest.specs.Ready.{IsRunning}
use Rattle.pef_guest.specs.Refused.{Refuses}
use Rattle.pef_regs.specs.Registers.{with_registers}
use Rattle.pef_guest.specs.Rows.{ask_running, entry_running}
use Rattle.pef_guest.specs.Does.{NormalPart, IsFoundIn, is_any_free, DoesLent}
use Rattle.pef_guest.proofs.Asked.{frames_stay, lent_does, makes_lent, RowLent}
use Rattle.pef_guest.specs.Aims.{frame_met}
use Rattle.pef_guest.proofs.OneVcpu.{with_step, keeps_guest, whole_vcpu, shows_own, shows_registers, shows_stays}
use Rattle.pef_access.specs.Access.{is_in_slot, meets_frame, meets_in_phase, meets_guest, through_at, after_load, after_store, register_at, with_change}
use Rattle.pef_access.proofs.Meets.{placed}
use Rattle.pef_access.proofs.AccessShows.{meets_is}

-- an access that goes into a normal frame meets it
met_through : (number : ℕ) (r : Meeting) → frame_met r ≡ Some number → r ≡ Normal number
met_through number (Normal n) is = cc
met_through number r is = absurd cc

-- its address is that of a doubleword
through_aligned : {S : Type 0} (guest : Guest S) (gpa number : ℕ) → through_at guest gpa ≡ Some number → gpa % 8 ≡ 0
through_aligned guest gpa number = by_phase guest.phase where
  by_entry : (b : Bool) → (gpa % 8 == 0) ≡ b → (o : Option ℕ) → frame_met (if b then meets_frame o else NoPlace) ≡ Some number → gpa % 8 ≡ 0
  by_entry true test o is = test_same (gpa % 8) 0 test
  by_entry false test o is = absurd cc

  by_place : (b : Bool) → is_in_slot guest.shift (length guest.pages.pages) guest.slots gpa ≡ b → (r : Meeting) → frame_met (if b then r else NoPlace) ≡ Some number → gpa % 8 ≡ 0
  by_place true test r is = (placed guest.shift (length guest.pages.pages) guest.slots gpa test).0
  by_place false test r is = absurd cc

  by_phase : (p : Phase) → frame_met (meets_in_phase p guest.shift guest.entry guest.slots guest.pages gpa) ≡ Some number → gpa % 8 ≡ 0
  by_phase phase.Normal is = by_entry (gpa % 8 == 0) refl _ is
  by_phase p is = by_place (is_in_slot guest.shift (length guest.pages.pages) guest.slots gpa) refl _ is

module _ {S : Type 0} {takes : S → ℕ → ℕ → Type 0} {old : Guest S} {cpu : Cpu} {run : Run} (runs : IsRunning cpu old run) (whole : IsWhole takes old) (gpa number : ℕ) (through : through_at old gpa ≡ Some number) (frame : List ℕ) (size : length frame ≡ 2 ^ old.shift) where
  -- the doubleword lies in the frame
  pub room_through : gpa % length frame + 8 ≤ length frame
  room_through = subst (λ (n : ℕ). gpa % n + 8 ≤ n) (sym size) (room_at old.shift gpa whole.shift.0 (through_aligned old gpa number through))

  -- a store leaves there what the definitions say of its writes
  pub store_leaves : (rs : ℕ) →
      with_doubleword frame (gpa % length frame) (register_at old run.vid rs) ≡ after_writes number frame (write_in old.shift (ctx.Guest run) (GSt rs gpa) Done (doublewords (register_at old run.vid rs ∷ [])) number)
  store_leaves rs =
      let value : ℕ = register_at old run.vid rs in
      ap (λ (n : ℕ). with_doubleword frame (gpa % n) value) size
      ∙ sym (doubleword_overwrites frame (gpa % 2 ^ old.shift) value)
      ∙ sym (ap (λ (b : Bool). if b then overwritten frame (gpa % 2 ^ old.shift) (doublewords (value ∷ [])) else frame) (same_test number))

  module _ (stands : S → Tag → List ℕ → List ℕ → Type 0) (image : S → Tag → List ℕ → List ℕ) (pool : PoolState) where
    -- the frame that is lent
    abbrev lent : NormalPart
    lent = record { number = number; bytes = frame }

    -- the guest with the registers of its vCPU changed, one step later
    abbrev changed : (Regs → Regs) → Guest S
    changed change = with_change (record old { steps = old.steps + 1 }) run.vid change

    module _ (plan : Plan) (g : GuestWhole) (shows : Shows stands image plan old g) where
      -- the access meets the frame in the model too
      met : Normal number ≡ meets plan g.part gpa
      met = sym (met_through number (meets_guest old gpa) through) ∙ meets_is stands image plan old g gpa shows

      -- at this offset
      offset_is : gpa % length frame ≡ offset_of plan gpa
      offset_is = ap (λ (n : ℕ). gpa % n) (size ∙ ap (λ (n : ℕ). 2 ^ n) shows.shift)

      -- the vCPU's registers are those of the model's
      registers_are : (vcpu_at old run.vid).regs ≡ g.registers run.vid
      registers_are = (shows_own stands image plan old g run.vid shows runs.vid).registers

    -- a command of the vCPU that changes its registers, and leaves these bytes
    lent_changes : (cmd : Cmd) (a : Answer) (left : List ℕ) (change : Regs → Regs) → Refuses (ctx.Guest run) cmd old (changed change) cpu cpu pool pool a →
        ((plan : Plan) (g : GuestWhole) (found : ℕ → ℕ → ℕ) (c : CpuPart) (mark : Mark) → Shows stands image plan old g → ShowsCpu cpu c → IsFoundIn (Some lent) found →
        RowLent takes stands image cmd old (changed change) cpu cpu pool pool a (Some lent) left run runs.ctx plan g c (entry_running plan g found c run (is_any_free pool) mark cmd)) →
        DoesLent takes stands image cmd old (changed change) cpu cpu pool pool (Some lent) left a
    lent_changes cmd a left change refused row =
        let vcpu : Vcpu = with_registers (vcpu_at old run.vid) (change (vcpu_at old run.vid).regs) in
        lent_does runs (Some lent) left (whole_vcpu takes old run.vid vcpu whole) (keeps_guest old old.pages run.vid vcpu refl) (record { phase = refl; generation = refl; entry = refl }) (λ gfn mover same other moves. moves)
        (frames_stay old (with_step old old.pages run.vid vcpu) pool (λ n. refl)) (λ unused. refl) refused
        (makes_lent takes stands image cmd old (changed change) cpu cpu pool pool a (Some lent) left run runs.ctx runs.generation row)

    -- a load gives what the frame holds
    pub load_through_does : (rd : ℕ) → DoesLent takes stands image (GLd rd gpa) old (changed (after_load rd (doubleword frame (gpa % length frame)))) cpu cpu pool pool (Some lent) frame (Val (doubleword frame (gpa % length frame)))
    load_through_does rd = lent_changes (GLd rd gpa) _ frame (after_load rd (doubleword frame (gpa % length frame))) tt (λ plan g found c mark shows shows_cpu finds.
        let value_is : found number (offset_of plan gpa) ≡ doubleword frame (gpa % length frame) = finds (offset_of plan gpa) ∙ ap (doubleword frame) (sym (offset_is plan g shows)) in
        subst (λ (r : Meeting). RowLent takes stands image (GLd rd gpa) old (changed (after_load rd (doubleword frame (gpa % length frame)))) cpu cpu pool pool (Val (doubleword frame (gpa % length frame))) (Some lent) frame run runs.ctx plan g c
        (entry_of (ask_running run c) mark (GLd rd gpa) (deed_access (ask_running run c) (Val (g.content gpa)) (λ n. Val (found n (offset_of plan gpa))) [] (is_any_free pool) r))) (met plan g shows)
        (subst (λ (v : ℕ). RowLent takes stands image (GLd rd gpa) old (changed (after_load rd v)) cpu cpu pool pool (Val v) (Some lent) frame run runs.ctx plan g c
        (entry_of (ask_running run c) mark (GLd rd gpa) (deed_access (ask_running run c) (Val (g.content gpa)) (λ n. Val (found n (offset_of plan gpa))) [] (is_any_free pool) (Normal number)))) value_is (
          record {
            row = record {
              answered = refl;
              guest = shows_registers stands image plan old g run.vid shows runs.vid (after_load rd (found number (offset_of plan gpa)));
              cpu_is = shows_stays run cpu c runs.ctx shows_cpu;
            };
            pool = refl;
          },
          (refl, refl),
        )))

    -- a store changes the frame, and none of the guest's own pages
    pub store_through_does : (rs : ℕ) → DoesLent takes stands image (GSt rs gpa) old (changed after_store) cpu cpu pool pool (Some lent) (with_doubleword frame (gpa % length frame) (register_at old run.vid rs)) Done
    store_through_does rs = lent_changes (GSt rs gpa) Done (with_doubleword frame (gpa % length frame) (register_at old run.vid rs)) after_store tt (λ plan g found c mark shows shows_cpu finds.
        let value : ℕ = slice_index (g.registers run.vid).gpr rs in
        let written : with_doubleword frame (gpa % length frame) (register_at old run.vid rs) ≡ (if number == number then overwritten frame (offset_of plan gpa) (doublewords (value ∷ [])) else frame) =
        (λ i. with_doubleword frame (offset_is plan g shows i) (slice_index (registers_are plan g shows i).gpr rs))
        ∙ sym (doubleword_overwrites frame (offset_of plan gpa) value)
        ∙ sym (ap (λ (b : Bool). if b then overwritten frame (offset_of plan gpa) (doublewords (value ∷ [])) else frame) (same_test number)) in
        subst (λ (r : Meeting). RowLent takes stands image (GSt rs gpa) old (changed after_store) cpu cpu pool pool Done (Some lent) (with_doubleword frame (gpa % length frame) (register_at old run.vid rs)) run runs.ctx plan g c
        (entry_of (ask_running run c) mark (GSt rs gpa) (deed_access (ask_running run c) Done (λ n. Done) (value ∷ []) (is_any_free pool) r))) (met plan g shows) (
          record {
            row = record {
              answered = refl;
              guest = shows_registers stands image plan old g run.vid shows runs.vid after_store;
              cpu_is = shows_stays run cpu c runs.ctx shows_cpu;
            };
            pool = refl;
          },
          (refl, written),
        ))
