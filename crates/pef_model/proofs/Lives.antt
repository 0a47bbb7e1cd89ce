-- How a guest lives after an entry: UV_WRITE_PATE alone changes its phase, its generation and its partition entry.
use Rattle.std.proofs.Common.{◌≡◌, ℕ, ◌+◌, ◌/◌, ◌^◌, ◌==◌, ◌&&◌, nat_le, Bool, true, false, not, if◌then◌else◌, List, [], ◌∷◌, Option, Some, None, refl, ap, sym, subst, ◌∙◌, arith}
use Rattle.std.proofs.Math.Nat.{zero-div}
use Rattle.std.proofs.lemmas.Bool.Decides.{nat_tests}
use Rattle.pef_model.specs.declared.state.Phase.TheVariants.{Absent, Normal}
use Rattle.pef_model.specs.declared.state.Work.TheVariants.{Inward}
use Rattle.pef_model.specs.declared.state.Ctx.{Ctx}
use Rattle.pef_model.specs.declared.state.Ctx.TheVariants as ctx
use Rattle.pef_model.specs.declared.command.Code.{Code}
use Rattle.pef_model.specs.declared.command.Code.TheVariants.{USuccess, UP2, UP3, UPermission}
use Rattle.pef_model.specs.declared.command.Cmd.{Cmd}
use Rattle.pef_model.specs.declared.command.Cmd.TheVariants.{HEnter, UPate, UPagein, UPageout, UInval, UReturn, GLd, GSt, GIrq}
use Rattle.pef_model.specs.declared.entry.Answer.{Answer}
use Rattle.pef_model.specs.declared.entry.Answer.TheVariants.{Done, Val, Ret, Step, Enter, Exit}
use Rattle.pef_model.specs.declared.entry.PoolSaw.{PoolSaw}
use Rattle.pef_model.specs.Plan.{Plan}
use Rattle.pef_model.specs.Event.{Event}
use Rattle.pef_model.specs.Target.{Alone, AtGuest, target_in, is_guest, touches_guest}
use Rattle.pef_model.specs.GuestPart.{GuestPart, page_of, with_entry, ended_normal, part_of_inval, part_of_access, part_in}
use Rattle.pef_model.specs.Guest.{Guest, next_guest}
use Rattle.pef_model.specs.PageOut.{has_frame}
use Rattle.pef_model.specs.Entry.{has_frames, may_write_in}
use Rattle.pef_model.specs.Deed.{Deed}
use Rattle.pef_model.specs.History.{cpu_after, guest_after, deed_after, part_after, Extends}
use Rattle.pef_model.specs.TransitionLaw.{Life, life_of, life_written, life_given, EachEntryLeavesLives}
use Rattle.pef_model.specs.NormalLaw.{EachPartitionEntryFits}
use Rattle.pef_model.proofs.DeedOf.{ask_in, deed_is}

-- a partition entry that is set
written_life : (g : GuestPart) (dw0 dw1 : ℕ) → life_of (with_entry g dw0 dw1) ≡ life_written g (record { base = dw0; length_ = dw1 })
written_life g dw0 dw1 = by_length (dw1 == 0) where
  by_length : (b : Bool) →
      life_of (if b then ended_normal (record g { entry = record { base = dw0; length_ = dw1 } }) else record g { entry = record { base = dw0; length_ = dw1 }; phase = Normal })
      ≡ (if b then life_of (ended_normal (record g { entry = record { base = dw0; length_ = dw1 } })) else life_of (record g { entry = record { base = dw0; length_ = dw1 }; phase = Normal }))
  by_length true = refl
  by_length false = refl

inval_life : (g : GuestPart) (code : Code) (gfn : ℕ) → life_of (part_of_inval g code gfn) ≡ life_of g
inval_life g USuccess gfn = refl
inval_life g code gfn = refl

access_life : (g : GuestPart) (gfn : ℕ) (pool : Option PoolSaw) → life_of (part_of_access g gfn pool) ≡ life_of g
access_life g gfn None = refl
access_life g gfn (Some saw) = refl

-- an entry that aims at the guest
aimed_life : (plan : Plan) (g : GuestPart) (pool : Option PoolSaw) (v cpu : ℕ) (bytes : List ℕ) (lpid l : ℕ) (c : Ctx) (cmd : Cmd) (a : Answer) → is_guest lpid (target_in plan c l cmd) ≡ true →
    life_of (part_in plan g c a cmd pool v cpu bytes) ≡ life_given g lpid c cmd a
aimed_life plan g pool v cpu bytes lpid l ctx.Hv (UPate named dw0 dw1) (Ret USuccess) t =
    written_life g dw0 dw1
    ∙ ap (λ (b : Bool). if b then life_written g (record { base = dw0; length_ = dw1 }) else life_of g) (sym (by_place (nat_le 1 named && nat_le named plan.guests) t)) where
      by_place : (b : Bool) → is_guest lpid (if b then AtGuest named else Alone) ≡ true → (named == lpid) ≡ true
      by_place true u = u
      by_place false u = cc
aimed_life plan g pool v cpu bytes lpid l ctx.Hv (UPate named dw0 dw1) (Ret code) t = refl
aimed_life plan g pool v cpu bytes lpid l ctx.Hv (UInval named gpa order) (Ret code) t = inval_life g code (page_of plan gpa)
aimed_life plan g pool v cpu bytes lpid l ctx.Hv cmd (Ret code) t = refl
aimed_life plan g pool v cpu bytes lpid l ctx.Hv (UReturn r0 r2 outs) Enter t = refl
aimed_life plan g pool v cpu bytes lpid l ctx.Hv (HEnter named vid value) Enter t = refl
aimed_life plan g pool v cpu bytes lpid l ctx.Hv cmd Enter t = refl
aimed_life plan g pool v cpu bytes lpid l ctx.Hv (UPagein named src gpa flags order) Step t = refl
aimed_life plan g pool v cpu bytes lpid l ctx.Hv (UPageout named dest gpa flags order) Step t = refl
aimed_life plan g pool v cpu bytes lpid l ctx.Hv cmd Step t = refl
aimed_life plan g pool v cpu bytes lpid l ctx.Hv cmd a t = refl
aimed_life plan g pool v cpu bytes lpid l (ctx.Uv (Inward move)) cmd (Ret USuccess) t = refl
aimed_life plan g pool v cpu bytes lpid l (ctx.Uv (Inward move)) cmd (Ret UP2) t = refl
aimed_life plan g pool v cpu bytes lpid l (ctx.Uv work) cmd (Ret USuccess) t = refl
aimed_life plan g pool v cpu bytes lpid l (ctx.Uv work) cmd a t = refl
aimed_life plan g pool v cpu bytes lpid l (ctx.Guest run) (GLd rd gpa) (Val value) t = access_life g _ pool
aimed_life plan g pool v cpu bytes lpid l (ctx.Guest run) cmd (Val value) t = refl
aimed_life plan g pool v cpu bytes lpid l (ctx.Guest run) (GSt rs gpa) Done t = access_life g _ pool
aimed_life plan g pool v cpu bytes lpid l (ctx.Guest run) cmd Done t = refl
aimed_life plan g pool v cpu bytes lpid l (ctx.Guest run) GIrq (Exit exit) t = refl
aimed_life plan g pool v cpu bytes lpid l (ctx.Guest run) cmd (Exit exit) t = refl
aimed_life plan g pool v cpu bytes lpid l (ctx.Guest run) cmd a t = refl

-- UV_WRITE_PATE is accepted only for a guest of the machine, and for an entry that fits
record IsAccepted (plan : Plan) (named dw0 dw1 : ℕ) : Type 0 where
  there : (nat_le 1 named && nat_le named plan.guests) ≡ true
  fits : has_frames plan dw0 dw1 ≡ true

code_fits : (may place fit : Bool) → Ret (if not may then UPermission else if not place then UP2 else if not fit then UP3 else USuccess) ≡ Ret USuccess → fit ≡ true
code_fits true true true h = refl
code_fits true true false h = cc
code_fits true false fit h = cc
code_fits false place fit h = cc

written_accepted : (plan : Plan) (past : List Event) (e : Event) (named dw0 dw1 : ℕ) → Extends plan past e → e.saw.before ≡ ctx.Hv → e.trace.cmd ≡ UPate named dw0 dw1 → e.trace.answer ≡ Ret USuccess →
    IsAccepted plan named dw0 dw1
written_accepted plan past e named dw0 dw1 extends before cmd_is answer_is =
    by_place (nat_le 1 named && nat_le named plan.guests) refl (sym (ap (λ (d : Deed). d.answer) (deed_is plan past e ctx.Hv (UPate named dw0 dw1) extends before cmd_is)) ∙ answer_is) where
      by_place : (b : Bool) → (nat_le 1 named && nat_le named plan.guests) ≡ b →
          (deed_after plan past (ask_in (cpu_after plan e.trace.cpu past) ctx.Hv (UPate named dw0 dw1)) (UPate named dw0 dw1) (if b then AtGuest named else Alone)).answer ≡ Ret USuccess → IsAccepted plan named dw0 dw1
      by_place true t h = record { there = t; fits = code_fits (may_write_in (part_after plan past named).phase) (has_frame plan dw0) (has_frames plan dw0 dw1) h }
      by_place false t h = cc

module _ (plan : Plan) (past : List Event) (e : Event) (lpid : ℕ) (extends : Extends plan past e) where
  abbrev g : GuestPart
  g = part_after plan past lpid

  -- an entry that aims at another object, or at another guest
  other_life : (c : Ctx) (cmd : Cmd) (a : Answer) → e.saw.before ≡ c → e.trace.cmd ≡ cmd → e.trace.answer ≡ a → is_guest lpid (target_in plan c e.saw.lpid cmd) ≡ false → life_of g ≡ life_given g lpid c cmd a
  other_life ctx.Hv (UPate named dw0 dw1) (Ret USuccess) before cmd_is answer_is t =
      let accepted = written_accepted plan past e named dw0 dw1 extends before cmd_is answer_is in
      ap (λ (b : Bool). if b then life_written g (record { base = dw0; length_ = dw1 }) else life_of g) (sym (ap (λ (b : Bool). is_guest lpid (if b then AtGuest named else Alone)) (sym accepted.there) ∙ t))
  other_life c cmd a before cmd_is answer_is t = refl

  life_after : life_of (part_after plan (e ∷ past) lpid) ≡ life_given g lpid e.saw.before e.trace.cmd e.trace.answer
  life_after = by_test (touches_guest plan lpid e) refl where
    whole : Guest
    whole = guest_after plan lpid past

    by_test : (b : Bool) → touches_guest plan lpid e ≡ b → life_of (if b then next_guest plan whole e else whole).part ≡ life_given g lpid e.saw.before e.trace.cmd e.trace.answer
    by_test true t = aimed_life plan g e.saw.pool e.saw.vid e.trace.cpu e.bytes lpid e.saw.lpid e.saw.before e.trace.cmd e.trace.answer t
    by_test false t = other_life e.saw.before e.trace.cmd e.trace.answer refl refl refl t

pub each_entry_leaves_lives : EachEntryLeavesLives
each_entry_leaves_lives plan past e lpid extends = life_after plan past e lpid extends

-- a guest's partition entry fits
abbrev Fits : Plan → Life → Type 0
Fits plan life = has_frames plan life.entry.base life.entry.length_ ≡ true

-- an entry that is set fits, and every other stays
fits_by : (plan : Plan) (past : List Event) (e : Event) (lpid : ℕ) → Extends plan past e → Fits plan (life_of (part_after plan past lpid)) → (c : Ctx) (cmd : Cmd) (a : Answer) →
    e.saw.before ≡ c → e.trace.cmd ≡ cmd → e.trace.answer ≡ a → Fits plan (life_given (part_after plan past lpid) lpid c cmd a)
fits_by plan past e lpid extends fits ctx.Hv (UPate named dw0 dw1) (Ret USuccess) before cmd_is answer_is = by_name (named == lpid) where
  g : GuestPart
  g = part_after plan past lpid

  by_length : (b : Bool) → Fits plan (if b then record { phase = Absent; generation = g.generation + 1; entry = record { base = dw0; length_ = dw1 } } else record { phase = Normal; generation = g.generation; entry = record { base = dw0; length_ = dw1 } })
  by_length true = let accepted = written_accepted plan past e named dw0 dw1 extends before cmd_is answer_is in accepted.fits
  by_length false = let accepted = written_accepted plan past e named dw0 dw1 extends before cmd_is answer_is in accepted.fits

  by_name : (b : Bool) → Fits plan (if b then life_written g (record { base = dw0; length_ = dw1 }) else life_of g)
  by_name true = by_length (dw1 == 0)
  by_name false = fits
fits_by plan past e lpid extends fits c cmd a before cmd_is answer_is = fits

-- at the start there is no page
start_fits : (plan : Plan) → has_frames plan 0 0 ≡ true
start_fits plan = let none : 0 / 2 ^ plan.shift ≡ 0 = zero-div (2 ^ plan.shift) in grind (arith, nat_tests)

pub each_partition_entry_fits : EachPartitionEntryFits
each_partition_entry_fits plan [] lpid legal = start_fits plan
each_partition_entry_fits plan (e ∷ past) lpid legal =
    subst (Fits plan) (sym (each_entry_leaves_lives plan past e lpid legal.0))
    (fits_by plan past e lpid legal.0 (each_partition_entry_fits plan past lpid legal.1) e.saw.before e.trace.cmd e.trace.answer refl refl refl)
