-- An Invalid page holds zeros.
use Rattle.std.proofs.Common.{◌≡◌, ℕ, List, [], ◌∷◌, Bool, true, false, ◌==◌, ◌&&◌, if◌then◌else◌, refl, ap, sym, ◌∙◌, Option, Some, None, arith}
use Rattle.std.specs.Prelude.{unwrap_or}
use Rattle.std.proofs.lemmas.Grind.{common_steps}
use Rattle.std.proofs.lemmas.Bool.{and_parts}
use Rattle.pef_model.specs.declared.state.Kind.{Kind}
use Rattle.pef_model.specs.declared.state.Kind.TheVariants as kind
use Rattle.pef_model.specs.declared.state.Run.{Run}
use Rattle.pef_model.specs.declared.state.Ctx.{Ctx}
use Rattle.pef_model.specs.declared.state.Ctx.TheVariants as ctx
use Rattle.pef_model.specs.declared.command.Cmd.{Cmd}
use Rattle.pef_model.specs.declared.command.Cmd.TheVariants.{UInval, GLd, GSt}
use Rattle.pef_model.specs.declared.command.Code.TheVariants.{USuccess}
use Rattle.pef_model.specs.declared.state.Work.TheVariants.{Inward, Outward}
use Rattle.pef_model.specs.declared.entry.Answer.{Answer}
use Rattle.pef_model.specs.declared.entry.Answer.TheVariants.{Done, Val, Ret}
use Rattle.pef_model.specs.declared.entry.PoolSaw.{PoolSaw}
use Rattle.pef_model.specs.Plan.{Plan}
use Rattle.pef_model.specs.Event.{Event, newest}
use Rattle.pef_model.specs.GuestPart.{GuestPart, page_of, unmapped_kind}
use Rattle.pef_model.specs.Deed.{Deed}
use Rattle.pef_model.specs.History.{guest_after, Extends, last_store, reg, page_after}
use Rattle.pef_model.proofs.Folds.{same_test, test_same}
use Rattle.pef_model.specs.SearchLaw.{step_decides, decides_doubleword}
use Rattle.pef_model.specs.TransitionLaw.{kind_given}
use Rattle.pef_model.specs.GuestLaw.{InvalidPageIsZero}
use Rattle.pef_model.proofs.KindsLeft.{each_entry_leaves_kinds}
use Rattle.pef_model.proofs.Stores.{last_store_is_newest}
use Rattle.pef_model.proofs.DeedOf.{deed_is}

secure_not_invalid : kind.Secure ≡ kind.Invalid → ⊥
secure_not_invalid h = cc

-- a page without its normal frame is Invalid where it was
unmapped_invalid : (k : Kind) → unmapped_kind k ≡ kind.Invalid → k ≡ kind.Invalid
unmapped_invalid kind.Invalid h = refl
unmapped_invalid kind.Secure h = cc
unmapped_invalid kind.Out h = cc
unmapped_invalid (kind.Shared frame fresh) h = cc

-- no entry makes a page Invalid
by_page : (b : Bool) (new old : Kind) → (new ≡ kind.Invalid → old ≡ kind.Invalid) → unwrap_or (if b then Some new else None) old ≡ kind.Invalid → old ≡ kind.Invalid
by_page true new old was h = was h
by_page false new old was h = h

invalid_before : (plan : Plan) (g : GuestPart) (lpid gfn : ℕ) (c : Ctx) (cmd : Cmd) (a : Answer) (pool : Option PoolSaw) →
    unwrap_or (kind_given plan g lpid gfn c cmd a pool) (g.pages gfn).kind ≡ kind.Invalid → (g.pages gfn).kind ≡ kind.Invalid
invalid_before plan g lpid gfn (ctx.Guest run) (GLd rd gpa) (Val value) (Some saw) h = by_page ((run.lpid == lpid) && (page_of plan gpa == gfn)) kind.Secure (g.pages gfn).kind (λ is. cc) h
invalid_before plan g lpid gfn (ctx.Guest run) (GSt rs gpa) Done (Some saw) h = by_page ((run.lpid == lpid) && (page_of plan gpa == gfn)) kind.Secure (g.pages gfn).kind (λ is. cc) h
invalid_before plan g lpid gfn (ctx.Uv (Inward move)) cmd (Ret USuccess) pool h = by_page ((move.lpid == lpid) && (move.gfn == gfn)) kind.Secure (g.pages gfn).kind (λ is. cc) h
invalid_before plan g lpid gfn (ctx.Uv (Outward move)) cmd (Ret USuccess) pool h = by_page ((move.lpid == lpid) && (move.gfn == gfn)) kind.Out (g.pages gfn).kind (λ is. cc) h
invalid_before plan g lpid gfn ctx.Hv (UInval named gpa order) (Ret USuccess) pool h =
    by_page ((named == lpid) && (page_of plan gpa == gfn)) (unmapped_kind (g.pages gfn).kind) (g.pages gfn).kind (unmapped_invalid (g.pages gfn).kind) h
invalid_before plan g lpid gfn c cmd a pool h = h

-- a store to an address that was done leaves the page Secure
store_secures : (plan : Plan) (past : List Event) (e : Event) (run : Run) (rs gpa : ℕ) → Extends plan past e → e.saw.before ≡ ctx.Guest run → e.trace.cmd ≡ GSt rs gpa → e.trace.answer ≡ Done → e.saw.frame ≡ None →
    (page_after plan (e ∷ past) run.lpid (page_of plan gpa)).kind ≡ kind.Secure
store_secures plan past e run rs gpa extends before cmd_is done own =
    let told_deed = deed_is plan past e (ctx.Guest run) (GSt rs gpa) extends before cmd_is in
    let answer_is = ap (λ (d : Deed). d.answer) told_deed in
    let pool_is = ap (λ (d : Deed). d.pool) told_deed in
    let here = same_test run.lpid in
    let there = same_test (page_of plan gpa) in
    each_entry_leaves_kinds plan past e run.lpid (page_of plan gpa) extends ∙ grind (arith, common_steps)

-- the store that an entry is
record IsStoreBy (lpid gpa : ℕ) (c : Ctx) (cmd : Cmd) (a : Answer) (frame : Option ℕ) : Type 0 where
  run : Run
  rs : ℕ
  before : c ≡ ctx.Guest run
  cmd_is : cmd ≡ GSt rs gpa
  answer_is : a ≡ Done
  frame_is : frame ≡ None
  guest_is : run.lpid ≡ lpid

store_by : (plan : Plan) (lpid gpa : ℕ) (past : List Event) (c : Ctx) (cmd : Cmd) (a : Answer) (frame : Option ℕ) (bytes : List ℕ) (value : ℕ) → step_decides plan lpid gpa past c cmd a frame bytes ≡ Some value →
    IsStoreBy lpid gpa c cmd a frame
store_by plan lpid gpa past (ctx.Guest run) (GSt rs at) Done None bytes value h = by_test ((run.lpid == lpid) && (at == gpa)) refl h where
  by_test : (b : Bool) → (run.lpid == lpid) && (at == gpa) ≡ b → (if b then Some (reg plan past lpid run.vid rs) else None) ≡ Some value → IsStoreBy lpid gpa (ctx.Guest run) (GSt rs at) Done None
  by_test true t k =
      let both = and_parts (run.lpid == lpid) (at == gpa) t in
      record { run = run; rs = rs; before = refl; cmd_is = ap (GSt rs) (test_same at gpa both.1); answer_is = refl; frame_is = refl; guest_is = test_same run.lpid lpid both.0 }
  by_test false t k = cc
store_by plan lpid gpa past c cmd a frame bytes value h = cc

-- an entry leaves zeros in a page that is Invalid after it
zero_after : (plan : Plan) (past : List Event) (e : Event) (lpid gpa : ℕ) → Extends plan past e → (page_after plan (e ∷ past) lpid (page_of plan gpa)).kind ≡ kind.Invalid →
    ((page_after plan past lpid (page_of plan gpa)).kind ≡ kind.Invalid → last_store plan past lpid gpa ≡ 0) → last_store plan (e ∷ past) lpid gpa ≡ 0
zero_after plan past e lpid gpa extends invalid earlier = by_decision (decides_doubleword plan lpid gpa past e) refl where
  before : last_store plan past lpid gpa ≡ 0
  before = earlier (
      invalid_before plan (guest_after plan lpid past).part lpid (page_of plan gpa) e.saw.before e.trace.cmd e.trace.answer e.saw.pool
      (sym (each_entry_leaves_kinds plan past e lpid (page_of plan gpa) extends) ∙ invalid))

  by_decision : (o : Option ℕ) → decides_doubleword plan lpid gpa past e ≡ o → last_store plan (e ∷ past) lpid gpa ≡ 0
  by_decision None is =
      last_store_is_newest plan (e ∷ past) lpid gpa
      ∙ ap (λ (o : Option ℕ). unwrap_or o (newest (decides_doubleword plan lpid gpa) 0 past)) is
      ∙ sym (last_store_is_newest plan past lpid gpa) ∙ before
  by_decision (Some value) is =
      let step = store_by plan lpid gpa past e.saw.before e.trace.cmd e.trace.answer e.saw.frame e.bytes value is in
      absurd (secure_not_invalid (
      sym (store_secures plan past e step.run step.rs gpa extends step.before step.cmd_is step.answer_is step.frame_is)
      ∙ ap (λ (l : ℕ). (page_after plan (e ∷ past) l (page_of plan gpa)).kind) step.guest_is ∙ invalid))

pub invalid_page_is_zero : InvalidPageIsZero
invalid_page_is_zero plan [] lpid gpa legal invalid = refl
invalid_page_is_zero plan (e ∷ past) lpid gpa legal invalid = zero_after plan past e lpid gpa legal.0 invalid (invalid_page_is_zero plan past lpid gpa legal.1)
