-- A step of a guest stores nothing in a page that moves or is Out.
use Rattle.std.proofs.Common.{◌≡◌, ℕ, ◌%◌, nat_lt, List, Bool, true, false, refl, ap, sym, subst, ◌∙◌, ◌==◌, if◌then◌else◌, Option, Some, None, is_some, slice_index, ◌+◌, ◌∷◌, []}
use Rattle.pef_model.specs.declared.state.Phase.{Phase}
use Rattle.pef_model.specs.declared.state.Phase.TheVariants as phase
use Rattle.pef_model.specs.declared.state.Kind.{Kind}
use Rattle.pef_model.specs.declared.state.Kind.TheVariants.{Out}
use Rattle.pef_model.specs.declared.state.Mover.{Mover}
use Rattle.pef_model.specs.declared.state.Run.{Run}
use Rattle.pef_model.specs.declared.state.Ctx.{Ctx}
use Rattle.pef_model.specs.declared.state.Ctx.TheVariants as ctx
use Rattle.pef_model.specs.declared.command.Cmd.{Cmd}
use Rattle.pef_model.specs.declared.command.Cmd.TheVariants.{HLd, HSt, HSelect, HEnter, GSt, Go}
use Rattle.pef_model.specs.declared.entry.Answer.{Answer}
use Rattle.pef_model.specs.declared.entry.Answer.TheVariants.{Done}
use Rattle.pef_model.specs.Plan.{Plan}
use Rattle.pef_model.specs.Event.{Event}
use Rattle.pef_model.specs.Target.{Ask, AtGuest, target_in, is_guest, frame_of}
use Rattle.pef_model.specs.Cpu.{CpuPart}
use Rattle.pef_model.specs.GuestPart.{Page, Meeting, NoPlace, Moves, Private, Unbacked, meets, meets_in, meets_page, meets_kind, page_of, Normal, is_in_slot}
use Rattle.pef_model.specs.Guest.{Guest, stored_in}
use Rattle.pef_model.specs.Deed.{Deed, deed_access, deed_running, deed_gone}
use Rattle.pef_model.specs.History.{cpu_after, guest_after, pool_after, deed_after, Extends, found_after}
use Rattle.pef_model.proofs.Aims.{own_guest}
use Rattle.pef_model.proofs.Folds.{test_same}
use Rattle.pef_model.proofs.Puts.{apart_by}
use Rattle.pef_model.proofs.Changes.{asked}
use Rattle.pef_model.proofs.Paging.{pages}
use Rattle.pef_model.proofs.KeptStores.{StoresNothing}

-- what an access meets where it isn't done in a page of the guest's own
abbrev pub Fails : Meeting → Type 0
Fails Private = ⊥
Fails Unbacked = ⊥
Fails m = Unit {0}

-- a page to which no access is done
abbrev pub IsAway : Page → Type 0
IsAway page = Fails (meets_page page)

-- one that moves
pub moves_away : (page : Page) (mover : Mover) → page.mover ≡ Some mover → IsAway page
moves_away page mover moves = subst (λ (m : Option Mover). Fails (if is_some m then Moves else meets_kind page.kind)) (sym moves) tt

-- one that is Out
pub out_away : (page : Page) → page.kind ≡ Out → IsAway page
out_away page out = by_mover page.mover where
  by_mover : (mover : Option Mover) → Fails (if is_some mover then Moves else meets_kind page.kind)
  by_mover None = subst (λ (k : Kind). Fails (meets_kind k)) (sym out) tt
  by_mover (Some mover) = tt

module _ (plan : Plan) (g : Guest) (run : Run) (found : ℕ → ℕ → ℕ) (bytes : List ℕ) (gpa : ℕ) where
  -- the value that a step which does this gives the doubleword there
  abbrev stores : Cmd → Deed → Option ℕ
  stores cmd deed = stored_in (ctx.Guest run) plan g cmd deed.answer deed.frame bytes gpa

  -- a store that is done in no page of the guest's own stores nothing
  failed : (rs at : ℕ) (ask : Ask) (out : List ℕ) (any : Bool) (m : Meeting) → Fails m → stores (GSt rs at) (deed_access ask Done (λ n. Done) out any m) ≡ None
  failed rs at ask out any Private fails = absurd fails
  failed rs at ask out any Unbacked fails = absurd fails
  failed rs at ask out any m fails = refl

  -- nor does one to another page
  elsewhere : (rs at : ℕ) (a : Answer) (frame : Option ℕ) → (page_of plan at == page_of plan gpa) ≡ false → stored_in (ctx.Guest run) plan g (GSt rs at) a frame bytes gpa ≡ None
  elsewhere rs at Done None other = ap (λ (b : Bool). if b then Some (slice_index (g.registers run.vid).gpr rs) else None) (apart_by (page_of plan) at gpa other)
  elsewhere rs at a frame other = refl

  module _ (away : IsAway (g.part.pages (page_of plan gpa))) where
    -- no access to the page is done
    fails_at : (at : ℕ) → (page_of plan at == page_of plan gpa) ≡ true → Fails (meets plan g.part at)
    fails_at at here = by_phase g.part.phase where
      page : Fails (meets_page (g.part.pages (page_of plan at)))
      page = subst (λ (gfn : ℕ). Fails (meets_page (g.part.pages gfn))) (sym (test_same _ _ here)) away

      by_place : (b : Bool) → Fails (if b then meets_page (g.part.pages (page_of plan at)) else NoPlace)
      by_place true = page
      by_place false = tt

      by_entry : (b c : Bool) → Fails (if b then (if c then Normal (frame_of plan g.part.entry.base + page_of plan at) else NoPlace) else NoPlace)
      by_entry true true = tt
      by_entry true false = tt
      by_entry false c = tt

      by_phase : (phase : Phase) → Fails (meets_in phase plan g.part at)
      by_phase phase.Normal = by_entry (at % 8 == 0) (nat_lt (page_of plan at) g.part.entry.length_)
      by_phase phase = by_place (is_in_slot plan g.part at)

    -- so no command of the guest stores there
    running_away : (any : Bool) (ask : Ask) (cmd : Cmd) → stores cmd (deed_running plan run g found any ask cmd) ≡ None
    running_away any ask (GSt rs at) = by_page (page_of plan at == page_of plan gpa) refl where
      by_page : (b : Bool) → (page_of plan at == page_of plan gpa) ≡ b → stores (GSt rs at) (deed_running plan run g found any ask (GSt rs at)) ≡ None
      by_page true t = failed rs at ask (slice_index (g.registers run.vid).gpr rs ∷ []) any (meets plan g.part at) (fails_at at t)
      by_page false t = elsewhere rs at _ _ t
    running_away any ask cmd = refl

  -- one of a guest that has ended doesn't either
  gone_away : (ask : Ask) (cmd : Cmd) → stores cmd (deed_gone ask) ≡ None
  gone_away ask (GSt rs at) = refl
  gone_away ask cmd = refl

module _ (plan : Plan) (past : List Event) (run : Run) (bytes : List ℕ) (gpa : ℕ) (away : IsAway (pages plan past run.lpid (page_of plan gpa))) where
  abbrev g : Guest
  g = guest_after plan run.lpid past

  -- what a deed stores there
  abbrev stored : Cmd → Deed → Option ℕ
  stored cmd deed = stores plan g run (found_after plan past) bytes gpa cmd deed

  -- whether the guest has ended or lives
  own_away : (asked : Ask) (cmd : Cmd) → stored cmd (deed_after plan past (record asked { before = ctx.Guest run }) cmd (AtGuest run.lpid)) ≡ None
  own_away asked cmd = by_life (run.generation == g.part.generation) where
    ask : Ask
    ask = record asked { before = ctx.Guest run }

    by_life : (b : Bool) → stored cmd (if b then deed_running plan run g (found_after plan past) (nat_lt 0 (pool_after plan past)) ask cmd else deed_gone ask) ≡ None
    by_life true = running_away plan g run (found_after plan past) bytes gpa away (nat_lt 0 (pool_after plan past)) ask cmd
    by_life false = gone_away plan g run (found_after plan past) bytes gpa ask cmd

  -- and at whatever its command aims
  deed_away : (asked : Ask) (l : ℕ) (cmd : Cmd) → stored cmd (deed_after plan past (record asked { before = ctx.Guest run }) cmd (target_in plan (ctx.Guest run) l cmd)) ≡ None
  deed_away asked l (HLd ra) = refl
  deed_away asked l (HSt ra value) = refl
  deed_away asked l (HSelect lpid vid) = refl
  deed_away asked l (HEnter lpid vid value) = refl
  deed_away asked l Go = refl
  deed_away asked l cmd = own_away asked cmd

  -- no step of the guest stores there
  step_away : (e : Event) → Extends plan past e → e.saw.before ≡ ctx.Guest run → stored_in (ctx.Guest run) plan g e.trace.cmd e.trace.answer e.saw.frame bytes gpa ≡ None
  step_away e extends before =
      let cpu : CpuPart = cpu_after plan e.trace.cpu past in
      ap (λ (x : Event). stored_in (ctx.Guest run) plan g e.trace.cmd x.trace.answer x.saw.frame bytes gpa) extends.is
      ∙ ap (λ (c : Ctx). stored e.trace.cmd (deed_after plan past (asked cpu c e.trace.cmd) e.trace.cmd (target_in plan c cpu.lpid e.trace.cmd)))
      (ap (λ (x : Event). x.saw.before) (sym extends.is) ∙ before)
      ∙ deed_away (asked cpu (ctx.Guest run) e.trace.cmd) cpu.lpid e.trace.cmd

-- nor does any other step
pub away_stores_nothing : (plan : Plan) (past : List Event) (e : Event) (lpid gpa : ℕ) → Extends plan past e → IsAway (pages plan past lpid (page_of plan gpa)) → StoresNothing plan past e lpid gpa
away_stores_nothing plan past e lpid gpa extends away touched = by_ctx e.saw.before refl touched where
  by_ctx : (c : Ctx) → e.saw.before ≡ c → is_guest lpid (target_in plan c e.saw.lpid e.trace.cmd) ≡ true → stored_in c plan (guest_after plan lpid past) e.trace.cmd e.trace.answer e.saw.frame e.bytes gpa ≡ None
  by_ctx ctx.Hv is t = refl
  by_ctx (ctx.Uv work) is t = refl
  by_ctx (ctx.Guest run) is t =
      let own : run.lpid ≡ lpid = own_guest plan run e.saw.lpid lpid e.trace.cmd t in
      subst (λ (l : ℕ). stored_in (ctx.Guest run) plan (guest_after plan l past) e.trace.cmd e.trace.answer e.saw.frame e.bytes gpa ≡ None) own
      (step_away plan past run e.bytes gpa (subst (λ (l : ℕ). IsAway (pages plan past l (page_of plan gpa))) (sym own) away) e extends is)
