-- How an entry leaves a page's kind.
use Rattle.std.proofs.Common.{◌≡◌, ℕ, ◌==◌, ◌&&◌, nat_le, List, Bool, true, false, if◌then◌else◌, Option, Some, None, refl, ap, sym, ◌∙◌, arith}
use Rattle.std.specs.Prelude.{unwrap_or}
use Rattle.std.proofs.lemmas.Bool.Decides.{nat_tests}
use Rattle.pef_model.specs.declared.state.Kind.{Kind}
use Rattle.pef_model.specs.declared.state.Kind.TheVariants.{Secure, Out}
use Rattle.pef_model.specs.declared.state.Move.{Move}
use Rattle.pef_model.specs.declared.state.Work.TheVariants.{Inward, Outward}
use Rattle.pef_model.specs.declared.state.Ctx.{Ctx}
use Rattle.pef_model.specs.declared.state.Ctx.TheVariants as ctx
use Rattle.pef_model.specs.declared.command.Code.{Code}
use Rattle.pef_model.specs.declared.command.Code.TheVariants.{USuccess, UP2}
use Rattle.pef_model.specs.declared.command.Cmd.{Cmd}
use Rattle.pef_model.specs.declared.command.Cmd.TheVariants.{HEnter, UPate, UPagein, UPageout, UInval, UReturn, GLd, GSt, GHcall, GIrq, Go}
use Rattle.pef_model.specs.declared.entry.Answer.{Answer}
use Rattle.pef_model.specs.declared.entry.Answer.TheVariants.{Done, Val, Ret, Step, Enter, Exit}
use Rattle.pef_model.specs.declared.entry.PoolSaw.{PoolSaw}
use Rattle.pef_model.specs.Plan.{Plan}
use Rattle.pef_model.specs.Target.{Alone, AtGuest, AtFrame, target_in, is_guest, touches_guest}
use Rattle.pef_model.specs.GuestPart.{Page, GuestPart, put, page_of, secured, begun_out, begun_in, ended_out, refused_in, unmapped, unmapped_kind, part_of_write, part_in}
use Rattle.pef_model.specs.Guest.{Guest, next_guest}
use Rattle.pef_model.specs.History.{guest_after}
use Rattle.pef_model.specs.AnswerLaw.{can_answer}
use Rattle.pef_model.specs.TransitionLaw.{for_page, kind_given, EachEntryLeavesKinds}
use Rattle.pef_model.proofs.Folds.{same_test, test_same}
use Rattle.pef_model.proofs.Changes.{entry_gives}
use Rattle.pef_model.proofs.Taken.{IsThereIn, there_is}
use Rattle.pef_model.proofs.AnswerRows.{each_answer_is_of_its_row}

module _ (plan : Plan) (g : GuestPart) (v cpu : ℕ) (bytes : List ℕ) (lpid l gfn : ℕ) where
  -- the page's kind
  abbrev old : Kind
  old = (g.pages gfn).kind

  -- a page of this guest becomes one of this kind
  put_given : (named at : ℕ) (new : Page) (k : Kind) → (named == lpid) ≡ true → (at ≡ gfn → new.kind ≡ k) → (put g.pages at new gfn).kind ≡ unwrap_or (for_page lpid gfn named at k) old
  put_given named at new k here is = by_test (gfn == at) refl where
    given : (b : Bool) → (at == gfn) ≡ b → unwrap_or (if b then Some k else None) old ≡ unwrap_or (for_page lpid gfn named at k) old
    given b t = ap (λ (x : Bool). unwrap_or (if x then Some k else None) old) (sym (ap (λ (x : Bool). x && (at == gfn)) here ∙ t))

    by_test : (b : Bool) → (gfn == at) ≡ b → (if b then new else g.pages gfn).kind ≡ unwrap_or (for_page lpid gfn named at k) old
    by_test true t = let same = sym (test_same gfn at t) in is same ∙ given true (ap (λ (n : ℕ). at == n) (sym same) ∙ same_test at)
    by_test false t = let other : (at == gfn) ≡ false = grind (arith, nat_tests) in given false other

  -- none of another guest does
  none_given : (named at : ℕ) (k : Kind) → (named == lpid) ≡ false → old ≡ unwrap_or (for_page lpid gfn named at k) old
  none_given named at k other = ap (λ (b : Bool). unwrap_or (if b && (at == gfn) then Some k else None) old) (sym other)

  -- a page becomes another of its kind
  put_like : (at : ℕ) (new : Page) → new.kind ≡ (g.pages at).kind → (put g.pages at new gfn).kind ≡ old
  put_like at new is = by_test (gfn == at) refl where
    by_test : (b : Bool) → (gfn == at) ≡ b → (if b then new else g.pages gfn).kind ≡ old
    by_test true t = is ∙ ap (λ (n : ℕ). (g.pages n).kind) (sym (test_same gfn at t))
    by_test false t = refl

  write_like : (code : Code) (dw0 dw1 : ℕ) → ((part_of_write g code dw0 dw1).pages gfn).kind ≡ old
  write_like USuccess dw0 dw1 = entry_gives (λ (new : GuestPart). (new.pages gfn).kind ≡ old) g dw0 dw1 refl refl
  write_like code dw0 dw1 = refl

  -- a page's move that is accepted ends at its guest
  inward_there : (move : Move) (cmd : Cmd) → can_answer (ctx.Uv (Inward move)) cmd (Ret USuccess) ≡ true → is_guest lpid (target_in plan (ctx.Uv (Inward move)) l cmd) ≡ (move.lpid == lpid)
  inward_there move Go h = ap (λ (b : Bool). is_guest lpid (if b then AtGuest move.lpid else AtFrame move.frame)) h
  inward_there move cmd h = cc

  outward_there : (move : Move) (cmd : Cmd) → can_answer (ctx.Uv (Outward move)) cmd (Ret USuccess) ≡ true → is_guest lpid (target_in plan (ctx.Uv (Outward move)) l cmd) ≡ (move.lpid == lpid)
  outward_there move Go h = ap (λ (b : Bool). is_guest lpid (if b then AtGuest move.lpid else AtFrame move.frame)) h
  outward_there move cmd h = cc

  -- so does UV_PAGE_INVAL at the one that it names
  named_there : (named : ℕ) → (nat_le 1 named && nat_le named plan.guests) ≡ true → is_guest lpid (if nat_le 1 named && nat_le named plan.guests then AtGuest named else Alone) ≡ (named == lpid)
  named_there named there = ap (λ (b : Bool). is_guest lpid (if b then AtGuest named else Alone)) there

  -- an entry that aims at the guest
  aimed_kind : (c : Ctx) (cmd : Cmd) (a : Answer) (saw : Option PoolSaw) → can_answer c cmd a ≡ true → IsThereIn c plan cmd a → is_guest lpid (target_in plan c l cmd) ≡ true →
      ((part_in plan g c a cmd saw v cpu bytes).pages gfn).kind ≡ unwrap_or (kind_given plan g lpid gfn c cmd a saw) old
  aimed_kind ctx.Hv (UInval named gpa order) (Ret USuccess) saw can there t =
      put_given named (page_of plan gpa) (unmapped (g.pages (page_of plan gpa))) (unmapped_kind old) (sym (named_there named there) ∙ t) (λ here. ap (λ (n : ℕ). unmapped_kind (g.pages n).kind) here)
  aimed_kind ctx.Hv (UInval named gpa order) (Ret code) saw can there t = refl
  aimed_kind ctx.Hv (UPate named dw0 dw1) (Ret code) saw can there t = write_like code dw0 dw1
  aimed_kind ctx.Hv cmd (Ret code) saw can there t = refl
  aimed_kind ctx.Hv (UReturn r0 r2 outs) Enter saw can there t = refl
  aimed_kind ctx.Hv (HEnter named vid value) Enter saw can there t = refl
  aimed_kind ctx.Hv cmd Enter saw can there t = refl
  aimed_kind ctx.Hv (UPagein named src gpa flags order) Step saw can there t = put_like (page_of plan gpa) (begun_in (g.pages (page_of plan gpa)) cpu) refl
  aimed_kind ctx.Hv (UPageout named dest gpa flags order) Step saw can there t = put_like (page_of plan gpa) (begun_out (g.pages (page_of plan gpa)) cpu bytes) refl
  aimed_kind ctx.Hv cmd Step saw can there t = refl
  aimed_kind ctx.Hv cmd a saw can there t = refl
  aimed_kind (ctx.Uv (Inward move)) cmd (Ret USuccess) saw can there t =
      put_given move.lpid move.gfn (secured (g.pages move.gfn)) Secure (sym (inward_there move cmd can) ∙ t) (λ here. refl)
  aimed_kind (ctx.Uv (Inward move)) cmd (Ret UP2) saw can there t = put_like move.gfn (refused_in (g.pages move.gfn)) refl
  aimed_kind (ctx.Uv (Outward move)) cmd (Ret USuccess) saw can there t =
      put_given move.lpid move.gfn (ended_out (g.pages move.gfn)) Out (sym (outward_there move cmd can) ∙ t) (λ here. refl)
  aimed_kind (ctx.Uv work) cmd (Ret USuccess) saw can there t = refl
  aimed_kind (ctx.Uv work) cmd a saw can there t = refl
  aimed_kind (ctx.Guest run) (GLd rd gpa) (Val value) (Some saw) can there t = put_given run.lpid (page_of plan gpa) (secured (g.pages (page_of plan gpa))) Secure t (λ here. refl)
  aimed_kind (ctx.Guest run) (GLd rd gpa) (Val value) None can there t = refl
  aimed_kind (ctx.Guest run) cmd (Val value) saw can there t = refl
  aimed_kind (ctx.Guest run) (GSt rs gpa) Done (Some saw) can there t = put_given run.lpid (page_of plan gpa) (secured (g.pages (page_of plan gpa))) Secure t (λ here. refl)
  aimed_kind (ctx.Guest run) (GSt rs gpa) Done None can there t = refl
  aimed_kind (ctx.Guest run) cmd Done saw can there t = refl
  aimed_kind (ctx.Guest run) GHcall (Ret code) saw can there t = refl
  aimed_kind (ctx.Guest run) GHcall (Exit exit) saw can there t = refl
  aimed_kind (ctx.Guest run) GIrq (Exit exit) saw can there t = refl
  aimed_kind (ctx.Guest run) cmd (Exit exit) saw can there t = refl
  aimed_kind (ctx.Guest run) cmd a saw can there t = refl

  -- and one that aims at another object
  other_kind : (c : Ctx) (cmd : Cmd) (a : Answer) (saw : Option PoolSaw) → can_answer c cmd a ≡ true → IsThereIn c plan cmd a → is_guest lpid (target_in plan c l cmd) ≡ false →
      old ≡ unwrap_or (kind_given plan g lpid gfn c cmd a saw) old
  other_kind ctx.Hv (UInval named gpa order) (Ret USuccess) saw can there t = none_given named (page_of plan gpa) (unmapped_kind old) (sym (named_there named there) ∙ t)
  other_kind (ctx.Uv (Inward move)) cmd (Ret USuccess) saw can there t = none_given move.lpid move.gfn Secure (sym (inward_there move cmd can) ∙ t)
  other_kind (ctx.Uv (Outward move)) cmd (Ret USuccess) saw can there t = none_given move.lpid move.gfn Out (sym (outward_there move cmd can) ∙ t)
  other_kind (ctx.Guest run) (GLd rd gpa) (Val value) (Some saw) can there t = none_given run.lpid (page_of plan gpa) Secure t
  other_kind (ctx.Guest run) (GSt rs gpa) Done (Some saw) can there t = none_given run.lpid (page_of plan gpa) Secure t
  other_kind c cmd a saw can there t = refl

pub each_entry_leaves_kinds : EachEntryLeavesKinds
each_entry_leaves_kinds plan past e lpid gfn extends = by_test (touches_guest plan lpid e) refl where
  whole : Guest
  whole = guest_after plan lpid past

  by_test : (b : Bool) → touches_guest plan lpid e ≡ b →
      ((if b then next_guest plan whole e else whole).part.pages gfn).kind ≡ unwrap_or (kind_given plan whole.part lpid gfn e.saw.before e.trace.cmd e.trace.answer e.saw.pool) (whole.part.pages gfn).kind
  by_test true t =
      aimed_kind plan whole.part e.saw.vid e.trace.cpu e.bytes lpid e.saw.lpid gfn e.saw.before e.trace.cmd e.trace.answer e.saw.pool (each_answer_is_of_its_row plan past e extends) (there_is plan past e extends) t
  by_test false t =
      other_kind plan whole.part e.saw.vid e.trace.cpu e.bytes lpid e.saw.lpid gfn e.saw.before e.trace.cmd e.trace.answer e.saw.pool (each_answer_is_of_its_row plan past e extends) (there_is plan past e extends) t
