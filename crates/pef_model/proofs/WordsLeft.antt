-- Which entropy words a guest has left.
use Rattle.std.proofs.Common.{◌≡◌, ℕ, ◌+◌, ◌-◌, List, [], ◌∷◌, length, drop, Bool, true, false, cond, ◌==◌, ◌&&◌, if◌then◌else◌, refl, ap, sym, ◌∙◌, arith, Option, Some, None, length-drop}
use Rattle.std.specs.List.{filter}
use Rattle.std.proofs.lemmas.List.{length-map, drop-drop}
use Rattle.std.proofs.lemmas.List.Sums.{length-filter, sum_by-cons}
use Rattle.pef_model.specs.declared.config.EntropyWord.{EntropyWord}
use Rattle.pef_model.specs.declared.state.Phase.{Phase}
use Rattle.pef_model.specs.declared.state.Phase.TheVariants as phase
use Rattle.pef_model.specs.declared.state.Run.{Run}
use Rattle.pef_model.specs.declared.state.Work.TheVariants.{Inward}
use Rattle.pef_model.specs.declared.state.Ctx.{Ctx}
use Rattle.pef_model.specs.declared.state.Ctx.TheVariants as ctx
use Rattle.pef_model.specs.declared.command.Code.{Code}
use Rattle.pef_model.specs.declared.command.Code.TheVariants.{USuccess, UP2}
use Rattle.pef_model.specs.declared.command.Cmd.{Cmd}
use Rattle.pef_model.specs.declared.command.Cmd.TheVariants.{HEnter, UPate, URegslot, UUnregslot, UPagein, UPageout, UInval, UReturn, GLd, GSt, GHcall, GIrq}
use Rattle.pef_model.specs.declared.entry.Answer.{Answer}
use Rattle.pef_model.specs.declared.entry.Answer.TheVariants.{Done, Val, Ret, Step, Enter, Exit}
use Rattle.pef_model.specs.declared.entry.PoolSaw.{PoolSaw}
use Rattle.pef_model.specs.Plan.{Plan}
use Rattle.pef_model.specs.Event.{Event}
use Rattle.pef_model.specs.Target.{touches_guest}
use Rattle.pef_model.specs.GuestPart.{GuestPart, ended_normal, part_of_write, part_of_inval, part_of_access, part_in, page_of}
use Rattle.pef_model.specs.Guest.{Guest, is_drawing, next_guest}
use Rattle.pef_model.specs.PageOut.{page_out_code, bytes_out}
use Rattle.pef_model.specs.Deed.{Deed, deed_page_out_begin, returning, deed_running, deed_hypervisor, deed_guest_in, deed_gone}
use Rattle.pef_model.specs.History.{guest_after, part_after}
use Rattle.pef_model.specs.GuestLaw.{WordsAreCounted}
use Rattle.pef_model.specs.RandomLaw.{draws, given, WordsAreGivenInOrder, NoWordInDeeds}

-- how many words a step leaves
module _ (plan : Plan) (g : GuestPart) (pool : Option PoolSaw) (v cpu : ℕ) (bytes : List ℕ) where
  write_keeps : (code : Code) (dw0 dw1 : ℕ) → (part_of_write g code dw0 dw1).words ≡ g.words
  write_keeps USuccess dw0 dw1 = by_length (dw1 == 0) where
    by_length : (b : Bool) →
        (if b then ended_normal (record g { entry = record { base = dw0; length_ = dw1 } }) else record g { entry = record { base = dw0; length_ = dw1 }; phase = phase.Normal }).words ≡ g.words
    by_length true = refl
    by_length false = refl
  write_keeps code dw0 dw1 = refl

  inval_keeps : (code : Code) (gfn : ℕ) → (part_of_inval g code gfn).words ≡ g.words
  inval_keeps USuccess gfn = refl
  inval_keeps code gfn = refl

  access_keeps : (gfn : ℕ) (pool : Option PoolSaw) → (part_of_access g gfn pool).words ≡ g.words
  access_keeps gfn None = refl
  access_keeps gfn (Some saw) = refl

  words_by : (c : Ctx) (a : Answer) (cmd : Cmd) → (part_in plan g c a cmd pool v cpu bytes).words ≡ (if is_drawing c a cmd then g.words - 1 else g.words)
  words_by ctx.Hv Step (UPageout lpid dest gpa flags order) = refl
  words_by ctx.Hv Step (UPagein lpid src gpa flags order) = refl
  words_by ctx.Hv Enter (UReturn r0 r2 outs) = refl
  words_by ctx.Hv Enter (HEnter lpid named value) = refl
  words_by ctx.Hv (Ret code) (UPate lpid dw0 dw1) = write_keeps code dw0 dw1
  words_by ctx.Hv (Ret code) (URegslot lpid start size flags id) = refl
  words_by ctx.Hv (Ret code) (UUnregslot lpid id) = refl
  words_by ctx.Hv (Ret code) (UInval lpid gpa order) = inval_keeps code (page_of plan gpa)
  words_by ctx.Hv a cmd = refl
  words_by (ctx.Uv (Inward move)) (Ret USuccess) cmd = refl
  words_by (ctx.Uv (Inward move)) (Ret UP2) cmd = refl
  words_by (ctx.Uv work) (Ret USuccess) cmd = refl
  words_by (ctx.Uv work) a cmd = refl
  words_by (ctx.Guest run) (Val value) (GLd rd gpa) = access_keeps (page_of plan gpa) pool
  words_by (ctx.Guest run) Done (GSt rs gpa) = access_keeps (page_of plan gpa) pool
  words_by (ctx.Guest run) (Ret code) GHcall = refl
  words_by (ctx.Guest run) (Exit why) GHcall = refl
  words_by (ctx.Guest run) (Exit why) GIrq = refl
  words_by (ctx.Guest run) a cmd = refl

module _ (plan : Plan) (past : List Event) (e : Event) (lpid : ℕ) where
  abbrev g : Guest
  g = guest_after plan lpid past

  -- an entry that gives a word leaves the others
  pub count_after : (part_after plan (e ∷ past) lpid).words ≡ g.part.words - cond (draws plan lpid e) 1 0
  count_after = by_test (touches_guest plan lpid e) where
    drawing : Bool
    drawing = is_drawing e.saw.before e.trace.answer e.trace.cmd

    by_drawing : (b : Bool) → (if b then g.part.words - 1 else g.part.words) ≡ g.part.words - cond b 1 0
    by_drawing true = refl
    by_drawing false = omega arith

    by_test : (b : Bool) → (if b then next_guest plan g e else g).part.words ≡ g.part.words - cond (b && drawing) 1 0
    by_test true = words_by plan g.part e.saw.pool e.saw.vid e.trace.cpu e.bytes e.saw.before e.trace.answer e.trace.cmd ∙ by_drawing drawing
    by_test false = omega arith

  pub words_after : (guest_after plan lpid (e ∷ past)).words ≡ drop (cond (draws plan lpid e) 1 0) g.words
  words_after = by_test (touches_guest plan lpid e) where
    drawing : Bool
    drawing = is_drawing e.saw.before e.trace.answer e.trace.cmd

    by_drawing : (b : Bool) → (if b then drop 1 g.words else g.words) ≡ drop (cond b 1 0) g.words
    by_drawing true = refl
    by_drawing false = refl

    by_test : (b : Bool) → (if b then next_guest plan g e else g).words ≡ drop (cond (b && drawing) 1 0) g.words
    by_test true = by_drawing drawing
    by_test false = refl

  -- and counts it
  pub given_after : given plan lpid (e ∷ past) ≡ given plan lpid past + cond (draws plan lpid e) 1 0
  given_after = sum_by-cons (λ (x : Event). cond (draws plan lpid x) 1 0) e past ∙ omega arith

pub words_are_given_in_order : WordsAreGivenInOrder
words_are_given_in_order plan [] lpid = record { words = refl; count = omega arith }
words_are_given_in_order plan (e ∷ past) lpid =
    let before = words_are_given_in_order plan past lpid in
    let more = given_after plan past e lpid in
    record {
      words = words_after plan past e lpid ∙ ap (drop (cond (draws plan lpid e) 1 0)) before.words
          ∙ drop-drop (cond (draws plan lpid e) 1 0) (given plan lpid past) (plan.entropy lpid) ∙ ap (λ (n : ℕ). drop n (plan.entropy lpid)) (sym more);
      count = (let now = count_after plan past e lpid in let old = before.count in omega arith);
    }

pub words_are_counted : WordsAreCounted
words_are_counted lpid = record {
  start = λ config.
      let own : EntropyWord → Bool = (λ word. word.lpid == lpid) in
      length-map (filter own config.entropy) (λ (word : EntropyWord). word.left) ∙ length-filter own config.entropy;
  left = λ plan past counted.
      let are = words_are_given_in_order plan past lpid in
      are.count ∙ ap (λ (n : ℕ). n - given plan lpid past) (sym counted) ∙ sym (ap (λ (words : List ℕ). length words) are.words ∙ length-drop (given plan lpid past) (plan.entropy lpid));
}

-- no step reads the words that are left
pub no_word_in_deeds : NoWordInDeeds
no_word_in_deeds plan g words found any ask cmd = by_ctx ask.before where
  other : Guest
  other = record g { words = words }

  same_bytes : (lpid gfn : ℕ) (p : Phase) → bytes_out p plan other lpid gfn ≡ bytes_out p plan g lpid gfn
  same_bytes lpid gfn phase.Aborting = refl
  same_bytes lpid gfn p = refl

  by_hypervisor : (cmd : Cmd) → deed_hypervisor plan other any ask cmd ≡ deed_hypervisor plan g any ask cmd
  by_hypervisor (UPageout lpid dest gpa flags order) =
      ap (λ (bytes : List ℕ). returning ask (page_out_code plan g.part dest gpa flags order) (record (deed_page_out_begin plan g ask lpid dest gpa) { bytes = bytes })) (same_bytes lpid (page_of plan gpa) g.part.phase)
  by_hypervisor cmd = refl

  by_running : (run : Run) → deed_running plan run other found any ask cmd ≡ deed_running plan run g found any ask cmd
  by_running run = refl

  by_ctx : (c : Ctx) → deed_guest_in c plan other found any ask cmd ≡ deed_guest_in c plan g found any ask cmd
  by_ctx ctx.Hv = by_hypervisor cmd
  by_ctx (ctx.Uv (Inward move)) = refl
  by_ctx (ctx.Uv work) = refl
  by_ctx (ctx.Guest run) = ap (λ (d : Deed). if run.generation == g.part.generation then d else deed_gone ask) (by_running run)
