-- Alike entries that extend histories with as much in common are one to an onlooker.
use Rattle.std.proofs.Common.{◌≡◌, ◌≢◌, ℕ, Bool, true, false, if◌then◌else◌, List, [], refl, ap, sym, subst, ◌∙◌, nat_lt}
use Rattle.pef_model.specs.declared.state.Phase.{Phase}
use Rattle.pef_model.specs.declared.state.Phase.TheVariants.{Absent, Normal, Starting, Secure, Aborting}
use Rattle.pef_model.specs.declared.state.Ctx.{Ctx}
use Rattle.pef_model.specs.declared.state.Ctx.TheVariants as ctx
use Rattle.pef_model.specs.declared.command.Cmd.{Cmd}
use Rattle.pef_model.specs.Doubleword.{doubleword}
use Rattle.pef_model.specs.Guest.{Guest}
use Rattle.pef_model.specs.Plan.{Plan, with_entropy}
use Rattle.pef_model.specs.Event.{Event, mark_of}
use Rattle.pef_model.specs.Target.{Ask, Target, Alone, AtGuest, AtFrame, target_in, target_of, is_guest, uses_hand, is_sealing, shows_register}
use Rattle.pef_model.specs.Cpu.{CpuPart}
use Rattle.pef_model.specs.Deed.{Deed, answer_alone, answer_frame, deed_guest, deed_frame, deed_frame_in, deed_copy}
use Rattle.pef_model.specs.History.{cpu_after, guest_after, pool_after, frame_after, ask_of, entry_of, deed_after, next_entry, next_entry_by, found_after, register_shown}
use Rattle.pef_model.specs.SecretLaw.{open_cmd, open_answer, open_entry, AgreeButValue}
use Rattle.pef_model.specs.View.{view}
use Rattle.pef_model.specs.Alike.{AreAlikeOpen, begins_sealing, TouchesNoAborting}
use Rattle.pef_model.proofs.Folds.{test_same}
use Rattle.pef_model.proofs.Opened.{target_open, uses_hand_open, shows_open, shown_open, alone_open, frame_answer_open, sealing_agrees}
use Rattle.pef_model.proofs.Unworded.{unworded_frame, unworded}
use Rattle.pef_model.proofs.Deeds.{no_secret_in_deeds, same_deed, IsShut, bytes_shut}
use Rattle.pef_model.specs.declared.entry.Answer.TheVariants.{Val}

-- an entry without its stamp
abbrev pub unstamped : Event → Event
unstamped e = record e { trace = record e.trace { stamp = 0 } }

-- an entry as an onlooker may know it
abbrev pub opened : Event → Event
opened e = open_entry (unstamped e)

-- an entry is the one that its step adds to a history, whether or not its CPU is one of the machine's
abbrev pub IsNext : Plan → List Event → Event → Type 0
IsNext plan past e = e ≡ next_entry plan past (mark_of e) e.trace.cmd

-- what two runs have in common so far
pub record Same (plan : Plan) (words : ℕ → List ℕ) (past history : List Event) : Type 0 where
  pub cpu : (n : ℕ) → cpu_after plan n past ≡ cpu_after (with_entropy plan words) n history
  pub part : (lpid : ℕ) → (guest_after plan lpid past).part ≡ (guest_after (with_entropy plan words) lpid history).part
  pub pool : pool_after plan past ≡ pool_after (with_entropy plan words) history
  pub frame : (n : ℕ) → frame_after plan n past ≡ frame_after (with_entropy plan words) n history
  pub seen : view plan past ≡ view (with_entropy plan words) history

-- deeds at a normal frame
frames_agree : (plan : Plan) (n : ℕ) (bytes : List ℕ) (ask : Ask) (cmd other : Cmd) (c : Ctx) → open_cmd cmd ≡ open_cmd other →
    AgreeButValue c cmd (deed_frame_in c plan n bytes ask cmd) (deed_frame_in c plan n bytes ask other)
frames_agree plan n bytes ask cmd other ctx.Hv cmds = record {
  answer = frame_answer_open plan bytes cmd ∙ ap (answer_frame plan bytes) cmds ∙ sym (frame_answer_open plan bytes other);
  after = refl;
  pool = refl;
  frame = refl;
  bytes = λ unsealed. refl;
}
frames_agree plan n bytes ask cmd other (ctx.Uv work) cmds = same_deed (ctx.Uv work) cmd (deed_frame_in (ctx.Uv work) plan n bytes ask cmd)
frames_agree plan n bytes ask cmd other (ctx.Guest run) cmds = same_deed (ctx.Guest run) cmd (deed_frame_in (ctx.Guest run) plan n bytes ask cmd)

-- at a guest the plan's entropy words and the histories make no difference
same_plan : (plan : Plan) (words : ℕ → List ℕ) (past history : List Event) (ask : Ask) (other : Cmd) (h : Guest) → Same plan words past history →
    deed_guest (with_entropy plan words) h (found_after (with_entropy plan words) history) (nat_lt 0 (pool_after (with_entropy plan words) history)) ask other ≡ deed_guest plan h (found_after plan past) (nat_lt 0 (pool_after plan past)) ask other
same_plan plan words past history ask other h same =
    unworded plan words h (found_after (with_entropy plan words) history) (nat_lt 0 (pool_after (with_entropy plan words) history)) ask other
    ∙ (λ i. deed_guest plan h (λ n offset. doubleword (sym (same.frame n) i) offset) (nat_lt 0 (sym same.pool i)) ask other)

-- deeds at one target, after histories that have this in common
deeds_agree : (plan : Plan) (words : ℕ → List ℕ) (past history : List Event) (ask : Ask) (cmd other : Cmd) (t : Target) → Same plan words past history → open_cmd cmd ≡ open_cmd other →
    (deed_after plan past ask cmd t).shown ≡ (deed_after (with_entropy plan words) history ask other t).shown → AgreeButValue ask.before cmd (deed_after plan past ask cmd t) (deed_after (with_entropy plan words) history ask other t)
deeds_agree plan words past history ask cmd other Alone same cmds out =
    let answer : answer_alone plan ask.before cmd ≡ answer_alone plan ask.before other =
    alone_open plan ask.before cmd ∙ ap (answer_alone plan ask.before) cmds ∙ sym (alone_open plan ask.before other) in
    let shows : shows_register ask.before cmd ≡ shows_register ask.before other = shows_open ask.before cmd ∙ ap (shows_register ask.before) cmds ∙ sym (shows_open ask.before other) in
    record { answer = (λ i. open_answer ask.before (if shows i then Val ask.register else answer i)); after = refl; pool = refl; frame = refl; bytes = λ unsealed. refl }
deeds_agree plan words past history ask cmd other (AtFrame n) same cmds out =
    subst (λ (d : Deed). AgreeButValue ask.before cmd (deed_frame plan n (frame_after plan n past) ask cmd) d)
    (ap (λ (bytes : List ℕ). deed_frame plan n bytes ask other) (same.frame n) ∙ sym (unworded_frame plan words n (frame_after (with_entropy plan words) n history) ask other ask.before))
    (frames_agree plan n (frame_after plan n past) ask cmd other ask.before cmds)
deeds_agree plan words past history ask cmd other (AtGuest lpid) same cmds out =
    let g : Guest = guest_after plan lpid past in
    let h : Guest = guest_after (with_entropy plan words) lpid history in
    let is = same_plan plan words past history ask other h same in
    subst (λ (d : Deed). AgreeButValue ask.before cmd (deed_guest plan g (found_after plan past) (nat_lt 0 (pool_after plan past)) ask cmd) d) (sym is)
    (no_secret_in_deeds plan g h (found_after plan past) (nat_lt 0 (pool_after plan past)) ask cmd other (same.part lpid) cmds (out ∙ ap (λ (d : Deed). d.shown) is)).deeds

-- their bytes, where the guest is Aborting
deeds_public : (plan : Plan) (words : ℕ → List ℕ) (past history : List Event) (ask : Ask) (cmd other : Cmd) (lpid : ℕ) → Same plan words past history → open_cmd cmd ≡ open_cmd other →
    (deed_after plan past ask cmd (AtGuest lpid)).shown ≡ (deed_after (with_entropy plan words) history ask other (AtGuest lpid)).shown → (guest_after plan lpid past).part.phase ≡ Aborting →
    (deed_after plan past ask cmd (AtGuest lpid)).bytes ≡ (deed_after (with_entropy plan words) history ask other (AtGuest lpid)).bytes
deeds_public plan words past history ask cmd other lpid same cmds out aborts =
    let g : Guest = guest_after plan lpid past in
    let h : Guest = guest_after (with_entropy plan words) lpid history in
    let is = same_plan plan words past history ask other h same in
    (no_secret_in_deeds plan g h (found_after plan past) (nat_lt 0 (pool_after plan past)) ask cmd other (same.part lpid) cmds (out ∙ ap (λ (d : Deed). d.shown) is)).aborting aborts
    ∙ sym (ap (λ (d : Deed). d.bytes) is)

-- a phase is Aborting, or not
is_aborting_or : {A : Type 0} (p : Phase) → (p ≡ Aborting → A) → (p ≢ Aborting → A) → A
is_aborting_or Absent aborts private = private (λ h. cc)
is_aborting_or Normal aborts private = private (λ h. cc)
is_aborting_or Starting aborts private = private (λ h. cc)
is_aborting_or Secure aborts private = private (λ h. cc)
is_aborting_or Aborting aborts private = aborts refl

-- their bytes, where sealed pages tell nothing
deeds_shut : (plan : Plan) (words : ℕ → List ℕ) (past history : List Event) (ask : Ask) (cmd other : Cmd) (t : Target) → Same plan words past history → open_cmd cmd ≡ open_cmd other →
    (deed_after plan past ask cmd t).shown ≡ (deed_after (with_entropy plan words) history ask other t).shown → IsShut plan →
    (deed_after plan past ask cmd t).bytes ≡ (deed_after (with_entropy plan words) history ask other t).bytes
deeds_shut plan words past history ask cmd other Alone same cmds out shut = refl
deeds_shut plan words past history ask cmd other (AtFrame n) same cmds out shut = by_ctx ask.before where
  by_ctx : (c : Ctx) → (deed_frame_in c plan n (frame_after plan n past) ask cmd).bytes ≡ (deed_frame_in c (with_entropy plan words) n (frame_after (with_entropy plan words) n history) ask other).bytes
  by_ctx ctx.Hv = refl
  by_ctx (ctx.Uv work) = ap (λ (bytes : List ℕ). (deed_copy work n bytes ask).bytes) (same.frame n)
  by_ctx (ctx.Guest run) = refl
deeds_shut plan words past history ask cmd other (AtGuest lpid) same cmds out shut =
    let g : Guest = guest_after plan lpid past in
    let h : Guest = guest_after (with_entropy plan words) lpid history in
    let is = same_plan plan words past history ask other h same in
    bytes_shut plan shut g h (found_after plan past) (nat_lt 0 (pool_after plan past)) ask cmd other (same.part lpid) cmds (out ∙ ap (λ (d : Deed). d.shown) is)
    ∙ sym (ap (λ (d : Deed). d.bytes) is)

-- what a CPU's steps learn of it is the same for two such commands
asks_agree : (cpu other : CpuPart) (cmd with_ : Cmd) → cpu ≡ other → open_cmd cmd ≡ open_cmd with_ → ask_of cpu cmd ≡ ask_of other with_
asks_agree cpu other cmd with_ cpus cmds =
    let uses : uses_hand cpu.ctx cmd ≡ uses_hand cpu.ctx with_ = uses_hand_open cpu.ctx cmd ∙ ap (uses_hand cpu.ctx) cmds ∙ sym (uses_hand_open cpu.ctx with_) in
    let shown : register_shown cpu.ctx cmd cpu.own ≡ register_shown cpu.ctx with_ cpu.own = shown_open cpu.ctx cmd cpu.own ∙ ap (λ (x : Cmd). register_shown cpu.ctx x cpu.own) cmds ∙ sym (shown_open cpu.ctx with_ cpu.own) in
    (λ i. record { before = cpu.ctx; lpid = cpu.lpid; vid = cpu.vid; last = cpu.last; hand = if uses i then cpu.hand else []; register = shown i })
    ∙ ap (λ (x : CpuPart). ask_of x with_) cpus

module _ (plan : Plan) (words : ℕ → List ℕ) (past history : List Event) (e f : Event) (same : Same plan words past history) (p : IsNext plan past e) (q : IsNext (with_entropy plan words) history f) (alike : AreAlikeOpen e f) where
  abbrev ask : Ask
  ask = ask_of (cpu_after (with_entropy plan words) f.trace.cpu history) f.trace.cmd

  abbrev t : Target
  t = target_in plan ask.before ask.lpid f.trace.cmd

  abbrev deed : Deed
  deed = deed_after plan past ask e.trace.cmd t

  abbrev other_deed : Deed
  other_deed = deed_after (with_entropy plan words) history ask f.trace.cmd t

  is : e ≡ entry_of ask (mark_of e) e.trace.cmd deed
  is =
      let asks : ask_of (cpu_after plan e.trace.cpu past) e.trace.cmd ≡ ask =
      asks_agree (cpu_after plan e.trace.cpu past) (cpu_after (with_entropy plan words) f.trace.cpu history) e.trace.cmd f.trace.cmd
      (same.cpu e.trace.cpu ∙ ap (λ (n : ℕ). cpu_after (with_entropy plan words) n history) alike.cpu) alike.cmd in
      let targets : target_in plan ask.before ask.lpid e.trace.cmd ≡ t =
      target_open plan ask.before ask.lpid e.trace.cmd ∙ ap (target_in plan ask.before ask.lpid) alike.cmd ∙ sym (target_open plan ask.before ask.lpid f.trace.cmd) in
      p ∙ ap (λ (a : Ask). next_entry_by plan past a (mark_of e) e.trace.cmd) asks
      ∙ ap (λ (x : Target). entry_of ask (mark_of e) e.trace.cmd (deed_after plan past ask e.trace.cmd x)) targets

  let_out : deed.shown ≡ other_deed.shown
  let_out = sym (ap (λ (x : Event). x.saw.shown) is) ∙ alike.shown ∙ ap (λ (x : Event). x.saw.shown) q

  agree : AgreeButValue ask.before e.trace.cmd deed other_deed
  agree = deeds_agree plan words past history ask e.trace.cmd f.trace.cmd t same alike.cmd let_out

  -- both begin a page-out, or neither does
  pub sealings_agree : begins_sealing e ≡ begins_sealing f
  sealings_agree =
      ap begins_sealing is ∙ sealing_agrees ask.before e.trace.cmd f.trace.cmd deed.answer other_deed.answer alike.cmd agree.answer ∙ sym (ap begins_sealing q)

  -- where sealed pages tell nothing their bytes agree
  pub entries_shut : IsShut plan → e.bytes ≡ f.bytes
  entries_shut shut =
      ap (λ (x : Event). x.bytes) is ∙ deeds_shut plan words past history ask e.trace.cmd f.trace.cmd t same alike.cmd let_out shut ∙ sym (ap (λ (x : Event). x.bytes) q)

  -- the target of the entry's step
  aims : target_of plan e ≡ t
  aims = ap (target_of plan) is ∙ target_open plan ask.before ask.lpid e.trace.cmd ∙ ap (target_in plan ask.before ask.lpid) alike.cmd ∙ sym (target_open plan ask.before ask.lpid f.trace.cmd)

  -- where a page-out begins that seals what is private they are to agree, and elsewhere they do
  pub sealed_agree : (begins_sealing e ≡ true → TouchesNoAborting plan past e → e.bytes ≡ f.bytes) → begins_sealing e ≡ true → e.bytes ≡ f.bytes
  sealed_agree sealed begins = by_target t refl where
    by_target : (x : Target) → t ≡ x → e.bytes ≡ f.bytes
    by_target Alone at = sealed begins (λ lpid touched. let no : false ≡ true = sym (ap (is_guest lpid) (aims ∙ at)) ∙ touched in cc)
    by_target (AtFrame n) at = sealed begins (λ lpid touched. let no : false ≡ true = sym (ap (is_guest lpid) (aims ∙ at)) ∙ touched in cc)
    by_target (AtGuest l) at = is_aborting_or (guest_after plan l past).part.phase
        (λ aborts.
        let bytes = deeds_public plan words past history ask e.trace.cmd f.trace.cmd l same alike.cmd
        (subst (λ (x : Target). (deed_after plan past ask e.trace.cmd x).shown ≡ (deed_after (with_entropy plan words) history ask f.trace.cmd x).shown) at let_out) aborts in
        ap (λ (x : Event). x.bytes) is
        ∙ subst (λ (x : Target). (deed_after plan past ask e.trace.cmd x).bytes ≡ (deed_after (with_entropy plan words) history ask f.trace.cmd x).bytes) (sym at) bytes
        ∙ sym (ap (λ (x : Event). x.bytes) q))
        (λ private.
        sealed begins (λ lpid touched. let here : l ≡ lpid = test_same l lpid (sym (ap (is_guest lpid) (aims ∙ at)) ∙ touched) in
        subst (λ (x : ℕ). (guest_after plan x past).part.phase ≢ Aborting) here private))

  -- else they agree where those of a page-out that begins do
  bytes_agree : (begins_sealing e ≡ true → e.bytes ≡ f.bytes) → deed.bytes ≡ other_deed.bytes
  bytes_agree sealed = by_test (is_sealing ask.before e.trace.cmd deed.answer) refl where
    by_test : (b : Bool) → is_sealing ask.before e.trace.cmd deed.answer ≡ b → deed.bytes ≡ other_deed.bytes
    by_test true h = sym (ap (λ (x : Event). x.bytes) is) ∙ sealed (ap begins_sealing is ∙ h) ∙ ap (λ (x : Event). x.bytes) q
    by_test false h = agree.bytes h

  pub entries_agree : (begins_sealing e ≡ true → e.bytes ≡ f.bytes) → opened e ≡ opened f
  entries_agree sealed =
      ap opened is
      ∙ (λ i. record {
        trace = record { line = alike.line i; cpu = alike.cpu i; place = alike.place i; stamp = 0; cmd = alike.cmd i; answer = agree.answer i };
        saw = record { before = ask.before; after = agree.after i; lpid = ask.lpid; vid = ask.vid; last = ask.last; pool = agree.pool i; frame = agree.frame i; shown = let_out i };
        bytes = bytes_agree sealed i;
      })
      ∙ sym (ap opened q)
