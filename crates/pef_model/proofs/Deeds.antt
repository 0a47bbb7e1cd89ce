-- What a step does at a guest doesn't depend on what the guest alone knows, but for the value of a load and the page that is sealed.
use Rattle.std.proofs.Common.{◌≡◌, ℕ, Bool, true, false, ◌==◌, if◌then◌else◌, List, [], ◌∷◌, slice_index, refl, ap, sym, subst, ◌∙◌, Option, Some, None}
use Rattle.pef_model.specs.declared.state.Tag.{Tag}
use Rattle.pef_model.specs.declared.state.Run.{Run}
use Rattle.pef_model.specs.declared.state.Ctx.{Ctx}
use Rattle.pef_model.specs.declared.state.Ctx.TheVariants as ctx
use Rattle.pef_model.specs.declared.command.Code.{Code}
use Rattle.pef_model.specs.declared.command.Cmd.{Cmd}
use Rattle.pef_model.specs.declared.command.Cmd.TheVariants.{UPageout, GLi, GLd, GSt, GIrq, GHcall, Dump}
use Rattle.pef_model.specs.declared.entry.Answer.{Answer}
use Rattle.pef_model.specs.declared.entry.Answer.TheVariants.{Done, Val}
use Rattle.pef_model.specs.declared.state.Phase.{Phase}
use Rattle.pef_model.specs.declared.state.Phase.TheVariants as phase
use Rattle.pef_model.specs.declared.state.Phase.TheVariants.{Aborting}
use Rattle.pef_model.specs.declared.state.Work.TheVariants.{Inward}
use Rattle.pef_model.specs.Plan.{Plan}
use Rattle.pef_model.specs.Memory.{offset_of}
use Rattle.pef_model.specs.Target.{Ask}
use Rattle.pef_model.specs.GuestPart.{GuestPart, Meeting, Private, Normal, Unbacked, meets, page_of}
use Rattle.pef_model.specs.Seal.{doublewords}
use Rattle.pef_model.specs.Guest.{Guest}
use Rattle.pef_model.specs.PageOut.{page_out_code, tag_of, private_page, bytes_out}
use Rattle.pef_model.specs.Deed.{Deed, deed_access, deed_interrupt, deed_running, deed_gone, returning, deed_page_out_begin, deed_hypervisor, deed_guest_in, deed_guest, deed_hypercall, deed_by_row, deed_by_kind}
use Rattle.pef_model.specs.SecretLaw.{AgreeButValue, NoSecretInDeeds, open_cmd, open_answer_of_guest}
use Rattle.pef_model.proofs.Opened.{sealing_agrees}
use Rattle.pef_model.specs.declared.hypercall.Row.{Row}
use Rattle.pef_model.specs.declared.hypercall.RowKind.{RowKind}
use Rattle.pef_model.specs.declared.hypercall.RowKind.TheVariants.{Reflected, Local, Svm}
use Rattle.pef_model.specs.declared.hypercall.TheConstants.{HCALLS}
use Rattle.pef_model.specs.Hypercalls.{row_of}

-- another guest with the public part of this one
abbrev like : Guest → Guest → Guest
like g h = record h { part = g.part }

agree_sym : (c : Ctx) (cmd other : Cmd) (x y : Deed) → open_cmd cmd ≡ open_cmd other → AgreeButValue c cmd x y → AgreeButValue c other y x
agree_sym c cmd other x y cmds h = record {
  answer = sym h.answer;
  after = sym h.after;
  pool = sym h.pool;
  frame = sym h.frame;
  bytes = λ unsealed. sym (h.bytes (sealing_agrees c cmd other x.answer y.answer cmds h.answer ∙ unsealed));
}

agree_trans : (c : Ctx) (cmd : Cmd) (x y z : Deed) → AgreeButValue c cmd x y → AgreeButValue c cmd y z → AgreeButValue c cmd x z
agree_trans c cmd x y z h k = record {
  answer = h.answer ∙ k.answer;
  after = h.after ∙ k.after;
  pool = h.pool ∙ k.pool;
  frame = h.frame ∙ k.frame;
  bytes = λ unsealed. h.bytes unsealed ∙ k.bytes (sealing_agrees c cmd cmd y.answer x.answer refl (sym h.answer) ∙ unsealed);
}

pub same_deed : (c : Ctx) (cmd : Cmd) (x : Deed) → AgreeButValue c cmd x x
same_deed c cmd x = record { answer = refl; after = refl; pool = refl; frame = refl; bytes = λ unsealed. refl }

-- an access that is done with other values, and lets out the same
access_agrees : (run : Run) (ask : Ask) (cmd : Cmd) (success other : Answer) (through through_too : ℕ → Answer) (out out_too : List ℕ) (any : Bool) (m : Meeting) →
    open_answer_of_guest success ≡ open_answer_of_guest other → ((n : ℕ) → open_answer_of_guest (through n) ≡ open_answer_of_guest (through_too n)) →
    (deed_access ask success through out any m).shown ≡ (deed_access ask other through_too out_too any m).shown →
    AgreeButValue (ctx.Guest run) cmd (deed_access ask success through out any m) (deed_access ask other through_too out_too any m)
access_agrees run ask cmd success other through through_too out out_too true Unbacked same written shown = record { answer = same; after = refl; pool = refl; frame = refl; bytes = λ unsealed. refl }
access_agrees run ask cmd success other through through_too out out_too false Unbacked same written shown = same_deed (ctx.Guest run) cmd (deed_access ask success through out false Unbacked)
access_agrees run ask cmd success other through through_too out out_too any Private same written shown = record { answer = same; after = refl; pool = refl; frame = refl; bytes = λ unsealed. refl }
access_agrees run ask cmd success other through through_too out out_too any (Normal n) same written shown =
    record { answer = written n; after = refl; pool = refl; frame = refl; bytes = λ unsealed. ap doublewords shown }
access_agrees run ask cmd success other through through_too out out_too any m same written shown = same_deed (ctx.Guest run) cmd (deed_access ask success through out any m)

-- an interrupt with other registers
interrupt_agrees : (run : Run) (ask : Ask) (gpr gpr_too : List ℕ) (p : Phase) → AgreeButValue (ctx.Guest run) GIrq (deed_interrupt p gpr ask) (deed_interrupt p gpr_too ask)
interrupt_agrees run ask gpr gpr_too phase.Normal = record { answer = refl; after = refl; pool = refl; frame = refl; bytes = λ unsealed. refl }
interrupt_agrees run ask gpr gpr_too p = same_deed (ctx.Guest run) GIrq (deed_interrupt p gpr ask)

-- a hypercall with other registers, where it lets out the same: the number is the same then
first_same : {x y : ℕ} {xs ys : List ℕ} → ◌≡◌ {A = List ℕ} (x ∷ xs) (y ∷ ys) → x ≡ y
first_same h = cc

number_of_call : (words : ℕ) (ask : Ask) (gpr : List ℕ) (row : Option Row) → (tail : List ℕ) × ((deed_by_row words ask gpr row).shown ≡ slice_index gpr 3 ∷ tail)
number_of_call words ask gpr None = ([], refl)
number_of_call words ask gpr (Some row) = by_kind row.kind where
  by_kind : (kind : RowKind) → (tail : List ℕ) × ((deed_by_kind words kind ask gpr row).shown ≡ slice_index gpr 3 ∷ tail)
  by_kind Reflected = (_, refl)
  by_kind Local = ([], refl)
  by_kind Svm = ([], refl)

row_agrees : (words : ℕ) (run : Run) (ask : Ask) (gpr gpr_too : List ℕ) (row : Option Row) → AgreeButValue (ctx.Guest run) GHcall (deed_by_row words ask gpr row) (deed_by_row words ask gpr_too row)
row_agrees words run ask gpr gpr_too None = record { answer = refl; after = refl; pool = refl; frame = refl; bytes = λ unsealed. refl }
row_agrees words run ask gpr gpr_too (Some row) = by_kind row.kind where
  by_kind : (kind : RowKind) → AgreeButValue (ctx.Guest run) GHcall (deed_by_kind words kind ask gpr row) (deed_by_kind words kind ask gpr_too row)
  by_kind Reflected = record { answer = refl; after = refl; pool = refl; frame = refl; bytes = λ unsealed. refl }
  by_kind Local = record { answer = refl; after = refl; pool = refl; frame = refl; bytes = λ unsealed. refl }
  by_kind Svm = record { answer = refl; after = refl; pool = refl; frame = refl; bytes = λ unsealed. refl }

call_agrees : (words : ℕ) (run : Run) (ask : Ask) (gpr gpr_too : List ℕ) (p : Phase) → (deed_hypercall words p gpr ask).shown ≡ (deed_hypercall words p gpr_too ask).shown → AgreeButValue (ctx.Guest run) GHcall (deed_hypercall words p gpr ask) (deed_hypercall words p gpr_too ask)
call_agrees words run ask gpr gpr_too phase.Normal shown = record { answer = refl; after = refl; pool = refl; frame = refl; bytes = λ unsealed. refl }
call_agrees words run ask gpr gpr_too p shown =
    let one = number_of_call words ask gpr (row_of HCALLS (slice_index gpr 3)) in
    let two = number_of_call words ask gpr_too (row_of HCALLS (slice_index gpr_too 3)) in
    subst (λ (n : ℕ). AgreeButValue (ctx.Guest run) GHcall (deed_by_row words ask gpr (row_of HCALLS (slice_index gpr 3))) (deed_by_row words ask gpr_too (row_of HCALLS n)))
    (first_same (sym one.1 ∙ shown ∙ two.1)) (row_agrees words run ask gpr gpr_too (row_of HCALLS (slice_index gpr 3)))

running_agrees : (plan : Plan) (run : Run) (g h : Guest) (found : ℕ → ℕ → ℕ) (any : Bool) (ask : Ask) (cmd : Cmd) →
    (deed_running plan run g found any ask cmd).shown ≡ (deed_running plan run (like g h) found any ask (open_cmd cmd)).shown →
    AgreeButValue (ctx.Guest run) cmd (deed_running plan run g found any ask cmd) (deed_running plan run (like g h) found any ask (open_cmd cmd))
running_agrees plan run g h found any ask (GLd rd gpa) shown =
    access_agrees run ask (GLd rd gpa) (Val (g.content gpa)) (Val (h.content gpa)) (λ n. Val (found n (offset_of plan gpa))) (λ n. Val (found n (offset_of plan gpa))) [] [] any (meets plan g.part gpa) refl (λ n. refl) shown
running_agrees plan run g h found any ask (GSt rs gpa) shown =
    access_agrees run ask (GSt rs gpa) Done Done (λ n. Done) (λ n. Done) (slice_index (g.registers run.vid).gpr rs ∷ []) (slice_index (h.registers run.vid).gpr rs ∷ []) any (meets plan g.part gpa) refl (λ n. refl) shown
running_agrees plan run g h found any ask GIrq shown = interrupt_agrees run ask (g.registers run.vid).gpr (h.registers run.vid).gpr g.part.phase
running_agrees plan run g h found any ask GHcall shown = call_agrees g.part.words run ask (g.registers run.vid).gpr (h.registers run.vid).gpr g.part.phase shown
running_agrees plan run g h found any ask (Dump reg) shown = record { answer = refl; after = refl; pool = refl; frame = refl; bytes = λ unsealed. refl }
running_agrees plan run g h found any ask cmd shown = same_deed (ctx.Guest run) cmd (deed_running plan run g found any ask cmd)

-- a page-out that begins seals another page, and does the same else
page_out_agrees : (plan : Plan) (g h : Guest) (ask : Ask) (lpid dest gpa flags order : ℕ) (code : Option Code) →
    AgreeButValue ctx.Hv (UPageout lpid dest gpa flags order) (returning ask code (deed_page_out_begin plan g ask lpid dest gpa)) (returning ask code (deed_page_out_begin plan (like g h) ask lpid dest gpa))
page_out_agrees plan g h ask lpid dest gpa flags order (Some code) =
    same_deed ctx.Hv (UPageout lpid dest gpa flags order) (returning ask (Some code) (deed_page_out_begin plan g ask lpid dest gpa))
page_out_agrees plan g h ask lpid dest gpa flags order None = record { answer = refl; after = refl; pool = refl; frame = refl; bytes = λ unsealed. cc }

hypervisor_agrees : (plan : Plan) (g h : Guest) (any : Bool) (ask : Ask) (cmd : Cmd) → AgreeButValue ctx.Hv cmd (deed_hypervisor plan g any ask cmd) (deed_hypervisor plan (like g h) any ask (open_cmd cmd))
hypervisor_agrees plan g h any ask (UPageout lpid dest gpa flags order) = page_out_agrees plan g h ask lpid dest gpa flags order (page_out_code plan g.part dest gpa flags order)
hypervisor_agrees plan g h any ask (GLi rd value) = record { answer = refl; after = refl; pool = refl; frame = refl; bytes = λ unsealed. refl }
hypervisor_agrees plan g h any ask cmd = same_deed ctx.Hv cmd (deed_hypervisor plan g any ask cmd)

-- so are the deeds in each context, where they let out the same
deed_agrees : (plan : Plan) (g h : Guest) (found : ℕ → ℕ → ℕ) (any : Bool) (ask : Ask) (cmd : Cmd) (c : Ctx) →
    (deed_guest_in c plan g found any ask cmd).shown ≡ (deed_guest_in c plan (like g h) found any ask (open_cmd cmd)).shown →
    AgreeButValue c cmd (deed_guest_in c plan g found any ask cmd) (deed_guest_in c plan (like g h) found any ask (open_cmd cmd))
deed_agrees plan g h found any ask cmd ctx.Hv shown = hypervisor_agrees plan g h any ask cmd
deed_agrees plan g h found any ask cmd (ctx.Uv (Inward move)) shown = same_deed (ctx.Uv (Inward move)) cmd (deed_guest_in (ctx.Uv (Inward move)) plan g found any ask cmd)
deed_agrees plan g h found any ask cmd (ctx.Uv work) shown = same_deed (ctx.Uv work) cmd (deed_guest_in (ctx.Uv work) plan g found any ask cmd)
deed_agrees plan g h found any ask cmd (ctx.Guest run) shown = by_test (run.generation == g.part.generation) shown where
  one : Bool → Deed
  one b = if b then deed_running plan run g found any ask cmd else deed_gone ask

  two : Bool → Deed
  two b = if b then deed_running plan run (like g h) found any ask (open_cmd cmd) else deed_gone ask

  by_test : (b : Bool) → (one b).shown ≡ (two b).shown → AgreeButValue (ctx.Guest run) cmd (one b) (two b)
  by_test true shown = running_agrees plan run g h found any ask cmd shown
  by_test false shown = same_deed (ctx.Guest run) cmd (deed_gone ask)

-- the value of a g.li makes no difference to what is let out
shown_open : (plan : Plan) (g : Guest) (found : ℕ → ℕ → ℕ) (any : Bool) (ask : Ask) (cmd : Cmd) (c : Ctx) → (deed_guest_in c plan g found any ask cmd).shown ≡ (deed_guest_in c plan g found any ask (open_cmd cmd)).shown
shown_open plan g found any ask (GLi rd value) ctx.Hv = refl
shown_open plan g found any ask (GLi rd value) (ctx.Uv work) = refl
shown_open plan g found any ask (GLi rd value) (ctx.Guest run) = refl
shown_open plan g found any ask cmd c = refl

-- at one guest two commands that differ in a g.li's value at most
same_guest : (plan : Plan) (one other : Guest) (found : ℕ → ℕ → ℕ) (any : Bool) (ask : Ask) (cmd with_ : Cmd) → one.part ≡ other.part → open_cmd cmd ≡ open_cmd with_ →
    deed_guest plan (like one other) found any ask (open_cmd cmd) ≡ deed_guest plan (like other other) found any ask (open_cmd with_)
same_guest plan one other found any ask cmd with_ parts cmds =
    ap (λ (p : GuestPart). deed_guest plan (record other { part = p }) found any ask (open_cmd cmd)) parts ∙ ap (deed_guest plan other found any ask) cmds

-- where what a page-out puts into the hand is the same in both, the bytes of each deed are
module _ (plan : Plan) (g h : Guest) (same : (lpid gfn : ℕ) → bytes_out g.part.phase plan g lpid gfn ≡ bytes_out g.part.phase plan (like g h) lpid gfn) where
  page_out_same : (ask : Ask) (lpid dest gpa : ℕ) (code : Option Code) →
      (returning ask code (deed_page_out_begin plan g ask lpid dest gpa)).bytes ≡ (returning ask code (deed_page_out_begin plan (like g h) ask lpid dest gpa)).bytes
  page_out_same ask lpid dest gpa (Some code) = refl
  page_out_same ask lpid dest gpa None = same lpid (page_of plan gpa)

  deed_same : (found : ℕ → ℕ → ℕ) (any : Bool) (ask : Ask) (cmd : Cmd) (c : Ctx) →
      (deed_guest_in c plan g found any ask cmd).shown ≡ (deed_guest_in c plan (like g h) found any ask (open_cmd cmd)).shown →
      (deed_guest_in c plan g found any ask cmd).bytes ≡ (deed_guest_in c plan (like g h) found any ask (open_cmd cmd)).bytes
  deed_same found any ask (UPageout lpid dest gpa flags order) ctx.Hv shown = page_out_same ask lpid dest gpa (page_out_code plan g.part dest gpa flags order)
  deed_same found any ask cmd ctx.Hv shown = (hypervisor_agrees plan g h any ask cmd).bytes refl
  deed_same found any ask cmd (ctx.Uv work) shown = (deed_agrees plan g h found any ask cmd (ctx.Uv work) shown).bytes refl
  deed_same found any ask cmd (ctx.Guest run) shown = (deed_agrees plan g h found any ask cmd (ctx.Guest run) shown).bytes refl

-- two guests of one public part let out the same, also where one has what the other alone knows
one_shows : (plan : Plan) (one other : Guest) (found : ℕ → ℕ → ℕ) (any : Bool) (ask : Ask) (cmd with_ : Cmd) → one.part ≡ other.part → open_cmd cmd ≡ open_cmd with_ →
    (deed_guest plan one found any ask cmd).shown ≡ (deed_guest plan other found any ask with_).shown →
    (deed_guest plan one found any ask cmd).shown ≡ (deed_guest plan (like one other) found any ask (open_cmd cmd)).shown
one_shows plan one other found any ask cmd with_ parts cmds shown =
    shown ∙ shown_open plan other found any ask with_ ask.before ∙ sym (ap (λ (d : Deed). d.shown) (same_guest plan one other found any ask cmd with_ parts cmds))

-- so the bytes are the same between two guests of one public part
bytes_same : (plan : Plan) (one other : Guest) (found : ℕ → ℕ → ℕ) (any : Bool) (ask : Ask) (cmd with_ : Cmd) → one.part ≡ other.part → open_cmd cmd ≡ open_cmd with_ →
    (deed_guest plan one found any ask cmd).shown ≡ (deed_guest plan other found any ask with_).shown →
    ((lpid gfn : ℕ) → bytes_out one.part.phase plan one lpid gfn ≡ bytes_out one.part.phase plan (like one other) lpid gfn) →
    (deed_guest plan one found any ask cmd).bytes ≡ (deed_guest plan other found any ask with_).bytes
bytes_same plan one other found any ask cmd with_ parts cmds shown same =
    deed_same plan one other same found any ask cmd ask.before (one_shows plan one other found any ask cmd with_ parts cmds shown) ∙ ap (λ (d : Deed). d.bytes) (same_guest plan one other found any ask cmd with_ parts cmds)
    ∙ sym (deed_same plan other other (λ lpid gfn. refl) found any ask with_ ask.before (shown_open plan other found any ask with_ ask.before))

pub no_secret_in_deeds : NoSecretInDeeds
no_secret_in_deeds plan one other found any ask cmd with_ parts cmds shown = record {
  deeds =
      let left : AgreeButValue ask.before cmd (deed_guest plan one found any ask cmd) (deed_guest plan (like one other) found any ask (open_cmd cmd)) =
      deed_agrees plan one other found any ask cmd ask.before (one_shows plan one other found any ask cmd with_ parts cmds shown) in
      let right : AgreeButValue ask.before with_ (deed_guest plan other found any ask with_) (deed_guest plan (like other other) found any ask (open_cmd with_)) =
      deed_agrees plan other other found any ask with_ ask.before (shown_open plan other found any ask with_ ask.before) in
      agree_trans ask.before cmd _ _ _ left
      (subst (λ (d : Deed). AgreeButValue ask.before cmd d (deed_guest plan other found any ask with_)) (sym (same_guest plan one other found any ask cmd with_ parts cmds))
      (agree_sym ask.before with_ cmd _ _ (sym cmds) right));
  aborting = λ (aborts : one.part.phase ≡ Aborting).
      bytes_same plan one other found any ask cmd with_ parts cmds shown
      (λ lpid gfn. ap (λ (p : Phase). bytes_out p plan one lpid gfn) aborts ∙ sym (ap (λ (p : Phase). bytes_out p plan (like one other) lpid gfn) aborts));
}

-- a plan's sealed pages tell nothing of what they hold
abbrev pub IsShut : Plan → Type 0
IsShut plan = (tag : Tag) (one other : List ℕ) → plan.image tag one ≡ plan.image tag other

bytes_out_shut : (plan : Plan) → IsShut plan → (g h : Guest) (p : Phase) (lpid gfn : ℕ) → bytes_out p plan g lpid gfn ≡ bytes_out p plan (like g h) lpid gfn
bytes_out_shut plan shut g h Aborting lpid gfn = refl
bytes_out_shut plan shut g h p lpid gfn = shut (tag_of g.part lpid gfn _) (private_page plan g gfn) (private_page plan (like g h) gfn)

-- so the bytes of a deed are decided by the guest's public part and what is let out, also where a page-out begins
pub bytes_shut : (plan : Plan) → IsShut plan → (one other : Guest) (found : ℕ → ℕ → ℕ) (any : Bool) (ask : Ask) (cmd with_ : Cmd) → one.part ≡ other.part → open_cmd cmd ≡ open_cmd with_ →
    (deed_guest plan one found any ask cmd).shown ≡ (deed_guest plan other found any ask with_).shown → (deed_guest plan one found any ask cmd).bytes ≡ (deed_guest plan other found any ask with_).bytes
bytes_shut plan shut one other found any ask cmd with_ parts cmds shown = bytes_same plan one other found any ask cmd with_ parts cmds shown (bytes_out_shut plan shut one other one.part.phase)
