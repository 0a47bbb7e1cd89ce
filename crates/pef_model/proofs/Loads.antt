-- A load that is done gives the last store.
use Rattle.std.proofs.Common.{◌≡◌, ℕ, Bool, true, false, ap, sym, ◌∙◌, ◌==◌, if◌then◌else◌, nat_lt, [], None}
use Rattle.pef_model.specs.declared.state.Ctx.TheVariants as ctx
use Rattle.pef_model.specs.declared.command.Cmd.{Cmd}
use Rattle.pef_model.specs.declared.command.Cmd.TheVariants.{GLd}
use Rattle.pef_model.specs.declared.entry.Answer.TheVariants.{Val}
use Rattle.pef_model.specs.declared.entry.Answer.{Answer}
use Rattle.pef_model.specs.declared.state.Run.{Run}
use Rattle.pef_model.specs.Memory.{offset_of}
use Rattle.pef_model.specs.Plan.{Plan}
use Rattle.pef_model.specs.Event.{Event, mark_of}
use Rattle.pef_model.specs.Target.{Ask}
use Rattle.pef_model.specs.Deed.{deed_access, deed_running, deed_gone}
use Rattle.pef_model.specs.GuestPart.{Meeting, Normal, Unbacked, meets}
use Rattle.pef_model.specs.Guest.{Guest}
use Rattle.pef_model.specs.History.{ask_of, cpu_after, guest_after, pool_after, next_entry_by, found_after}
use Rattle.pef_model.specs.SearchLaw.{LoadGivesLastStore}
use Rattle.pef_model.specs.ToldLaw.{frame_met}
use Rattle.pef_model.proofs.ToldEntries.{private_frame}

-- an access that gives a value, and meets no normal frame, gives that of the place
access_gives : (ask : Ask) (v w : ℕ) (through : ℕ → Answer) (any : Bool) (m : Meeting) → frame_met m ≡ None → (deed_access ask (Val v) through [] any m).answer ≡ Val w → w ≡ v
access_gives ask v w through true Unbacked none h = cc
access_gives ask v w through false Unbacked none h = cc
access_gives ask v w through any (Normal n) none h = cc
access_gives ask v w through any m none h = cc

running_gives : (plan : Plan) (run : Run) (g : Guest) (found : ℕ → ℕ → ℕ) (any : Bool) (ask : Ask) (rd gpa w : ℕ) (b : Bool) → frame_met (meets plan g.part gpa) ≡ None →
    (if b then deed_running plan run g found any ask (GLd rd gpa) else deed_gone ask).answer ≡ Val w → w ≡ g.content gpa
running_gives plan run g found any ask rd gpa w true none h = access_gives ask (g.content gpa) w (λ n. Val (found n (offset_of plan gpa))) any (meets plan g.part gpa) none h
running_gives plan run g found any ask rd gpa w false none h = cc

pub load_gives_last_store : LoadGivesLastStore
load_gives_last_store plan past e run rd gpa value extends step own =
    let ask : Ask = ask_of (cpu_after plan e.trace.cpu past) e.trace.cmd in
    let running : Ask = record ask { before = ctx.Guest run } in
    let g : Guest = guest_after plan run.lpid past in
    let before : ask.before ≡ ctx.Guest run = ap (λ (x : Event). x.saw.before) (sym extends.is) ∙ step.before in
    let same : ask ≡ running = (λ i. record ask { before = before i }) in
    let answer : (next_entry_by plan past running (mark_of e) (GLd rd gpa)).trace.answer ≡ Val value =
    sym (ap (λ (a : Ask). (next_entry_by plan past a (mark_of e) e.trace.cmd).trace.answer) same ∙ ap (λ (cmd : Cmd). (next_entry_by plan past running (mark_of e) cmd).trace.answer) step.cmd_is)
    ∙ ap (λ (x : Event). x.trace.answer) (sym extends.is) ∙ step.answer_is in
    running_gives plan run g (found_after plan past) (nat_lt 0 (pool_after plan past)) running rd gpa value (run.generation == g.part.generation) (private_frame plan g.part gpa g.part.phase own) answer
