-- The law that the public state has no secret but what the sealed bytes of page-outs tell.
use Rattle.std.specs.Prelude.{◌≡◌, ℕ, Bool, false, List, map}
use Rattle.pef_model.specs.declared.state.Phase.TheVariants.{Aborting}
use Rattle.pef_model.specs.declared.state.Ctx.{Ctx}
use Rattle.pef_model.specs.declared.state.Ctx.TheVariants as ctx
use Rattle.pef_model.specs.declared.command.Directive.{Directive}
use Rattle.pef_model.specs.declared.command.Directive.TheVariants.{Once, GoAll}
use Rattle.pef_model.specs.declared.command.Cmd.{Cmd}
use Rattle.pef_model.specs.declared.command.Cmd.TheVariants.{GLi}
use Rattle.pef_model.specs.declared.entry.Answer.{Answer}
use Rattle.pef_model.specs.declared.entry.Answer.TheVariants as answer
use Rattle.pef_model.specs.Plan.{Plan}
use Rattle.pef_model.specs.Event.{Event}
use Rattle.pef_model.specs.Target.{Ask, is_sealing, touches_cpu, touches_guest, touches_pool, touches_frame}
use Rattle.pef_model.specs.Cpu.{CpuPart, next_cpu}
use Rattle.pef_model.specs.GuestPart.{GuestPart, next_part}
use Rattle.pef_model.specs.Guest.{Guest}
use Rattle.pef_model.specs.Deed.{Deed, deed_guest}
use Rattle.pef_model.specs.History.{public_state}
use Rattle.pef_model.specs.Memory.{next_pool, next_frame}

-- a command without the value that a guest alone knows
abbrev pub open_cmd : Cmd → Cmd
open_cmd (GLi rd value) = GLi rd 0
open_cmd cmd = cmd

-- a directive without that value
abbrev pub open_directive : Directive → Directive
open_directive (Once cmd) = Once (open_cmd cmd)
open_directive GoAll = GoAll

-- a guest's answer without the value that it alone knows
abbrev pub open_answer_of_guest : Answer → Answer
open_answer_of_guest (answer.Val value) = answer.Val 0
open_answer_of_guest a = a

-- the answer of a step, without a value that a guest alone knows
abbrev pub open_answer : Ctx → Answer → Answer
open_answer ctx.Hv a = a
open_answer (ctx.Uv work) a = a
open_answer (ctx.Guest run) a = open_answer_of_guest a

-- an entry without the value of a g.li and the value that a guest's load gave
abbrev pub open_entry : Event → Event
open_entry e = record e { trace = record e.trace { cmd = open_cmd e.trace.cmd; answer = open_answer e.saw.before e.trace.answer } }

-- two such entries that agree touch the same objects, and give equal next public values
pub record SecretsStayIn (plan : Plan) (e f : Event) : Type 0 where
  pub touches_cpu : (n : ℕ) → touches_cpu n e ≡ touches_cpu n f
  pub touches_guest : (lpid : ℕ) → touches_guest plan lpid e ≡ touches_guest plan lpid f
  pub touches_pool : touches_pool e ≡ touches_pool f
  pub touches_frame : (n : ℕ) → touches_frame n e ≡ touches_frame n f
  pub cpu : (cpu : CpuPart) → next_cpu cpu e ≡ next_cpu cpu f
  pub guest : (g : GuestPart) → next_part plan g e ≡ next_part plan g f
  pub pool : (free : ℕ) → next_pool free e ≡ next_pool free f
  pub frame : (n : ℕ) (bytes : List ℕ) → next_frame plan n bytes e ≡ next_frame plan n bytes f

-- one entry lets no secret into the public state
abbrev pub NoSecretInOneEntry : Type 0
NoSecretInOneEntry = (plan : Plan) (e f : Event) → open_entry e ≡ open_entry f → SecretsStayIn plan e f

-- the public state has no secret but what entries' bytes tell: two histories whose entries agree but in a g.li's value and what a load gave have one public state
abbrev pub NoSecretInPublicState : Type 0
NoSecretInPublicState = (plan : Plan) (past other : List Event) → map open_entry past ≡ map open_entry other → public_state plan past ≡ public_state plan other

-- two deeds agree but for what they let out, the value that a guest alone knows, and the page that is sealed where a page-out begins
pub record AgreeButValue (before : Ctx) (cmd : Cmd) (one other : Deed) : Type 0 where
  pub answer : open_answer before one.answer ≡ open_answer before other.answer
  pub after : one.after ≡ other.after
  pub pool : one.pool ≡ other.pool
  pub frame : one.frame ≡ other.frame
  pub bytes : is_sealing before cmd one.answer ≡ false → one.bytes ≡ other.bytes

-- what a step does at two guests of one public part, by commands that differ in a g.li's value at most, where it lets out the same
pub record GuestsAgree (plan : Plan) (one other : Guest) (found : ℕ → ℕ → ℕ) (any : Bool) (ask : Ask) (cmd with_ : Cmd) : Type 0 where
  pub deeds : AgreeButValue ask.before cmd (deed_guest plan one found any ask cmd) (deed_guest plan other found any ask with_)
  -- a guest that isn't to be secure has nothing to seal
  pub aborting : one.part.phase ≡ Aborting → (deed_guest plan one found any ask cmd).bytes ≡ (deed_guest plan other found any ask with_).bytes

-- what a step does at a guest is decided by the guest's public part, the command without the value of a g.li and what is let out, but for the value of a load and the page that is sealed
abbrev pub NoSecretInDeeds : Type 0
NoSecretInDeeds =
    (plan : Plan) (one other : Guest) (found : ℕ → ℕ → ℕ) (any : Bool) (ask : Ask) (cmd with_ : Cmd) → one.part ≡ other.part → open_cmd cmd ≡ open_cmd with_ →
    (deed_guest plan one found any ask cmd).shown ≡ (deed_guest plan other found any ask with_).shown → GuestsAgree plan one other found any ask cmd with_
