-- Laws of normal memory.
use Rattle.std.specs.Prelude.{◌≡◌, ◌≢◌, Some, ℕ, ◌<◌, ◌^◌, true, false, List, ◌∷◌}
use Rattle.pef_model.specs.declared.config.Config.{Config}
use Rattle.pef_model.specs.declared.state.Ctx.TheVariants as ctx
use Rattle.pef_model.specs.declared.state.Run.{Run}
use Rattle.pef_model.specs.declared.state.Move.{Move}
use Rattle.pef_model.specs.declared.state.Way.{Way}
use Rattle.pef_model.specs.declared.state.Work.TheVariants.{Inward}
use Rattle.pef_model.specs.declared.command.Code.TheVariants.{USuccess}
use Rattle.pef_model.specs.declared.command.Cmd.TheVariants.{HLd, HSt, UPagein, UPageout, GLd, GSt}
use Rattle.pef_model.specs.declared.entry.Answer.TheVariants as answer
use Rattle.pef_model.specs.Plan.{Plan, plan_of, IsInRange}
use Rattle.pef_model.specs.Event.{Event}
use Rattle.pef_model.specs.Doubleword.{doubleword}
use Rattle.pef_model.specs.Target.{frame_of, has_real_place, work_by}
use Rattle.pef_model.specs.Memory.{offset_of}
use Rattle.pef_model.specs.Entry.{has_frames}
use Rattle.pef_model.specs.History.{frame_after, guest_after, part_after, last_norm, reg, Extends, IsLegal}
use Rattle.pef_model.specs.AddressLaw.{address_at}
use Rattle.pef_model.specs.View.{view, memory_seen}

-- the frames of the public state hold last_norm everywhere
abbrev pub FramesHoldLastNorm : Type 0
FramesHoldLastNorm =
    (config : Config) (past : List Event) (ra : ℕ) → IsInRange config → IsLegal (plan_of config) past →
    has_real_place (plan_of config) ra ≡ true →
    doubleword (frame_after (plan_of config) (frame_of (plan_of config) ra) past) (offset_of (plan_of config) ra) ≡ last_norm (plan_of config) past ra

-- a step changes no normal frame but the one that it tells
abbrev pub StepLeavesFrames : Type 0
StepLeavesFrames =
    (plan : Plan) (past : List Event) (e : Event) (n : ℕ) → e.saw.frame ≢ Some n →
    frame_after plan n (e ∷ past) ≡ frame_after plan n past

-- the hypervisor's store changes no guest
abbrev pub StoreLeavesGuests : Type 0
StoreLeavesGuests =
    (plan : Plan) (past : List Event) (e : Event) (ra value lpid : ℕ) → e.trace.cmd ≡ HSt ra value →
    guest_after plan lpid (e ∷ past) ≡ guest_after plan lpid past

-- the hypervisor sees each change of normal memory: the frames of the public state are what the writes of the view leave
abbrev pub WritesMakeFrames : Type 0
WritesMakeFrames = (plan : Plan) (past : List Event) (n : ℕ) → memory_seen plan (view plan past) n ≡ frame_after plan n past

-- the steps of a page's move keep to their objects: begins and ends change no normal frame, and copies no guest; the copy of a page-in only reads
pub record KeepsToItsObjects (plan : Plan) (past : List Event) (e : Event) : Type 0 where
  pub begin_out : (lpid dest gpa flags order n : ℕ) → e.trace.cmd ≡ UPageout lpid dest gpa flags order → frame_after plan n (e ∷ past) ≡ frame_after plan n past
  -- a call that comes back at once with U_SUCCESS moved nothing
  pub begin_in : (lpid src gpa flags order n : ℕ) → e.trace.cmd ≡ UPagein lpid src gpa flags order → e.trace.answer ≢ answer.Ret USuccess → frame_after plan n (e ∷ past) ≡ frame_after plan n past
  pub copy : (way : Way) (move : Move) (lpid : ℕ) → e.saw.before ≡ ctx.Uv (work_by way move) → move.copied ≡ false → guest_after plan lpid (e ∷ past) ≡ guest_after plan lpid past
  pub read : (move : Move) (n : ℕ) → e.saw.before ≡ ctx.Uv (Inward move) → frame_after plan n (e ∷ past) ≡ frame_after plan n past
  pub end : (way : Way) (move : Move) (n : ℕ) → e.saw.before ≡ ctx.Uv (work_by way move) → move.copied ≡ true → frame_after plan n (e ∷ past) ≡ frame_after plan n past

abbrev pub EachMoveKeepsToItsObjects : Type 0
EachMoveKeepsToItsObjects = (plan : Plan) (past : List Event) (e : Event) → Extends plan past e → KeepsToItsObjects plan past e

-- a load of the hypervisor that is done gives what was last written at its real address
abbrev pub LoadGivesLastNorm : Type 0
LoadGivesLastNorm =
    (config : Config) (past : List Event) (e : Event) (ra value : ℕ) → IsInRange config → IsLegal (plan_of config) (e ∷ past) →
    e.saw.before ≡ ctx.Hv → e.trace.cmd ≡ HLd ra → e.trace.answer ≡ answer.Val value → value ≡ last_norm (plan_of config) past ra

-- after a store of the hypervisor that is done, the value last written at its real address is the one that it stored
abbrev pub StoreIsLastNorm : Type 0
StoreIsLastNorm =
    (config : Config) (past : List Event) (e : Event) (ra value : ℕ) → IsInRange config → IsLegal (plan_of config) (e ∷ past) →
    e.saw.before ≡ ctx.Hv → e.trace.cmd ≡ HSt ra value → e.trace.answer ≡ answer.Done → last_norm (plan_of config) (e ∷ past) ra ≡ value

-- a guest's partition entry has at most the guest's pages, and a normal frame for each
abbrev pub EachPartitionEntryFits : Type 0
EachPartitionEntryFits = (plan : Plan) (past : List Event) (lpid : ℕ) → IsLegal plan past → has_frames plan (part_after plan past lpid).entry.base (part_after plan past lpid).entry.length_ ≡ true

-- the real address at which a guest address lies in a normal frame
abbrev pub address_through : Plan → ℕ → ℕ → ℕ
address_through plan n gpa = address_at plan n (offset_of plan gpa)

-- a load of a guest that is done in a normal frame gives what was last written there, whoever wrote it
abbrev pub LoadThroughGivesLastNorm : Type 0
LoadThroughGivesLastNorm =
    (config : Config) (past : List Event) (e : Event) (run : Run) (rd gpa n value : ℕ) → IsInRange config → IsLegal (plan_of config) (e ∷ past) →
    e.saw.before ≡ ctx.Guest run → e.trace.cmd ≡ GLd rd gpa → e.trace.answer ≡ answer.Val value → e.saw.frame ≡ Some n → value ≡ last_norm (plan_of config) past (address_through (plan_of config) n gpa)

-- after a store of a guest that is done in a normal frame, the value last written there is that of its register
abbrev pub StoreThroughIsLastNorm : Type 0
StoreThroughIsLastNorm =
    (config : Config) (past : List Event) (e : Event) (run : Run) (rs gpa n : ℕ) → IsInRange config → IsLegal (plan_of config) (e ∷ past) →
    e.saw.before ≡ ctx.Guest run → e.trace.cmd ≡ GSt rs gpa → e.saw.frame ≡ Some n → reg (plan_of config) past run.lpid run.vid rs < 2 ^ 64 →
    last_norm (plan_of config) (e ∷ past) (address_through (plan_of config) n gpa) ≡ reg (plan_of config) past run.lpid run.vid rs
