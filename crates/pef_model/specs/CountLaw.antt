-- Laws of whole histories: each vCPU runs on one CPU, the frames are counted, and memory slots are apart.
use Rattle.std.specs.Prelude.{◌≡◌, ◌≢◌, ℕ, ◌+◌, ◌<◌, ◌≤◌, ◌==◌, if◌then◌else◌, List, ◌∷◌, All, filter, length, take, Some, None, true}
use Rattle.std.specs.List.{count_by}
use Rattle.pef_model.specs.declared.state.Phase.TheVariants.{Normal, Secure}
use Rattle.pef_model.specs.declared.state.Kind.TheVariants.{Invalid}
use Rattle.pef_model.specs.declared.state.VState.TheVariants.{Running}
use Rattle.pef_model.specs.declared.state.Run.{Run}
use Rattle.pef_model.specs.declared.state.Ctx.TheVariants as ctx
use Rattle.pef_model.specs.Plan.{Plan}
use Rattle.pef_model.specs.Event.{Event}
use Rattle.pef_model.specs.Target.{vcpu_in}
use Rattle.pef_model.specs.Slots.{AreSlots}
use Rattle.pef_model.specs.GuestPart.{is_secure, frames_in, sum_below}
use Rattle.pef_model.specs.Entry.{may_write_in}
use Rattle.pef_model.specs.History.{cpu_after, pool_after, IsLegal, part_after, page_after}

-- a CPU runs the vCPU whose step is next on it: the one that its context names, or the one whose call is in progress
pub record RunsItsVcpu (plan : Plan) (past : List Event) (n : ℕ) (run : Run) : Type 0 where
  -- the vCPU's state is that it runs on this CPU
  pub state : ((part_after plan past run.lpid).vcpus run.vid).state ≡ Running n
  -- it was taken up in the generation that the context names
  pub taken : ((part_after plan past run.lpid).vcpus run.vid).generation ≡ run.generation
  -- a guest that runs, and not a call of its own, does so in normal memory or is secure
  pub secure : (cpu_after plan n past).ctx ≡ ctx.Guest run → (part_after plan past run.lpid).phase ≢ Normal → (part_after plan past run.lpid).phase ≡ Secure

-- each CPU does, as long as the guest is in the generation that the context names, while a call of the vCPU is in progress too
abbrev pub EachCpuRunsItsVcpu : Type 0
EachCpuRunsItsVcpu =
    (plan : Plan) (past : List Event) (n : ℕ) (run : Run) → IsLegal plan past → vcpu_in (cpu_after plan n past).ctx ≡ Some run → run.generation ≡ (part_after plan past run.lpid).generation →
    RunsItsVcpu plan past n run

-- a context names a generation that its guest has reached
abbrev pub EachRunIsOfAGeneration : Type 0
EachRunIsOfAGeneration =
    (plan : Plan) (past : List Event) (n : ℕ) (run : Run) → IsLegal plan past → vcpu_in (cpu_after plan n past).ctx ≡ Some run → run.generation ≤ (part_after plan past run.lpid).generation

-- two CPUs that run the same vCPU in one generation, or have its call in progress, are the same CPU
abbrev pub NoVcpuRunsTwice : Type 0
NoVcpuRunsTwice =
    (plan : Plan) (past : List Event) (m n : ℕ) (left right : Run) → IsLegal plan past →
    vcpu_in (cpu_after plan m past).ctx ≡ Some left → vcpu_in (cpu_after plan n past).ctx ≡ Some right → left.lpid ≡ right.lpid → left.vid ≡ right.vid → left.generation ≡ right.generation → m ≡ n

-- an order has each Secure page of its guest once, and no other page
abbrev pub OrderHasSecurePages : Type 0
OrderHasSecurePages =
    (plan : Plan) (past : List Event) (lpid gfn : ℕ) → IsLegal plan past →
    count_by (λ p. p == gfn) (part_after plan past lpid).order ≡ (if is_secure ((part_after plan past lpid).pages gfn) then 1 else 0)

-- the pages of a guest's order that are still Secure after an entry, in their order
abbrev pub still_secure : Plan → List Event → Event → ℕ → List ℕ
still_secure plan past e lpid = filter (λ gfn. is_secure ((part_after plan (e ∷ past) lpid).pages gfn)) (part_after plan past lpid).order

-- the pages that stay Secure keep their order, and a page that becomes Secure stands behind them
abbrev pub OrderGrows : Type 0
OrderGrows =
    (plan : Plan) (past : List Event) (e : Event) (lpid : ℕ) →
    take (length (still_secure plan past e lpid)) (part_after plan (e ∷ past) lpid).order ≡ still_secure plan past e lpid

-- the secure frames of a guest after a history
abbrev pub frames_held : Plan → List Event → ℕ → ℕ
frames_held plan past lpid = frames_in plan (part_after plan past lpid)

-- the free frames and those of all guests' pages are as many as the secure frames
abbrev pub FramesAreCounted : Type 0
FramesAreCounted =
    (plan : Plan) (past : List Event) → 0 < plan.guests → IsLegal plan past → pool_after plan past + sum_below plan.guests (λ i. frames_held plan past (i + 1)) ≡ plan.secure

-- a guest that is Absent or in normal memory has no secure frame and no page on the move: each of its pages is Invalid at rest
pub record IsPlain (plan : Plan) (past : List Event) (lpid gfn : ℕ) : Type 0 where
  pub kind : (page_after plan past lpid gfn).kind ≡ Invalid
  pub mover : (page_after plan past lpid gfn).mover ≡ None

abbrev pub EachNormalGuestIsPlain : Type 0
EachNormalGuestIsPlain = (plan : Plan) (past : List Event) (lpid gfn : ℕ) → IsLegal plan past → may_write_in (part_after plan past lpid).phase ≡ true → IsPlain plan past lpid gfn

-- a guest's slots are apart, and each lies in the guest's pages
pub record HasItsSlots (plan : Plan) (past : List Event) (lpid : ℕ) : Type 0 where
  pub are : AreSlots (part_after plan past lpid).slots
  pub within : All (λ slot. slot.first + slot.count ≤ plan.pages) (part_after plan past lpid).slots

abbrev pub EachGuestHasItsSlots : Type 0
EachGuestHasItsSlots = (plan : Plan) (past : List Event) (lpid : ℕ) → 0 < plan.pages → IsLegal plan past → HasItsSlots plan past lpid
