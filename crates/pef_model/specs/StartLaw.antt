-- How a machine starts.
use Rattle.std.specs.Prelude.{◌≡◌, ◌^◌, ℕ, true, false, [], None, replicate}
use Rattle.pef_model.specs.declared.state.Phase.TheVariants as phase
use Rattle.pef_model.specs.declared.state.Kind.TheVariants as kind
use Rattle.pef_model.specs.declared.state.VState.TheVariants as vstate
use Rattle.pef_model.specs.declared.state.Ctx.TheVariants as ctx
use Rattle.pef_model.specs.declared.entry.Answer.TheVariants as answer
use Rattle.pef_model.specs.Plan.{Plan}
use Rattle.pef_model.specs.GuestPart.{Page}
use Rattle.pef_model.specs.Guest.{Guest}
use Rattle.pef_model.specs.Cpu.{CpuPart}
use Rattle.pef_model.specs.History.{cpu_after, guest_after, pool_after, frame_after}

-- a page without a frame, at rest, that was never paged out
pub record PageStarts (page : Page) : Type 0 where
  pub kind_is : page.kind ≡ kind.Invalid
  pub mover : page.mover ≡ None
  pub version : page.version ≡ 0
  pub sealed : page.sealed ≡ None
  pub pending : page.pending ≡ None
  pub plain : page.plain ≡ None

-- what each guest starts with
pub record GuestStarts (plan : Plan) (lpid : ℕ) (g : Guest) : Type 0 where
  -- one that is born is Secure, and its vCPUs wait to run
  pub born : plan.is_born lpid ≡ true → g.part.phase ≡ phase.Secure
  pub fresh : plan.is_born lpid ≡ true → (vid : ℕ) → (g.part.vcpus vid).state ≡ vstate.Fresh
  -- another is Absent, and its vCPUs don't run
  pub unborn : plan.is_born lpid ≡ false → g.part.phase ≡ phase.Absent
  pub idle : plan.is_born lpid ≡ false → (vid : ℕ) → (g.part.vcpus vid).state ≡ vstate.Idle
  -- it is its number's first, without a partition entry
  pub generation : g.part.generation ≡ 1
  pub base : g.part.entry.base ≡ 0
  pub length_ : g.part.entry.length_ ≡ 0
  -- no vCPU was ever taken up, and no page is Secure
  pub taken : (vid : ℕ) → (g.part.vcpus vid).generation ≡ 0
  pub pages : (gfn : ℕ) → PageStarts (g.part.pages gfn)
  pub order : g.part.order ≡ []
  -- all memory and registers are zero, all words are left, and no collision was met
  pub content : (gpa : ℕ) → g.content gpa ≡ 0
  pub gpr : (vid : ℕ) → (g.registers vid).gpr ≡ replicate 32 0
  pub nip : (vid : ℕ) → (g.registers vid).nip ≡ 0
  pub srr0 : (vid : ℕ) → (g.registers vid).srr0 ≡ 0
  pub count : g.part.words ≡ plan.words lpid
  pub words : g.words ≡ plan.entropy lpid
  pub clean : g.clean ≡ true

-- what each CPU starts with: the hypervisor runs, all zero, with vCPU 0 of guest 1 selected
pub record CpuStarts (plan : Plan) (cpu : CpuPart) : Type 0 where
  pub ctx_is : cpu.ctx ≡ ctx.Hv
  pub own : cpu.own ≡ replicate 32 0
  pub lpid : cpu.lpid ≡ 1
  pub vid : cpu.vid ≡ 0
  pub last : cpu.last ≡ answer.Nothing
  pub hand : cpu.hand ≡ replicate (2 ^ plan.shift) 0

-- the machine at the start: its guests and CPUs, all secure frames free, all normal memory zero
pub record Starts (plan : Plan) : Type 0 where
  pub guests : (lpid : ℕ) → GuestStarts plan lpid (guest_after plan lpid [])
  pub cpus : (n : ℕ) → CpuStarts plan (cpu_after plan n [])
  pub pool : pool_after plan [] ≡ plan.secure
  pub frames : (n : ℕ) → frame_after plan n [] ≡ replicate (2 ^ plan.shift) 0

abbrev pub StartsAs : Type 0
StartsAs = (plan : Plan) → Starts plan
