-- What a CPU and a guest show of the objects of the model.
use Rattle.std.specs.Prelude.{◌≡◌, ◌↔◌, ℕ, ◌%◌, ◌^◌, ◌<◌, List, length, Option, Some, None, option_map, slice_index_or, IsSome}
use Rattle.sha2.specs.Sha256.{sha256}
use Rattle.pef_model.specs.declared.state.Kind.TheVariants as kind
use Rattle.pef_model.specs.declared.state.Digest32.{Digest32}
use Rattle.pef_model.specs.declared.state.Tag.{Tag}
use Rattle.pef_model.specs.declared.state.Way.TheVariants.{Outward}
use Rattle.pef_model.specs.declared.state.VState.TheVariants.{Idle}
use Rattle.pef_model.specs.declared.state.Regs.{Regs}
use Rattle.pef_model.specs.Plan.{Plan}
use Rattle.pef_model.specs.Doubleword.{doubleword}
use Rattle.pef_model.specs.Cpu.{CpuPart}
use Rattle.pef_model.specs.GuestPart.{Page, VcpuPart, PartitionEntry, page_of}
use Rattle.pef_model.specs.PageOut.{tag_of, private_page}
use Rattle.pef_model.specs.Guest.{Guest as GuestWhole}
use Rattle.pef_model.specs.Memory.{offset_of}
use Rattle.pef_pate.specs.declared.pate.Pate.{Pate}
use Rattle.pef_frames.specs.Frame.{FrameState}
use Rattle.pef_pages.specs.declared.cell.Cell.{Cell}
use Rattle.pef_pages.specs.declared.cell.Cell.TheVariants as cell
use Rattle.pef_pages.specs.Cells.{way_of}
use Rattle.pef_pages.specs.Pages.{PagesState, cell_at, kind_at, mover_at, version_at, frame_at}
use Rattle.pef_regs.specs.declared.vcpu.Vcpu.{Vcpu}
use Rattle.pef_regs.specs.Start.{start_vcpu}
use Rattle.pef_guest.specs.declared.cpu.Cpu.{Cpu}
use Rattle.pef_guest.specs.declared.guest.Guest.{Guest}

-- a CPU is that of the model
pub record ShowsCpu (cpu : Cpu) (part : CpuPart) : Type 0 where
  pub ctx : cpu.ctx ≡ part.ctx
  pub own : cpu.gpr ≡ part.own
  pub lpid : cpu.lpid ≡ part.lpid
  pub vid : cpu.vid ≡ part.vid
  pub last : cpu.last ≡ part.last
  pub hand : cpu.hand ≡ part.hand

-- a partition entry is that of the model
pub record ShowsEntry (entry : Pate) (part : PartitionEntry) : Type 0 where
  pub base : entry.dw0 ≡ part.base
  pub length_is : entry.dw1 ≡ part.length_

-- a frame holds the doublewords of a page of the model
abbrev pub HoldsPage : Plan → GuestWhole → ℕ → FrameState → Type 0
HoldsPage plan g gfn frame = (gpa : ℕ) → gpa % 8 ≡ 0 → page_of plan gpa ≡ gfn → doubleword frame.bytes (offset_of plan gpa) ≡ g.content gpa

-- each doubleword of a page of the model is 0
abbrev pub IsZeroPage : Plan → GuestWhole → ℕ → Type 0
IsZeroPage plan g gfn = (gpa : ℕ) → page_of plan gpa ≡ gfn → g.content gpa ≡ 0

-- the pages are those of the model, in their order; the frame of each Secure page holds what was last stored there, and an Invalid page is 0
pub record ShowsPages (plan : Plan) (pages : PagesState FrameState) (g : GuestWhole) : Type 0 where
  pub count : length pages.pages ≡ plan.pages
  pub kinds : (gfn : ℕ) → gfn < plan.pages → kind_at pages gfn ≡ (g.part.pages gfn).kind
  pub movers : (gfn : ℕ) → gfn < plan.pages → mover_at pages gfn ≡ (g.part.pages gfn).mover
  pub order : pages.order ≡ g.part.order
  pub holds : (gfn : ℕ) (frame : FrameState) → kind_at pages gfn ≡ kind.Secure → frame_at pages gfn ≡ Some frame → HoldsPage plan g gfn frame
  pub zeros : (gfn : ℕ) → kind_at pages gfn ≡ kind.Invalid → IsZeroPage plan g gfn

-- a vCPU's state, the generation when it was taken up, and all its registers
pub record ShowsVcpu (vcpu : Vcpu) (part : VcpuPart) (regs : Regs) : Type 0 where
  pub state : vcpu.state ≡ part.state
  pub generation : vcpu.generation ≡ part.generation
  pub registers : vcpu.regs ≡ regs

-- a vCPU of a guest by its number
abbrev pub vcpu_at : {S : Type 0} → Guest S → ℕ → Vcpu
vcpu_at guest vid = slice_index_or guest.vcpus.items vid (start_vcpu Idle)

-- the digest of bytes
abbrev pub digest_by : List ℕ → Digest32
digest_by bytes = record { bytes = sha256 bytes }

-- the digest that a page keeps: of what was sealed last, or is to be that
abbrev pub kept_in : {F : Type 0} → Cell F → Option Digest32
kept_in (cell.Out digest) = Some digest
kept_in (cell.MovesOut frame cpu digest) = digest
kept_in (cell.MovesIn frame cpu digest) = digest
kept_in cell.Invalid = None
kept_in (cell.Secure frame) = None
kept_in (cell.Shared frame) = None
kept_in (cell.Unbacked fresh) = None

-- the first of two lists of bytes that is there
abbrev pub first_there : Option (List ℕ) → Option (List ℕ) → Option (List ℕ)
first_there (Some bytes) other = Some bytes
first_there None other = other

-- what was last sealed of a page that is Out, or is to be that of one that moves outward
abbrev pub sealed_of : Page → Option (List ℕ)
sealed_of page = first_there page.pending page.sealed

-- what the sealer of a guest means: what it gives back for what, and what it writes
module _ {S : Type 0} (stands : S → Tag → List ℕ → List ℕ → Type 0) (image : S → Tag → List ℕ → List ℕ) where
  -- a guest's pages keep what is needed to have those back that are Out
  pub record ShowsSealed (plan : Plan) (guest : Guest S) (g : GuestWhole) : Type 0 where
    -- the sealer writes the plan's sealed pages
    pub images : image guest.sealer ≡ plan.image
    -- each page has its version
    pub versions : (gfn : ℕ) → gfn < plan.pages → version_at guest.pages gfn ≡ (g.part.pages gfn).version
    -- and keeps the digest of what was sealed of it, where something was
    pub digests : (gfn : ℕ) → gfn < plan.pages → kept_in (cell_at guest.pages gfn) ≡ option_map digest_by (sealed_of (g.part.pages gfn))
    -- for that the sealer gives the page of the last stores, under the tag of its version
    pub stands_for : (gfn : ℕ) (sealed : List ℕ) → gfn < plan.pages → sealed_of (g.part.pages gfn) ≡ Some sealed →
        stands guest.sealer (tag_of g.part guest.lpid gfn (g.part.pages gfn).version) (private_page plan g gfn) sealed
    -- and each of the last stores there has 64 bits
    pub words : (gpa : ℕ) (sealed : List ℕ) → gpa % 8 ≡ 0 → page_of plan gpa < plan.pages → sealed_of (g.part.pages (page_of plan gpa)) ≡ Some sealed → g.content gpa < 2 ^ 64
    -- a page has the bytes that are to be what was sealed of it exactly where it is on its way out
    pub pendings : (gfn : ℕ) → gfn < plan.pages → (way_of (mover_at guest.pages gfn) ≡ Some Outward) ↔ IsSome (g.part.pages gfn).pending

  -- a guest is that of the model, with what it keeps to itself
  pub record Shows (plan : Plan) (guest : Guest S) (g : GuestWhole) : Type 0 where
    pub shift : guest.shift ≡ plan.shift
    pub normal : guest.normal ≡ plan.normal
    pub phase : guest.phase ≡ g.part.phase
    pub generation : guest.generation ≡ g.part.generation
    pub entry : ShowsEntry guest.entry g.part.entry
    pub slots : guest.slots ≡ g.part.slots
    -- the entropy words that are left, and how many they are
    pub words : guest.words ≡ g.words
    pub words_left : length guest.words ≡ g.part.words
    pub pages : ShowsPages plan guest.pages g
    pub sealed : ShowsSealed plan guest g
    pub count : length guest.vcpus.items ≡ plan.vcpus
    pub vcpus : (vid : ℕ) → vid < plan.vcpus → ShowsVcpu (vcpu_at guest vid) (g.part.vcpus vid) (g.registers vid)
