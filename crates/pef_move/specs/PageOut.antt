-- The steps of a page-out do what their rows of the model say, whatever guest, CPU and frame of the model are shown.
use Rattle.std.specs.Prelude.{◌≡◌, ℕ, List, length, Some}
use Rattle.pef_model.specs.declared.state.Move.{Move}
use Rattle.pef_model.specs.declared.state.Tag.{Tag}
use Rattle.pef_model.specs.declared.command.Cmd.TheVariants.{UPageout, Go}
use Rattle.pef_model.specs.declared.entry.Answer.{Answer}
use Rattle.pef_model.specs.declared.entry.Answer.TheVariants as answer
use Rattle.pef_model.specs.Plan.{Plan}
use Rattle.pef_model.specs.Event.{Event, Mark}
use Rattle.pef_model.specs.Registers.{loaded, with_code}
use Rattle.pef_model.specs.Cpu.{CpuPart, next_cpu}
use Rattle.pef_model.specs.Guest.{Guest as GuestWhole}
use Rattle.pef_model.specs.Memory.{next_frame}
use Rattle.pef_model.specs.Deed.{deed_page_out, deed_page_out_copy, deed_page_out_end}
use Rattle.pef_model.specs.History.{entry_of}
use Rattle.pef_frames.specs.Frame.{FrameState}
use Rattle.pef_frames.specs.Pool.{PoolState, with_free}
use Rattle.pef_pages.specs.Cells.{kind_without, ended_out}
use Rattle.pef_pages.specs.Pages.{cell_at, kind_at, frame_at, digest_at, with_cell, leaves_order}
use Rattle.pef_guest.specs.declared.cpu.Cpu.{Cpu}
use Rattle.pef_guest.specs.declared.guest.Guest.{Guest}
use Rattle.pef_guest.specs.Shows.{ShowsCpu, Shows, kept_in}
use Rattle.pef_guest.specs.Refused.{RefusesCpu, SameGuest}
use Rattle.pef_guest.specs.Rows.{Row, RowWithPool, ask_hypervisor, ask_outward}
use Rattle.pef_move.specs.declared.page_call.PageCall.{PageCall}

-- what UV_PAGE_OUT keeps of a CPU
pub record KeepsCpu (old new : Cpu) : Type 0 where
  pub number : new.number ≡ old.number
  pub lpid : new.lpid ≡ old.lpid
  pub vid : new.vid ≡ old.vid
  pub hand : length new.hand ≡ length old.hand

-- a call that comes back at once changes its caller's registers and last answer, and nothing else but a count of steps
abbrev pub RefusesCall : {S : Type 0} → PageCall → Guest S → Guest S → Cpu → Cpu → Answer → Type 0
RefusesCall call old new cpu cpu_new (answer.Ret code) =
    (cpu_new ≡ record cpu { gpr = with_code (loaded cpu.gpr (UPageout call.lpid call.ra call.gpa call.flags call.order)) code; last = answer.Ret code }) × RefusesCpu cpu cpu_new code × SameGuest old new
RefusesCall call old new cpu cpu_new answer.Step = Unit {0}
RefusesCall call old new cpu cpu_new other = ⊥

-- UV_PAGE_OUT of the hypervisor
abbrev pub BeginsPageOut : {S : Type 0} → (S → Tag → List ℕ → List ℕ → Type 0) → (S → Tag → List ℕ → List ℕ) → PageCall → Guest S → Guest S → Cpu → Cpu → Answer → Type 0
BeginsPageOut stands image call old new cpu cpu_new answer =
    (plan : Plan) (g : GuestWhole) (c : CpuPart) (mark : Mark) → mark.cpu ≡ cpu.number → Shows stands image plan old g → ShowsCpu cpu c →
    Row stands image plan g c
    (entry_of (ask_hypervisor c) mark (UPageout call.lpid call.ra call.gpa call.flags call.order) (deed_page_out plan g (ask_hypervisor c) call.lpid call.ra call.gpa call.flags call.order))
    new cpu_new answer

-- a copy answers what its entry does, and leaves the CPU and the normal frame of this number as the entry does
pub record RowCopy (plan : Plan) (n : ℕ) (c : CpuPart) (e : Event) (cpu : Cpu) (frame frame_new : List ℕ) (answer : Answer) : Type 0 where
  pub answered : answer ≡ e.trace.answer
  pub cpu_is : ShowsCpu cpu (next_cpu c e)
  pub frame_is : frame_new ≡ next_frame plan n frame e

-- the copy of a page-out
abbrev pub CopiesPageOut : Move → Cpu → Cpu → List ℕ → List ℕ → Answer → Type 0
CopiesPageOut move cpu cpu_new frame frame_new answer =
    (plan : Plan) (c : CpuPart) (mark : Mark) (n : ℕ) → ShowsCpu cpu c →
    RowCopy plan n c (entry_of (ask_outward move c) mark Go (deed_page_out_copy move n (ask_outward move c))) cpu_new frame frame_new answer

-- a page that has gone out is at rest without a frame, with the digest that was put aside for it, and its frame is free
pub record GoesOut {S : Type 0} (move : Move) (old new : Guest S) (pool pool_new : PoolState) : Type 0 where
  pub frame : FrameState
  pub there : frame_at old.pages move.gfn ≡ Some frame
  pub pool_is : pool_new ≡ with_free pool frame.number
  pub pages : new.pages ≡ leaves_order (with_cell old.pages move.gfn (ended_out (cell_at old.pages move.gfn))) move.gfn
  pub kind_is : kind_at new.pages move.gfn ≡ kind_without (kept_in (cell_at old.pages move.gfn))
  pub digest : digest_at new.pages move.gfn ≡ kept_in (cell_at old.pages move.gfn)

-- the end of a page-out
abbrev pub EndsPageOut : {S : Type 0} → (S → Tag → List ℕ → List ℕ → Type 0) → (S → Tag → List ℕ → List ℕ) → Move → Guest S → Guest S → Cpu → Cpu → PoolState → PoolState → Answer → Type 0
EndsPageOut stands image move old new cpu cpu_new pool pool_new answer =
    (plan : Plan) (g : GuestWhole) (c : CpuPart) (mark : Mark) → Shows stands image plan old g → ShowsCpu cpu c →
    RowWithPool stands image plan g c (entry_of (ask_outward move c) mark Go (deed_page_out_end g.part (ask_outward move c) move)) new cpu_new (length pool.free) (length pool_new.free) answer
