-- The steps of a page-in do what their rows of the model say, whatever guest, CPU and frame of the model are shown, but for a digest collision.
use Rattle.std.specs.Prelude.{◌≡◌, ◌≢◌, ℕ, nat_lt, true, false, List, length, Some}
use Rattle.pef_model.specs.declared.state.Move.{Move}
use Rattle.pef_model.specs.declared.state.Tag.{Tag}
use Rattle.pef_model.specs.declared.command.Cmd.TheVariants.{UPagein, Go}
use Rattle.pef_model.specs.declared.entry.Answer.{Answer}
use Rattle.pef_model.specs.declared.entry.Answer.TheVariants as answer
use Rattle.pef_model.specs.Plan.{Plan}
use Rattle.pef_model.specs.Event.{Event, Mark}
use Rattle.pef_model.specs.Registers.{loaded, with_code}
use Rattle.pef_model.specs.Cpu.{CpuPart, next_cpu}
use Rattle.pef_model.specs.Guest.{Guest as GuestWhole}
use Rattle.pef_model.specs.Deed.{deed_page_in, deed_page_in_copy, deed_page_in_end}
use Rattle.pef_model.specs.History.{entry_of}
use Rattle.pef_model.specs.Clash.{ends_in_clash}
use Rattle.pef_frames.specs.Pool.{PoolState}
use Rattle.pef_pages.specs.Pages.{digest_at}
use Rattle.pef_guest.specs.declared.cpu.Cpu.{Cpu}
use Rattle.pef_guest.specs.declared.guest.Guest.{Guest}
use Rattle.pef_guest.specs.Shows.{ShowsCpu, Shows, digest_by}
use Rattle.pef_guest.specs.Refused.{RefusesCpu, SameGuest}
use Rattle.pef_guest.specs.Rows.{RowWithPool, ask_hypervisor, ask_reading, ask_inward}
use Rattle.pef_move.specs.declared.page_call.PageCall.{PageCall}

-- a call that comes back at once changes its caller's registers and last answer, and nothing else but a count of steps
abbrev pub RefusesPageIn : {S : Type 0} → PageCall → Guest S → Guest S → Cpu → Cpu → PoolState → PoolState → Answer → Type 0
RefusesPageIn call old new cpu cpu_new pool pool_new (answer.Ret code) =
    (cpu_new ≡ record cpu { gpr = with_code (loaded cpu.gpr (UPagein call.lpid call.ra call.gpa call.flags call.order)) code; last = answer.Ret code }) × RefusesCpu cpu cpu_new code × SameGuest old new × (pool_new ≡ pool)
RefusesPageIn call old new cpu cpu_new pool pool_new answer.Step = Unit {0}
RefusesPageIn call old new cpu cpu_new pool pool_new other = ⊥

-- UV_PAGE_IN of the hypervisor
abbrev pub BeginsPageIn : {S : Type 0} → (S → Tag → List ℕ → List ℕ → Type 0) → (S → Tag → List ℕ → List ℕ) → PageCall → Guest S → Guest S → Cpu → Cpu → PoolState → PoolState → Answer → Type 0
BeginsPageIn stands image call old new cpu cpu_new pool pool_new answer =
    (plan : Plan) (g : GuestWhole) (c : CpuPart) (mark : Mark) → mark.cpu ≡ cpu.number → Shows stands image plan old g → ShowsCpu cpu c →
    RowWithPool stands image plan g c
    (entry_of (ask_hypervisor c) mark (UPagein call.lpid call.ra call.gpa call.flags call.order)
    (deed_page_in plan g.part (nat_lt 0 (length pool.free)) (ask_hypervisor c) call.lpid call.ra call.gpa call.flags call.order))
    new cpu_new (length pool.free) (length pool_new.free) answer

-- a copy answers what its entry does, and leaves the CPU as the entry does; it only reads the normal frame
pub record RowRead (c : CpuPart) (e : Event) (cpu : Cpu) (answer : Answer) : Type 0 where
  pub answered : answer ≡ e.trace.answer
  pub cpu_is : ShowsCpu cpu (next_cpu c e)

-- the copy of a page-in
abbrev pub CopiesPageIn : Move → Cpu → Cpu → List ℕ → Answer → Type 0
CopiesPageIn move cpu cpu_new frame answer =
    (c : CpuPart) (mark : Mark) (n : ℕ) → ShowsCpu cpu c → RowRead c (entry_of (ask_reading move c) mark Go (deed_page_in_copy move n frame (ask_reading move c))) cpu_new answer

-- the end of a page-in is refused: in the guest's generation, where the hand has another digest than the page keeps
pub record IsRefusedIn {S : Type 0} (guest : Guest S) (hand : List ℕ) (move : Move) : Type 0 where
  pub now : move.generation ≡ guest.generation
  pub differs : digest_at guest.pages move.gfn ≢ Some (digest_by hand)

-- the end of a page-in, unless it ends in a clash, as the model says of a copied move
abbrev pub EndsPageIn : {S : Type 0} → (S → Tag → List ℕ → List ℕ → Type 0) → (S → Tag → List ℕ → List ℕ) → Move → Guest S → Guest S → Cpu → Cpu → PoolState → PoolState → Answer → Type 0
EndsPageIn stands image move old new cpu cpu_new pool pool_new answer =
    (plan : Plan) (g : GuestWhole) (c : CpuPart) (mark : Mark) → Shows stands image plan old g → ShowsCpu cpu c → ends_in_clash g.part (record move { copied = true }) c.hand ≡ false →
    RowWithPool stands image plan g c (entry_of (ask_inward move c) mark Go (deed_page_in_end g.part (ask_inward move c) move)) new cpu_new (length pool.free) (length pool_new.free) answer
