-- A CPU is still one of the machine's after each step of a move, and its page is ready for the end.
use Rattle.std.proofs.Common.{◌≡◌, ℕ, ◌+◌, ◌-◌, ◌<◌, ◌≤◌, ◌^◌, List, length, Option, Some, None, get_or, refl, ap, sym, subst, ◌∙◌, arith}
use Rattle.std.specs.Prelude.{slice_get, slice_set}
use Rattle.std.proofs.lemmas.Option.{slice_get_within}
use Rattle.pef_model.specs.declared.state.Way.{Way}
use Rattle.pef_model.specs.declared.state.Mover.{Mover}
use Rattle.pef_model.specs.declared.state.Move.{Move}
use Rattle.pef_model.specs.declared.state.Ctx.{Ctx}
use Rattle.pef_frames.specs.Frame.{FrameState}
use Rattle.pef_pages.specs.declared.cell.Cell.{Cell}
use Rattle.pef_pages.specs.declared.cell.Cell.TheVariants as cell
use Rattle.pef_pages.specs.Cells.{mover_of, frame_in}
use Rattle.pef_pages.specs.Pages.{cell_at, mover_at}
use Rattle.pef_guest.specs.declared.cpu.Cpu.{Cpu}
use Rattle.pef_guest.specs.declared.guest.Guest.{Guest}
use Rattle.pef_guest.specs.Keeps.{KeepsGuest}
use Rattle.pef_guest.specs.Ready.{MayEnd, HasRoomFor}
use Rattle.pef_core.specs.Normal.{NormalState}
use Rattle.pef_core.specs.State.{State, HasContext, HasSteps, IsCpuOf, IsGuestOf, IsMoveOf, IsWholeMachine, MovesPage, FramesOnce}
use Rattle.pef_core.proofs.Places.{read_at, found_cpu, get_set}
use Rattle.pef_core.proofs.Room.{room}

-- a step has found its CPU, in a context, and a guest
pub record Site {S : Type 0} (takes : S → ℕ → ℕ → Type 0) (m : State S) (n : ℕ) (cpu : Cpu) (c : Ctx) (i : ℕ) (guest : Guest S) : Type 0 where
  pub there : slice_get m.cpus n ≡ Some cpu
  pub context : cpu.ctx ≡ c
  pub is_cpu : IsCpuOf m.guests m.normal n cpu
  pub here : slice_get m.guests i ≡ Some guest
  pub is_guest : IsGuestOf takes m i guest
  pub fewer : guest.steps < m.steps
  pub few : m.steps ≤ 2 ^ 63

pub site : {S : Type 0} (takes : S → ℕ → ℕ → Type 0) (m now : State S) (n : ℕ) (cpu : Cpu) (c : Ctx) (i : ℕ) (guest : Guest S) → m ≡ now → IsWholeMachine takes m → HasContext now.cpus n c → HasSteps now →
    cpu ≡ get_or m.cpus n cpu → i < length m.guests → guest ≡ get_or m.guests i guest → Site takes m n cpu c i guest
site takes m now n cpu c i guest view whole has steps cpu_read below guest_read =
    let own = found_cpu m.cpus now n cpu c (ap (λ (x : State _). x.cpus) (sym view)) has cpu_read in
    let here : slice_get m.guests i ≡ Some guest = read_at m.guests i guest below guest_read in
    let counted : HasSteps m = subst HasSteps (sym view) steps in
    record {
      there = own.0;
      context = own.1;
      is_cpu = whole.cpus n cpu own.0;
      here = here;
      is_guest = whole.guests i guest here;
      fewer = counted.fewer i guest here;
      few = counted.few;
    }

module _ {S : Type 0} (guests : List (Guest S)) (normal : NormalState) (n : ℕ) (cpu new : Cpu) (i : ℕ) (guest new_guest : Guest S) (is : IsCpuOf guests normal n cpu) (keeps : KeepsGuest guest new_guest)
    (here : slice_get guests i ≡ Some guest) where
  after : List (Guest S)
  after = slice_set guests i new_guest

  -- a move of a page of the guest that has begun is one of the machine's
  pub begun_move : (heading : Way) (move : Move) → guest.lpid ≡ i + 1 → guest.normal ≡ length normal.frames → new.number ≡ n → move.lpid ≡ new_guest.lpid → move.generation ≡ new_guest.generation →
      mover_at new_guest.pages move.gfn ≡ Some (record { cpu = new.number; way = heading }) → move.frame < new_guest.normal → IsMoveOf (slice_set guests i new_guest) normal (record { cpu = n; way = heading }) move
  begun_move heading move lpid_is frames number lpid_same life mover frame =
      let lpid : move.lpid ≡ i + 1 = lpid_same ∙ keeps.lpid ∙ lpid_is in
      let place : move.lpid - 1 ≡ i = omega arith in
      let there : slice_get (slice_set guests i new_guest) (move.lpid - 1) ≡ Some new_guest = ap (slice_get (slice_set guests i new_guest)) place ∙ get_set guests i guest new_guest here in
      let moved : mover_at new_guest.pages move.gfn ≡ Some (record { cpu = n; way = heading }) = mover ∙ ap (λ (k : ℕ). Some (let m : Mover = record { cpu = k; way = heading } in m)) number in
      record {
        least = omega arith;
        moves = subst (λ o. MovesPage o move.generation move.gfn (record { cpu = n; way = heading })) (sym there) (omega (arith, life), λ same. moved);
        frame = subst (λ (k : ℕ). move.frame < k) (keeps.normal ∙ frames) frame;
      }

-- a page that moves has a frame
moving_frame : (c : Cell FrameState) (mover : Mover) → mover_of c ≡ Some mover → (frame : FrameState) × (frame_in c ≡ Some frame)
moving_frame (cell.MovesOut frame cpu digest) mover is = (frame, refl)
moving_frame (cell.MovesIn frame cpu digest) mover is = (frame, refl)
moving_frame cell.Invalid mover is = cc
moving_frame (cell.Secure frame) mover is = cc
moving_frame (cell.Out digest) mover is = cc
moving_frame (cell.Shared frame) mover is = cc
moving_frame (cell.Unbacked fresh) mover is = cc

-- a page whose move is of the guest's generation is moved by its CPU still
pub moved_by : {S : Type 0} (m : State S) (n : ℕ) (cpu : Cpu) (heading : Way) (move : Move) (guest : Guest S) → cpu.number ≡ n → IsMoveOf m.guests m.normal (record { cpu = n; way = heading }) move →
    slice_get m.guests (move.lpid - 1) ≡ Some guest → MayEnd guest cpu heading move
moved_by m n cpu heading move guest number moves here same =
    (subst (λ o. MovesPage o move.generation move.gfn (record { cpu = n; way = heading })) here moves.moves).1 same ∙ ap (λ (k : ℕ). Some (let x : Mover = record { cpu = k; way = heading } in x)) (sym number)

-- and the pool has room for its frame
pub has_room : {S : Type 0} (m : State S) (n : ℕ) (heading : Way) (move : Move) (guest : Guest S) → FramesOnce m → IsMoveOf m.guests m.normal (record { cpu = n; way = heading }) move →
    slice_get m.guests (move.lpid - 1) ≡ Some guest → HasRoomFor guest m.pool move
has_room m n heading move guest once moves here same =
    let mover : mover_at guest.pages move.gfn ≡ Some (record { cpu = n; way = heading }) = (subst (λ o. MovesPage o move.generation move.gfn (record { cpu = n; way = heading })) here moves.moves).1 same in
    let has = moving_frame (cell_at guest.pages move.gfn) (record { cpu = n; way = heading }) mover in
    room m once (move.lpid - 1) guest here move.gfn has.0 has.1

-- the guest of a move is one of the machine's
pub move_below : {S : Type 0} (guests : List (Guest S)) (normal : NormalState) (mover : Mover) (move : Move) → IsMoveOf guests normal mover move → move.lpid - 1 < length guests
move_below {S = S} guests normal mover move moves = by_guest (slice_get guests (move.lpid - 1)) refl moves.moves where
  by_guest : (o : Option (Guest S)) → slice_get guests (move.lpid - 1) ≡ o → MovesPage o move.generation move.gfn mover → move.lpid - 1 < length guests
  by_guest None is h = absurd h
  by_guest (Some guest) is h = slice_get_within guests (move.lpid - 1) guest is
