-- What a page has, each part by cases.
use Rattle.std.specs.Prelude.{ℕ, Bool, false, Option, Some, None}
use Rattle.pef_model.specs.declared.state.Kind.{Kind}
use Rattle.pef_model.specs.declared.state.Kind.TheVariants as kind
use Rattle.pef_model.specs.declared.state.Way.{Way}
use Rattle.pef_model.specs.declared.state.Way.TheVariants.{Inward, Outward}
use Rattle.pef_model.specs.declared.state.Mover.{Mover}
use Rattle.pef_model.specs.declared.state.Digest32.{Digest32}
use Rattle.pef_pages.specs.declared.cell.Cell.{Cell}
use Rattle.pef_pages.specs.declared.cell.Cell.TheVariants as cell

-- the kind of a page without a frame, by the digest that it keeps
abbrev pub kind_without : Option Digest32 → Kind
kind_without None = kind.Invalid
kind_without (Some digest) = kind.Out

-- the way of a mover
abbrev pub way_of : Option Mover → Option Way
way_of None = None
way_of (Some mover) = Some mover.way

module _ {F : Type 0} where
  -- the kind: a page that moves keeps the one that it had
  abbrev pub kind_of : Cell F → Kind
  kind_of cell.Invalid = kind.Invalid
  kind_of (cell.Secure frame) = kind.Secure
  kind_of (cell.Out digest) = kind.Out
  kind_of (cell.Shared frame) = kind.Shared (Some frame) false
  kind_of (cell.Unbacked fresh) = kind.Shared None fresh
  kind_of (cell.MovesOut frame cpu digest) = kind.Secure
  kind_of (cell.MovesIn frame cpu digest) = kind_without digest

  -- which CPU moves the page, and which way
  abbrev pub mover_of : Cell F → Option Mover
  mover_of (cell.MovesOut frame cpu digest) = Some (record { cpu = cpu; way = Outward })
  mover_of (cell.MovesIn frame cpu digest) = Some (record { cpu = cpu; way = Inward })
  mover_of cell.Invalid = None
  mover_of (cell.Secure frame) = None
  mover_of (cell.Out digest) = None
  mover_of (cell.Shared frame) = None
  mover_of (cell.Unbacked fresh) = None

  -- the digest of what was paged out
  abbrev pub digest_of : Cell F → Option Digest32
  digest_of (cell.Out digest) = Some digest
  digest_of (cell.MovesIn frame cpu digest) = digest
  digest_of cell.Invalid = None
  digest_of (cell.Secure frame) = None
  digest_of (cell.Shared frame) = None
  digest_of (cell.Unbacked fresh) = None
  digest_of (cell.MovesOut frame cpu digest) = None

  -- the secure frame
  abbrev pub frame_in : Cell F → Option F
  frame_in (cell.Secure frame) = Some frame
  frame_in (cell.MovesOut frame cpu digest) = Some frame
  frame_in (cell.MovesIn frame cpu digest) = Some frame
  frame_in cell.Invalid = None
  frame_in (cell.Out digest) = None
  frame_in (cell.Shared frame) = None
  frame_in (cell.Unbacked fresh) = None

  -- a cell with another secure frame in it, where it has one
  abbrev pub with_frame : Cell F → F → Cell F
  with_frame (cell.Secure old) frame = cell.Secure frame
  with_frame (cell.MovesOut old cpu digest) frame = cell.MovesOut frame cpu digest
  with_frame (cell.MovesIn old cpu digest) frame = cell.MovesIn frame cpu digest
  with_frame cell.Invalid frame = cell.Invalid
  with_frame (cell.Out digest) frame = cell.Out digest
  with_frame (cell.Shared normal) frame = cell.Shared normal
  with_frame (cell.Unbacked fresh) frame = cell.Unbacked fresh

  -- a page without a frame, by the digest that it keeps
  abbrev pub without_frame : Option Digest32 → Cell F
  without_frame None = cell.Invalid
  without_frame (Some digest) = cell.Out digest

  -- a Shared page, by the normal frame that backs it, or whether the next one is to be zeroed
  abbrev pub shared_by : Option ℕ → Bool → Cell F
  shared_by None fresh = cell.Unbacked fresh
  shared_by (Some frame) fresh = cell.Shared frame

  -- a page without a normal frame that backs it; a Shared one that had one is not fresh, as it was
  abbrev pub unmapped : Cell F → Cell F
  unmapped (cell.Shared frame) = cell.Unbacked false
  unmapped other = other

  -- a Secure page begins to move outward
  abbrev pub begun_out : Cell F → ℕ → Option Digest32 → Cell F
  begun_out (cell.Secure frame) cpu digest = cell.MovesOut frame cpu digest
  begun_out other cpu digest = other

  -- a page has moved outward
  abbrev pub ended_out : Cell F → Cell F
  ended_out (cell.MovesOut frame cpu digest) = without_frame digest
  ended_out other = other

  -- a page has moved inward, and what came is accepted
  abbrev pub accepted_in : Cell F → Cell F
  accepted_in (cell.MovesIn frame cpu digest) = cell.Secure frame
  accepted_in other = other

  -- a page has moved inward, and what came is refused: it is as before the move
  abbrev pub refused_in : Cell F → Cell F
  refused_in (cell.MovesIn frame cpu digest) = without_frame digest
  refused_in other = other
