-- Digest collisions, as a guest's public part and an entry tell them.
use Rattle.std.specs.Prelude.{ℕ, ◌==◌, Bool, false, not, ◌&&◌, List, Option, Some, None}
use Rattle.std.specs.Str.{bytes_eq}
use Rattle.sha2.specs.Sha256.{sha256}
use Rattle.pef_model.specs.declared.state.Move.{Move}
use Rattle.pef_model.specs.declared.state.Work.TheVariants.{Inward}
use Rattle.pef_model.specs.declared.state.Ctx.{Ctx}
use Rattle.pef_model.specs.declared.state.Ctx.TheVariants as ctx
use Rattle.pef_model.specs.declared.command.Cmd.{Cmd}
use Rattle.pef_model.specs.declared.command.Cmd.TheVariants.{Go}
use Rattle.pef_model.specs.Event.{Event}
use Rattle.pef_model.specs.GuestPart.{GuestPart}

-- whether two lists of bytes differ and have one SHA-256
abbrev pub collide : List ℕ → List ℕ → Bool
collide one other = not (bytes_eq one other) && bytes_eq (sha256 one) (sha256 other)

-- whether bytes collide with what was last sealed
abbrev pub collides_with : Option (List ℕ) → List ℕ → Bool
collides_with None bytes = false
collides_with (Some sealed) bytes = collide bytes sealed

-- whether the end of a page-in with these bytes, under the guest's generation, collides with what was last sealed of the page
abbrev pub ends_in_clash : GuestPart → Move → List ℕ → Bool
ends_in_clash g move bytes = move.copied && (move.generation == g.generation) && collides_with (g.pages move.gfn).sealed bytes

-- whether a step at a guest is such an end
abbrev pub clashes_in : GuestPart → Ctx → Cmd → List ℕ → Bool
clashes_in g (ctx.Uv (Inward move)) Go bytes = ends_in_clash g move bytes
clashes_in g before cmd bytes = false

-- whether an entry at a guest is a digest collision: the end of a page-in whose bytes differ from what was last sealed of the page, and have its SHA-256
abbrev pub clashes : GuestPart → Event → Bool
clashes g e = clashes_in g e.saw.before e.trace.cmd e.bytes
