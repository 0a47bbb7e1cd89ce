use Rattle.std.proofs.Common.{sym}
use Rattle.pef_move.proofs.page_in.refuse.Goals as goal

-- The frame is one of the machine's.
pub give-requires-clause-number : goal.give-requires-clause-number
give-requires-clause-number c = (c.requires.frames c.in-Some.frame (sym c.in-Some.ensures.frame)).number
