use Rattle.std.proofs.Common.{sym}
use Rattle.pef_script.proofs.Pairs.{three_parts}
use Rattle.pef_script.proofs.token.parse_pair.Goals as goal

pub returns-in-Some-cut_at : goal.returns-in-Some-cut_at
returns-in-Some-cut_at c =
    rw (c.in-Some.ensures.parts, c.in-Some-cut_at.ensures.parts)
    (sym (three_parts c.in-Some.left.now c.in-Some-cut_at.field-0.0.now c.in-Some-cut_at.field-0.1.now))
