use Rattle.std.proofs.Common.{◌≡◌, ◌≤◌, ◌+◌, length}
use Rattle.pef_script.specs.Script.{lines_of, header_in}
use Rattle.pef_script.proofs.reader.read_header.Given as goal

abbrev pub invariant-loop-line : goal.invariant-loop-line
invariant-loop-line l = record {
  header : header_in 2 0 l.fn.config (lines_of l.text) ≡ header_in l.number l.header.place l.header.config (lines_of l.rest);
  room : l.number + length l.rest ≤ 2 + length l.text;
}

abbrev pub decreases-loop-line : goal.decreases-loop-line
decreases-loop-line l = length l.rest
