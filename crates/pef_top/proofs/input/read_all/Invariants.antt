use Rattle.std.proofs.Common.{◌≡◌, ◌≤◌, ◌++◌, vec_len}
use Rattle.pef_top.specs.declared.outcome.TheConstants.{SCRIPT_LIMIT}
use Rattle.pef_top.proofs.input.read_all.Given as goal

abbrev pub invariant-loop : goal.invariant-loop
invariant-loop g l = record {
  before : g.S.Source.taken l.source ≡ g.S.Source.taken l.fn.source ++ l.text.items;
  whole : g.S.Source.whole l.source ≡ g.S.Source.whole l.fn.source;
  limit : vec_len l.text ≤ SCRIPT_LIMIT;
  taken : l.counter ≤ vec_len l.text;
  clean : g.S.Source.faults l.source ≡ g.S.Source.faults l.fn.source;
}
