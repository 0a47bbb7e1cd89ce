use Rattle.std.proofs.Common.{◌≡◌, ◌+◌, ◌≤◌, ◌==◌, ◌++◌, not, filter}
use Rattle.indexmap.specs.IndexMap.{index_map_len, spare}
use Rattle.pef_slots.proofs.room.copy_others.Given as goal

-- with the others of those that are left, all others are in
abbrev pub invariant-loop-key : goal.invariant-loop-key
invariant-loop-key l = record {
  entries : l.to.entries ++ filter (λ e. not (l.id == e.0)) l.key-iterator ≡ filter (λ e. not (l.id == e.0)) l.from.entries;
  room : 32 ≤ index_map_len l.to + spare l.to;
}
