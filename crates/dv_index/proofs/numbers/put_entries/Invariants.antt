use Rattle.dv_index.proofs.Vocabulary.{All, IsEntry, entry_at, map, parents_of, range_with_len, vec_capacity, ◌-◌, ◌≡◌, ◌≤◌}
use Rattle.dv_index.proofs.numbers.put_entries.Given as goal

-- the entries so far
abbrev pub invariant-loop-number : goal.invariant-loop-number
invariant-loop-number g l = record {
  items : l.made.items ≡ map (entry_at (parents_of g.R.Placed.place l.rows)) (range_with_len l.start (l.number - l.start));
  each : All (IsEntry (parents_of g.R.Placed.place l.rows)) l.made.items;
  room : vec_capacity l.initial.made ≤ vec_capacity l.made;
}
