use Rattle.dv_restore.proofs.Vocabulary.{entry_of, hub_entries, length, map, ◌++◌, ◌≡◌}
use Rattle.dv_restore.proofs.gathered.put_hubs.Given as goal

-- the tables so far, each with its place
abbrev pub invariant-loop-rows : goal.invariant-loop-rows
invariant-loop-rows l = record {
  tables : map entry_of l.tables.items ≡ map entry_of l.initial.tables.items ++ hub_entries 0 l.yielded;
  place : l.hub ≡ length l.yielded;
}
