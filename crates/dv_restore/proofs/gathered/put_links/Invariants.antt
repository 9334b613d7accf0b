use Rattle.dv_restore.proofs.Vocabulary.{entry_of, length, link_entries, map, ◌++◌, ◌≡◌}
use Rattle.dv_restore.proofs.gathered.put_links.Given as goal

-- the tables so far, each with its place
abbrev pub invariant-loop-rows : goal.invariant-loop-rows
invariant-loop-rows l = record {
  tables : map entry_of l.tables.items ≡ map entry_of l.initial.tables.items ++ link_entries 0 l.yielded;
  place : l.link ≡ length l.yielded;
}
