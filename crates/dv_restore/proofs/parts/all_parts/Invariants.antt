use Rattle.dv_restore.proofs.Vocabulary.{AreParted, are_up_to, entry_of, map, true, ◌≡◌}
use Rattle.dv_restore.proofs.parts.all_parts.Given as goal

-- the tables so far, and those that are left
abbrev pub invariant-loop-table : goal.invariant-loop-table
invariant-loop-table l = record {
  parted : AreParted l.load (map entry_of l.yielded) (map entry_of l.sealed.items) l.opened;
  left : are_up_to l.load (map entry_of l.table-iterator.rest.items) ≡ true;
}
