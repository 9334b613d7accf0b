use Rattle.dv_vault.proofs.Vocabulary.{AllZip, entry_of, map, row_count, spare_of, take, whole_in, ◌≡◌, ◌≤◌}
use Rattle.dv_vault.proofs.keeping.reserve_all.Given as goal

-- the tables so far have room, and no table's rows have changed
abbrev pub invariant-loop-i : goal.invariant-loop-i
invariant-loop-i l = record {
  rows : map entry_of l.tables ≡ map entry_of l.initial.tables;
  room : AllZip (λ table rows. row_count rows ≤ spare_of table) (take l.i l.tables) (take l.i (whole_in l.parts));
}
