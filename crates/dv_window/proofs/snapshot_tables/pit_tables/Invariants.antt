use Rattle.dv_window.proofs.Vocabulary.{HasSealed, Hashes, List, Window, ids_of, map, pit_ids, pit_table, range_with_len, ◌≡◌}
use Rattle.dv_window.proofs.snapshot_tables.pit_tables.Given as goal

-- the tables of the hubs so far
abbrev pub invariant-loop-hub : goal.invariant-loop-hub
invariant-loop-hub l = record {
  tables : (hashes : Hashes) (sealed : List Window) → HasSealed hashes sealed l.vault → l.tables ≡ map (pit_table l.vault.mapping hashes sealed l.date) (range_with_len 0 l.hub);
  ids : ids_of l.tables ≡ pit_ids l.hub;
}
