use Rattle.dv_window.proofs.Vocabulary.{HasSealed, HasZeroKeys, Hashes, List, Window, bridge_ids, bridge_table, false, ids_of, is_path_too_large, map, range_with_len, ℕ, ◌++◌, ◌<◌, ◌≡◌}
use Rattle.dv_window.proofs.snapshot_tables.push_bridges.Given as goal

-- the bridges of the paths so far, none of which is too large
abbrev pub invariant-loop-path : goal.invariant-loop-path
invariant-loop-path l = record {
  tables : (hashes : Hashes) (sealed : List Window) → HasZeroKeys hashes → HasSealed hashes sealed l.vault → l.tables ≡ l.initial.tables ++ map (bridge_table l.vault.mapping hashes sealed l.date) (range_with_len 0 l.path);
  ids : ids_of l.tables ≡ ids_of l.initial.tables ++ bridge_ids l.path;
  fits : (hashes : Hashes) (sealed : List Window) → HasZeroKeys hashes → HasSealed hashes sealed l.vault → (path : ℕ) → path < l.path → is_path_too_large l.vault.mapping sealed path l.date ≡ false;
}
