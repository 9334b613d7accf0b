use Rattle.dv_app.proofs.Vocabulary.{flat_map, table_line, take, ◌++◌, ◌≡◌}
use Rattle.dv_app.proofs.counts.push_tables.Given as goal

-- the lines of the tables so far
abbrev pub invariant-loop-table : goal.invariant-loop-table
invariant-loop-table l = l.text.items ≡ l.initial.text.items ++ flat_map (table_line l.vault.mapping l.vault.tables) (take l.table-index l.ids)
