use Rattle.dv_mapfile.proofs.Vocabulary.{Ok, drop, map, table_view, ◌++◌, ◌+◌, ◌>>=◌, ◌≡◌}
use Rattle.dv_catalog.specs.Shapes as shape
use Rattle.dv_mapfile.proofs.shapes.read_entries.Given as goal

-- the entries so far stand before those of the tables that are left
abbrev pub invariant-loop-table : goal.invariant-loop-table
invariant-loop-table g l = record {
  counted : l.number ≡ l.table-index + 1;
  so_far : shape.entries g.E.Entry.entry_of l.kind 1 (map (λ table. table_view table.now) l.tables)
      ≡ (shape.entries g.E.Entry.entry_of l.kind l.number (map (λ table. table_view table.now) (drop l.table-index l.tables)) >>= (λ rest. Ok (l.made.items ++ rest)));
}
