use Rattle.dv_mapfile.proofs.Vocabulary.{as_table, drop, items_view, map, option_map, table_view, ◌++◌, ◌≡◌}
use Rattle.dv_catalog.specs.Forms as spec
use Rattle.dv_mapfile.proofs.tops.as_tables.Given as goal

-- the tables so far stand before those that are left
abbrev pub invariant-loop-value : goal.invariant-loop-value
invariant-loop-value l =
    spec.each as_table (items_view l.values)
    ≡ option_map (λ rest. map (λ table. table_view table.now) l.tables.items ++ rest) (spec.each as_table (items_view (drop l.value-index l.values)))
