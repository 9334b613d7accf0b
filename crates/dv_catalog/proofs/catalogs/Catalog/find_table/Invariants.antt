use Rattle.dv_catalog.proofs.Vocabulary.{bytes_eq, drop, find, table_named, ◌≡◌}
use Rattle.dv_catalog.specs.Tables as spec
use Rattle.dv_catalog.proofs.catalogs.Catalog.find_table.Given as goal

abbrev pub invariant-loop-table : goal.invariant-loop-table
invariant-loop-table l =
    (l.table-items ≡ spec.tables l.self) × (find (λ table. bytes_eq (spec.table_name l.self table) l.name) (drop l.table-index l.table-items) ≡ table_named l.self l.name)
