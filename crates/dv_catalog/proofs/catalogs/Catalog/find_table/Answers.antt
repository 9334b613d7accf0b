use Rattle.dv_catalog.proofs.TablesIn.{table_at}
use Rattle.dv_catalog.proofs.catalogs.Catalog.find_table.Goals as goal

pub table_name-requires : goal.table_name-requires
table_name-requires c = table_at c.args.self.now c.items-table-items.result.now c.loop-table.table-index _ c.loop-table.invariant.0 c.loop-table-test.true
