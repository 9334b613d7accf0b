-- How many rows a window adds.
use Rattle.std.specs.Prelude.{ℕ, List, sum_by}
use Rattle.dv_text.specs.declared.rows.Window.{Window}
use Rattle.dv_text.specs.Keys.{Hashes}
use Rattle.dv_catalog.specs.Entries.{Mapping}
use Rattle.dv_catalog.specs.Tables.{tables}
use Rattle.dv_records.specs.Stores.{row_count}
use Rattle.dv_records.specs.Vault.{table_batch}
use Rattle.dv_records.specs.Backwards.{backwards}

-- the number of rows of a window's batches in all tables, after the sealed windows
abbrev pub loaded : Mapping → Hashes → List Window → Window → ℕ
loaded mapping hashes sealed window = sum_by (λ table. row_count (table_batch mapping hashes table (backwards sealed) window)) (tables mapping)
