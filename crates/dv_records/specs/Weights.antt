-- What rows weigh: this project's own measure of the room that they take.
use Rattle.std.specs.Prelude.{ℕ, ◌+◌, ◌-◌, ◌*◌, List, length, sum_by}
use Rattle.dv_text.specs.declared.rows.Window.{Window}
use Rattle.dv_text.specs.Keys.{Hashes}
use Rattle.dv_catalog.specs.Entries.{Mapping}
use Rattle.dv_records.specs.declared.stores.Rows.{Rows}
use Rattle.dv_records.specs.declared.stores.Rows.TheVariants.{Hubs, Links, Sats, Multis, Statuses, Effects, Pits, Bridges}
use Rattle.dv_records.specs.declared.stores.TableRows.{TableRows}
use Rattle.dv_records.specs.Vault.{vault}

-- 16 and its length
abbrev pub text_weight : List ℕ → ℕ
text_weight text = 16 + length text

-- the weights of texts together
abbrev pub texts_weight : List (List ℕ) → ℕ
texts_weight texts = sum_by text_weight texts

-- a row weighs 128, and its texts, and 32 for each digest past the first, and 16 for each point-in-time cell; rows weigh
-- what each weighs
abbrev pub rows_weight : Rows → ℕ
rows_weight (Hubs rows) = sum_by (λ row. 128 + text_weight row.source + texts_weight row.key.parts) rows
rows_weight (Links rows) = sum_by (λ row. 128 + text_weight row.source + 32 * length row.hubs) rows
rows_weight (Sats rows) = sum_by (λ row. 128 + text_weight row.source + 32 + texts_weight row.attrs) rows
rows_weight (Multis rows) = sum_by (λ row. 128 + text_weight row.source + 32 + texts_weight row.sub + texts_weight row.attrs) rows
rows_weight (Statuses rows) = sum_by (λ row. 128 + text_weight row.source) rows
rows_weight (Effects rows) = sum_by (λ row. 128 + text_weight row.source) rows
rows_weight (Pits rows) = sum_by (λ row. 128 + 16 * length row.cells) rows
rows_weight (Bridges rows) = sum_by (λ row. 128 + 32 * (length row.links + length row.hubs - 1)) rows

-- what raw tables weigh together
abbrev pub tables_weight : List TableRows → ℕ
tables_weight tables = sum_by (λ entry. rows_weight entry.rows) tables

-- a vault's weight: that of its raw tables, without snapshots
abbrev pub vault_weight : Mapping → Hashes → List Window → ℕ
vault_weight mapping hashes sealed = tables_weight (vault mapping hashes sealed)
