-- What the code knows of a store before a raw table, beside what is read of the store.
use Rattle.std.specs.Option.{option_map_or}
use Rattle.std.specs.List.{list_any}
use Rattle.std.specs.Prelude.{◌≡◌, ℕ, Bool, true, false, List, [], Option, Some, None, slice_get}
use Rattle.std.specs.Str.{bytes_eq}
use Rattle.dv_text.specs.Keys.{Hashes}
use Rattle.dv_index.specs.Places.{Indexed}
use Rattle.dv_catalog.specs.declared.entries.Parent.{Parent}
use Rattle.dv_catalog.specs.declared.entries.Parent.TheVariants.{Hub, Link}
use Rattle.dv_catalog.specs.declared.tables.TableId.{TableId}
use Rattle.dv_catalog.specs.declared.tables.TableId.TheVariants.{Hub as HubTable, Link as LinkTable, Sat, Multi, Status, Effect}
use Rattle.dv_records.specs.declared.raw_rows.HubRow.{HubRow}
use Rattle.dv_records.specs.declared.raw_rows.LinkRow.{LinkRow}
use Rattle.dv_records.specs.ReadBack.{hub_rows_in, link_rows_in}
use Rattle.dv_records.specs.Weights.{tables_weight}
use Rattle.dv_store_rules.specs.declared.known.Known.{Known as KnownTables}
use Rattle.dv_store_rules.specs.FormRules.{Known}

-- the rows of the table at a place; none past the last one
abbrev pub rows_at : {R : Type 0} → List (Indexed R) → ℕ → List R
rows_at tables place = option_map_or (λ table. table.rows) (slice_get tables place) []

-- a digest is the hash key of a row of a parent's table; of none where there is no parent
abbrev pub is_under : List (Indexed HubRow) → List (Indexed LinkRow) → Option Parent → List ℕ → Bool
is_under hubs links None digest = false
is_under hubs links (Some (Hub hub)) digest = list_any (λ row. bytes_eq row.digest digest) (rows_at hubs hub)
is_under hubs links (Some (Link link)) digest = list_any (λ row. bytes_eq row.digest digest) (rows_at links link)

-- a table is one of a feed
abbrev pub is_of_feed : TableId → Bool
is_of_feed (HubTable hub) = false
is_of_feed (LinkTable link) = false
is_of_feed (Sat feed) = true
is_of_feed (Multi feed) = true
is_of_feed (Status feed) = true
is_of_feed (Effect feed) = true

-- the code knows what is read of a store: the mapping, the heads, the rows of the tables of hubs and links that were
-- read, and what all tables that were read weigh
pub record IsKnown (by : Hashes) (size : ℕ) (known : KnownTables) (read : Known) : Type 0 where
  pub mapping : read.mapping ≡ known.catalog.now
  pub hashes : read.hashes ≡ by
  pub width : read.width ≡ size
  pub heads : read.heads ≡ known.heads.now
  pub hubs : (hub : ℕ) → hub_rows_in hub read.tables ≡ rows_at known.hubs.now hub
  pub links : (link : ℕ) → link_rows_in link read.tables ≡ rows_at known.links.now link
  pub weight : tables_weight read.tables ≡ known.weight
