-- Rows of links with keys, and those that have a hash key at a place.
use Rattle.std.specs.Prelude.{ℕ, List, [], Option, filter, slice_get}
use Rattle.dv_text.specs.declared.rows.Key.{Key}
use Rattle.dv_records.specs.declared.raw_rows.LinkRow.{LinkRow}
use Rattle.dv_bridge.specs.BridgeRows.{is_same_key}

-- a row of a link, and the keys of its references where they were looked up
pub record KeyedRow : Type 0 where
  pub row : LinkRow
  pub keys : List Key

-- a row without keys
abbrev pub bare : LinkRow → KeyedRow
bare row = record { row = row; keys = [] }

-- the hash key at a place of a link's hubs; none past the end
abbrev pub key_of : ℕ → KeyedRow → Option (List ℕ)
key_of place link = slice_get link.row.hubs place

-- the links that have a hash key, if there is one, at a place of their hubs
abbrev pub met_by : ℕ → Option (List ℕ) → List KeyedRow → List KeyedRow
met_by place key links = filter (λ link. is_same_key key (key_of place link)) links
