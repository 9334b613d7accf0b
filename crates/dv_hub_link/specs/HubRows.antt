-- The rows of a hub: their look-up by hash key, and what all rows of a table keep to.
use Rattle.std.specs.Prelude.{ℕ, Bool, List, Option, option_map}
use Rattle.dv_text.specs.declared.rows.Key.{Key}
use Rattle.dv_records.specs.declared.raw_rows.HubRow.{HubRow}
use Rattle.dv_records.specs.HubPlaces.{hub_place}
use Rattle.dv_hub_link.specs.PlacedRows.{are_parents_apart, are_placed_rows, has_row_under, row_under}

-- the row with a digest
abbrev pub row_with : List ℕ → List HubRow → Option HubRow
row_with digest rows = row_under hub_place digest rows

-- its business key
abbrev pub key_with : List ℕ → List HubRow → Option Key
key_with digest rows = option_map (λ row. row.key) (row_with digest rows)

-- whether a row has a digest
abbrev pub has_digest : List ℕ → List HubRow → Bool
has_digest digest rows = has_row_under hub_place digest rows

-- no two rows have one digest
abbrev pub are_digests_apart : List HubRow → Bool
are_digests_apart rows = are_parents_apart hub_place rows

-- no two rows have one digest, and the load dates do not fall
abbrev pub are_hub_rows : List HubRow → Bool
are_hub_rows rows = are_placed_rows hub_place rows
