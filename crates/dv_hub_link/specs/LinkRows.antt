-- The rows of a link: their look-up by hash key, and what all rows of a table keep to.
use Rattle.std.specs.Prelude.{ℕ, Bool, List, Option, option_map}
use Rattle.dv_records.specs.declared.raw_rows.LinkRow.{LinkRow}
use Rattle.dv_records.specs.LinkPlaces.{link_place}
use Rattle.dv_hub_link.specs.PlacedRows.{are_parents_apart, are_placed_rows, has_row_under, row_under}

-- the row with a digest
abbrev pub row_with : List ℕ → List LinkRow → Option LinkRow
row_with digest rows = row_under link_place digest rows

-- the hash keys of its references
abbrev pub hubs_with : List ℕ → List LinkRow → Option (List (List ℕ))
hubs_with digest rows = option_map (λ row. row.hubs) (row_with digest rows)

-- whether a row has a digest
abbrev pub has_digest : List ℕ → List LinkRow → Bool
has_digest digest rows = has_row_under link_place digest rows

-- no two rows have one digest
abbrev pub are_digests_apart : List LinkRow → Bool
are_digests_apart rows = are_parents_apart link_place rows

-- no two rows have one digest, and the load dates do not fall
abbrev pub are_link_rows : List LinkRow → Bool
are_link_rows rows = are_placed_rows link_place rows
