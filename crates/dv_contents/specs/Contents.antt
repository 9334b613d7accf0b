-- The rows of parents that are read back from the tables, as they are before they are sorted, and the keys that stand for
-- references that are missing.
use Rattle.std.specs.Prelude.{◌≡◌, ℕ, ◌==◌, List, [], ◌∷◌, Option, if◌then◌else◌, length, map}
use Rattle.std.specs.Borrow.{Bor}
use Rattle.std.specs.List.{filter_map, flat_map, range_with_len}
use Rattle.std.specs.Option.{option_map, option_map_or}
use Rattle.dv_text.specs.declared.rows.Key.{Key}
use Rattle.dv_text.specs.declared.rows.NRow.{NRow}
use Rattle.dv_catalog.specs.declared.entries.FeedDef.{FeedDef}
use Rattle.dv_catalog.specs.declared.entries.Parent.{Parent}
use Rattle.dv_catalog.specs.Entries.{Mapping}
use Rattle.dv_records.specs.declared.raw_rows.HubRow.{HubRow}
use Rattle.dv_records.specs.declared.raw_rows.LinkRow.{LinkRow}
use Rattle.dv_records.specs.declared.raw_rows.SatRow.{SatRow}
use Rattle.dv_records.specs.declared.stores.TableRows.{TableRows}
use Rattle.dv_records.specs.ReadBack.{attrs_read, keys_read, missing_key, row_read, rows_read}

-- the missing key of each hub, in declared order
abbrev pub missing_keys : Mapping → List Key
missing_keys mapping = map (missing_key mapping) (range_with_len 0 (length mapping.hubs))

-- the rows of parents at a date: at most one each for a feed without a sub, else one for each sub that is valid
abbrev pub parents_read : Mapping → List TableRows → FeedDef → ℕ → ℕ → List (List ℕ) → List NRow
parents_read mapping tables definition feed date parents =
    if length definition.sub == 0 then filter_map (row_read mapping tables definition feed date) parents
    else flat_map (rows_read mapping tables definition feed date) parents

-- ---- rows made of the rows of tables that were found, which are lent

-- the attributes of a satellite's row, if there is one
abbrev pub valid_attrs : Option (Bor SatRow) → List (List ℕ)
valid_attrs valid = option_map_or (λ row. row.now.attrs) valid []

-- a row without a sub
abbrev pub plain_row : List (List ℕ) → List Key → NRow
plain_row attrs refs = record { refs = refs; sub = []; attrs = attrs }

-- the reference list of a hub's row, if there is one: its key
abbrev pub key_refs : Option (Bor HubRow) → Option (List Key)
key_refs row = option_map (λ row. row.now.key ∷ []) row

-- the reference list of a link's row, if there is one: the keys that it points to
abbrev pub list_refs : Mapping → List TableRows → List ℕ → Option (Bor LinkRow) → Option (List Key)
list_refs mapping tables hubs row = option_map (λ row. keys_read mapping tables hubs row.now.hubs) row

-- the row with the key of a hub's row, if there is one
abbrev pub key_row : Option (Bor HubRow) → Option (Bor SatRow) → Option NRow
key_row row valid = option_map (plain_row (valid_attrs valid)) (key_refs row)

-- the row with the keys that a link's row points to, if there is one
abbrev pub list_row : Mapping → List TableRows → List ℕ → Option (Bor LinkRow) → Option (Bor SatRow) → Option NRow
list_row mapping tables hubs row valid = option_map (plain_row (valid_attrs valid)) (list_refs mapping tables hubs row)

-- rows of a satellite that were found have the attributes of parents at a date
abbrev pub AreValid : List TableRows → FeedDef → ℕ → ℕ → List (List ℕ) → List (Option (Bor SatRow)) → Type 0
AreValid tables definition feed date parents valid = map valid_attrs valid ≡ map (λ parent. attrs_read tables definition feed parent date) parents

-- rows are those of parents in a hub or a link, for any feed of it and any date of which the rows of the satellite are
abbrev pub AreRowsOf : Mapping → List TableRows → Parent → List (List ℕ) → List (Option (Bor SatRow)) → List NRow → Type 0
AreRowsOf mapping tables parent parents valid rows =
    (definition : FeedDef) (feed date : ℕ) → definition.parent ≡ parent → AreValid tables definition feed date parents valid
    → rows ≡ filter_map (row_read mapping tables definition feed date) parents
