-- The rows of an extract's records, and the rules that a record may break. `names` are the names of the header, and
-- records count from 1 behind it.
use Rattle.std.specs.Prelude.{ℕ, ◌+◌, ◌==◌, nat_lt, Bool, not, ◌&&◌, ◌||◌, List, [], ◌∷◌, ◌++◌, Option, Some, None, if◌then◌else◌, length, map, position, filter_map, option_map, option_and_then, slice_get, bytes_eq}
use Rattle.std.specs.List.{list_any, list_all}
use Rattle.std.specs.Option.{option_or}
use Rattle.std.specs.Str.{is_utf8}
use Rattle.dv_text.specs.Keys.{is_missing, refs_eq, texts_eq}
use Rattle.dv_text.specs.Normal.{norm_field, norm_key}
use Rattle.dv_text.specs.declared.rows.Key.{Key}
use Rattle.dv_text.specs.declared.rows.NRow.{NRow}
use Rattle.dv_catalog.specs.declared.entries.FeedDef.{FeedDef}
use Rattle.dv_catalog.specs.declared.rules.Rule.{Rule}
use Rattle.dv_catalog.specs.declared.rules.Rule.TheVariants.{Ragged, NotUtf8, FieldLong, EmptyKey, TwoRows, TooManyRows}
use Rattle.dv_catalog.specs.FirstOf.{first_of}
use Rattle.dv_catalog.specs.Limits.{most_field_bytes}

-- the place of a column in the header
abbrev pub place_of : List (List ℕ) → List ℕ → Option ℕ
place_of names column = position (λ name. bytes_eq name column) names

-- the fields of a record that stand under some columns, each at its column's place in the header
abbrev pub fields_under : List (List ℕ) → List (List ℕ) → List (List ℕ) → List (List ℕ)
fields_under names fields columns = filter_map (λ column. option_and_then (slice_get fields) (place_of names column)) columns

-- the business key whose parts stand under some columns
abbrev pub key_under : List (List ℕ) → List (List ℕ) → List (List ℕ) → Key
key_under names fields columns = record { parts = map norm_key (fields_under names fields columns) }

-- the row of a record: references as keys, sub and attributes as fields, in mapping order
abbrev pub row_of : FeedDef → List (List ℕ) → List (List ℕ) → NRow
row_of feed names fields = record {
  refs = map (key_under names fields) feed.keys;
  sub = map norm_field (fields_under names fields feed.sub);
  attrs = map norm_field (fields_under names fields feed.attrs);
}

-- the driving keys of a row: those of its references that stand at the driver's places
abbrev pub driver_keys : FeedDef → NRow → List Key
driver_keys feed row = filter_map (slice_get row.refs) feed.driver

-- W12: a record has another number of fields than the header
abbrev pub ragged : FeedDef → List (List ℕ) → ℕ → List (List ℕ) → Option Rule
ragged feed names number fields = if length fields == length names then None else Some (Ragged feed.name number)

-- W13: a field of the record isn't UTF-8
abbrev pub not_utf8 : FeedDef → ℕ → List (List ℕ) → Option Rule
not_utf8 feed number fields = if list_all is_utf8 fields then None else Some (NotUtf8 feed.name number)

-- W14: a field of the record, also an ignored one, is too long
abbrev pub field_long : FeedDef → ℕ → List (List ℕ) → Option Rule
field_long feed number fields = if list_any (λ field. nat_lt most_field_bytes (length field)) fields then Some (FieldLong feed.name number) else None

-- W15: every reference is missing, so also the one key of a hub's feed, or a driving key is
abbrev pub empty_key : FeedDef → ℕ → NRow → Option Rule
empty_key feed number row =
    if list_all is_missing row.refs || list_any is_missing (driver_keys feed row) then Some (EmptyKey feed.name number) else None

-- whether two rows are of one parent and one sub, and have different attributes
abbrev pub are_rivals : NRow → NRow → Bool
are_rivals a b = refs_eq a.refs b.refs && texts_eq a.sub b.sub && not (texts_eq a.attrs b.attrs)

-- W16: the row has the references and sub of an earlier one and other attributes; named is the first such one
abbrev pub two_rows : FeedDef → ℕ → List NRow → NRow → Option Rule
two_rows feed number earlier row = option_map (λ place. TwoRows feed.name (place + 1) number) (position (λ other. are_rivals other row) earlier)

-- W17: there are more records than there is room for
abbrev pub too_many_rows : FeedDef → ℕ → ℕ → Option Rule
too_many_rows feed room number = if nat_lt room number then Some (TooManyRows feed.name number) else None

-- the first rule, W12 to W17, that a record breaks, behind those with the earlier rows
abbrev pub record_rule : FeedDef → List (List ℕ) → ℕ → ℕ → List NRow → List (List ℕ) → Option Rule
record_rule feed names room number earlier fields =
    first_of (
    ragged feed names number fields
    ∷ not_utf8 feed number fields
    ∷ field_long feed number fields
    ∷ empty_key feed number (row_of feed names fields)
    ∷ two_rows feed number earlier (row_of feed names fields)
    ∷ too_many_rows feed room number
    ∷ [])

-- the rule of the first record that breaks one, among the records from this number on
abbrev pub records_rule : FeedDef → List (List ℕ) → ℕ → ℕ → List NRow → List (List (List ℕ)) → Option Rule
records_rule feed names room number earlier [] = None
records_rule feed names room number earlier (fields ∷ records) =
    option_or
    (record_rule feed names room number earlier fields)
    (records_rule feed names room (number + 1) (earlier ++ row_of feed names fields ∷ []) records)
