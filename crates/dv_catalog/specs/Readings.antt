-- What an extract reads as: the rows that it holds, or the first rule that it breaks.
use Rattle.std.specs.Prelude.{ℕ, Bool, not, ◌&&◌, List, [], ◌∷◌, Option, Some, None, length, map, filter, option_map, slice_get}
use Rattle.std.specs.List.{list_any}
use Rattle.dv_text.specs.Keys.{refs_eq}
use Rattle.dv_text.specs.Orders.{refs_cmp, row_cmp}
use Rattle.dv_text.specs.Sorting.{sorted_by}
use Rattle.dv_text.specs.declared.rows.Key.{Key}
use Rattle.dv_text.specs.declared.rows.NRow.{NRow}
use Rattle.dv_catalog.specs.declared.entries.FeedDef.{FeedDef}
use Rattle.dv_catalog.specs.declared.rules.Rule.{Rule}
use Rattle.dv_catalog.specs.declared.rules.Rule.TheVariants.{NoHeader, TwoDrivers}
use Rattle.dv_catalog.specs.Entries.{Mapping}
use Rattle.dv_catalog.specs.Extracts.{extract_records}
use Rattle.dv_catalog.specs.FirstOf.{first_of}
use Rattle.dv_catalog.specs.Headers.{header_names, header_rule}
use Rattle.dv_catalog.specs.Records.{driver_keys, records_rule, row_of}

-- the rule that an extract breaks, or its distinct rows in order and how many records it has behind the header
pub data Read : Type 0 where
  Broken : Rule → Read
  Taken : List NRow → ℕ → Read

-- whether two rows have the same driving keys and different references
abbrev pub part_ways : FeedDef → NRow → NRow → Bool
part_ways feed a b = refs_eq (driver_keys feed a) (driver_keys feed b) && not (refs_eq a.refs b.refs)

-- the driving keys that rows of different references have in common, in order
abbrev pub shared_drivers : FeedDef → List NRow → List (List Key)
shared_drivers feed rows = sorted_by refs_cmp (map (driver_keys feed) (filter (λ row. list_any (part_ways feed row) rows) rows))

-- W18: two rows of a feed with a driver have the same driving keys and different references; named are the least such keys
abbrev pub two_drivers : FeedDef → List ℕ → List NRow → Option Rule
two_drivers feed [] rows = None
two_drivers feed (place ∷ places) rows = option_map (λ driver. TwoDrivers feed.name driver) (slice_get (shared_drivers feed rows) 0)

-- the rule that is broken, or the rows
abbrev pub rule_or_rows : Option Rule → List NRow → ℕ → Read
rule_or_rows (Some rule) rows count = Broken rule
rule_or_rows None rows count = Taken (sorted_by row_cmp rows) count

-- what the records behind a header read as: W8 to W11 of the header, then W12 to W17 record by record, then W18
abbrev pub behind_header : FeedDef → ℕ → List (List ℕ) → List (List (List ℕ)) → Read
behind_header feed room header records =
    let names = header_names header in
    let rows = map (row_of feed names) records in
    rule_or_rows
    (first_of (
    header_rule feed header
    ∷ records_rule feed names room 1 [] records
    ∷ two_drivers feed feed.driver rows
    ∷ []))
    rows
    (length records)

-- what all records of an extract read as; W7: there is none
abbrev pub records_read : FeedDef → ℕ → List (List (List ℕ)) → Read
records_read feed room [] = Broken (NoHeader feed.name)
records_read feed room (header ∷ records) = behind_header feed room header records

-- a feed that isn't in the mapping has no rows
abbrev pub read_by : Option FeedDef → List ℕ → ℕ → Read
read_by None bytes room = Taken [] 0
read_by (Some feed) bytes room = records_read feed room (extract_records bytes)

-- what the bytes of an extract read as for a feed of the mapping, with room for so many records
abbrev pub reads : Mapping → ℕ → List ℕ → ℕ → Read
reads mapping feed bytes room = read_by (slice_get mapping.feeds feed) bytes room

-- the rule that is broken
abbrev pub broken_rule : Read → Option Rule
broken_rule (Broken rule) = Some rule
broken_rule (Taken rows count) = None

-- how many records were taken
abbrev pub taken_count : Read → ℕ
taken_count (Broken rule) = 0
taken_count (Taken rows count) = count
