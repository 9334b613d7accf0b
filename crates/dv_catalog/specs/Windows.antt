-- A window as its extracts read: feed by feed in declared order, whatever the order in which they are given.
use Rattle.std.specs.Prelude.{ℕ, ◌+◌, ◌-◌, min, List, [], ◌∷◌, Option, Some, None, length, map, find, filter_map, option_map, option_and_then, slice_get, bytes_eq}
use Rattle.std.specs.List.{range_with_len}
use Rattle.dv_text.specs.declared.rows.Staged.{Staged}
use Rattle.dv_text.specs.declared.rows.Window.{Window}
use Rattle.dv_catalog.specs.declared.entries.FeedDef.{FeedDef}
use Rattle.dv_catalog.specs.declared.rules.Rule.{Rule}
use Rattle.dv_catalog.specs.declared.windows.ExtractIn.{ExtractIn}
use Rattle.dv_catalog.specs.declared.windows.WindowIn.{WindowIn}
use Rattle.dv_catalog.specs.Entries.{Mapping}
use Rattle.dv_catalog.specs.FirstOf.{first_of}
use Rattle.dv_catalog.specs.Limits.{most_records, most_window_records}
use Rattle.dv_catalog.specs.Readings.{Read, broken_rule, reads, taken_count}
use Rattle.dv_catalog.specs.Readings.Read.{Broken, Taken}

-- the bytes of an extract, and the place of its feed in declared order
pub record PlacedExtract : Type 0 where
  pub feed : ℕ
  pub bytes : List ℕ

-- what an extract reads as, and the place of its feed
pub record ReadExtract : Type 0 where
  pub feed : ℕ
  pub read : Read

-- the extract that is given for a feed, by the feed's name
abbrev pub given_for : List ExtractIn → FeedDef → Option ExtractIn
given_for extracts feed = find (λ extract. bytes_eq extract.feed feed.name) extracts

-- the extract that is given for the feed at a place
abbrev pub extract_at : Mapping → List ExtractIn → ℕ → Option PlacedExtract
extract_at mapping extracts feed =
    option_map
    (λ extract. record { feed = feed; bytes = extract.bytes })
    (option_and_then (given_for extracts) (slice_get mapping.feeds feed))

-- the extracts in declared order of their feeds
abbrev pub placed_extracts : Mapping → List ExtractIn → List PlacedExtract
placed_extracts mapping extracts = filter_map (extract_at mapping extracts) (range_with_len 0 (length mapping.feeds))

-- how many records an extract may have, also with those taken before it
abbrev pub room_after : ℕ → ℕ
room_after taken = min most_records (most_window_records - taken)

-- what extracts read as one after another, where so many records were taken before them
abbrev pub reads_after : Mapping → ℕ → List PlacedExtract → List ReadExtract
reads_after mapping taken [] = []
reads_after mapping taken (extract ∷ extracts) =
    let read = reads mapping extract.feed extract.bytes (room_after taken) in
    record { feed = extract.feed; read = read } ∷ reads_after mapping (taken + taken_count read) extracts

-- what the extracts of a window read as
abbrev pub window_reads : Mapping → WindowIn → List ReadExtract
window_reads mapping given = reads_after mapping 0 (placed_extracts mapping given.extracts)

-- the first rule, W7 to W18, that an extract of the window breaks
abbrev pub window_rule : Mapping → WindowIn → Option Rule
window_rule mapping given = first_of (map (λ extract. broken_rule extract.read) (window_reads mapping given))

-- the rows of an extract that breaks no rule
abbrev pub staged_from : ℕ → Read → Option Staged
staged_from feed (Broken rule) = None
staged_from feed (Taken rows count) = Some (record { feed = feed; rows = rows })

-- the window of the extracts that are given
abbrev pub window_of : Mapping → WindowIn → Window
window_of mapping given = record {
  load = given.load;
  extracts = filter_map (λ extract. staged_from extract.feed extract.read) (window_reads mapping given);
}
