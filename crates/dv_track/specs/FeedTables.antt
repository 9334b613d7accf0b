-- A status table as a raw table of a feed.
use Rattle.std.specs.Prelude.{ℕ, List, [], ◌++◌, Option, option_map}
use Rattle.std.specs.Borrow.{Bor}
use Rattle.std.specs.List.Sorted.{IsStrictlySortedBy}
use Rattle.dv_text.specs.declared.rows.NRow.{NRow}
use Rattle.dv_text.specs.Keys.{Hashes}
use Rattle.dv_digest.specs.declared.hashed_extracts.HashedExtract.{HashedExtract}
use Rattle.dv_catalog.specs.Entries.{Mapping}
use Rattle.dv_catalog.specs.Feeds.{source}
use Rattle.dv_records.specs.declared.raw_rows.StatusRow.{StatusRow}
use Rattle.dv_records.specs.declared.stores.Rows.{Rows}
use Rattle.dv_records.specs.declared.stores.Rows.TheVariants.{Statuses}
use Rattle.dv_records.specs.History.{all_refs}
use Rattle.dv_records.specs.RawTables.{extract_added, extract_at}
use Rattle.dv_track.specs.Tracks.{status_delta, status_order}

-- rows may stand behind those of a status table
abbrev pub Follow : Rows → Rows → Type 0
Follow (Statuses rows) (Statuses more) = IsStrictlySortedBy status_order (rows ++ more)
Follow rows more = ⊥

-- what an extract adds to the rows of a status table
abbrev pub statuses_added : Hashes → List ℕ → Rows → ℕ → List NRow → Rows
statuses_added hashes source (Statuses rows) load staged = Statuses (status_delta hashes source rows load (all_refs staged))
statuses_added hashes source rows load staged = Statuses []

-- what the extract of a feed adds to a status table at a load date, by the mapping; nothing where there is no extract
abbrev pub status_feed_delta : Hashes → Mapping → ℕ → List StatusRow → ℕ → Option (Bor HashedExtract) → Rows
status_feed_delta hashes mapping feed rows load extract =
    extract_added (statuses_added hashes (source mapping feed) (Statuses rows)) (Statuses []) (option_map (λ extract. extract_at load extract.now.staged.now) extract)
