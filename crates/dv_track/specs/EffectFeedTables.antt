-- An effectivity table as a raw table of a feed.
use Rattle.std.specs.Prelude.{ℕ, List, [], ◌++◌, Option, option_map}
use Rattle.std.specs.Borrow.{Bor}
use Rattle.std.specs.List.Sorted.{IsStrictlySortedBy}
use Rattle.dv_text.specs.declared.rows.NRow.{NRow}
use Rattle.dv_text.specs.Keys.{Hashes}
use Rattle.dv_digest.specs.declared.hashed_extracts.HashedExtract.{HashedExtract}
use Rattle.dv_catalog.specs.Entries.{Mapping}
use Rattle.dv_catalog.specs.Feeds.{source}
use Rattle.dv_records.specs.declared.raw_rows.EffectRow.{EffectRow}
use Rattle.dv_records.specs.declared.stores.Rows.{Rows}
use Rattle.dv_records.specs.declared.stores.Rows.TheVariants.{Effects}
use Rattle.dv_records.specs.History.{all_refs}
use Rattle.dv_records.specs.RawTables.{extract_added, extract_at}
use Rattle.dv_track.specs.EffectRows.{effect_delta, effect_order}

-- rows may stand behind those of an effectivity table
abbrev pub Follow : Rows → Rows → Type 0
Follow (Effects rows) (Effects more) = IsStrictlySortedBy effect_order (rows ++ more)
Follow rows more = ⊥

-- what an extract adds to the rows of an effectivity table
abbrev pub effects_added : Hashes → List ℕ → Rows → ℕ → List NRow → Rows
effects_added hashes source (Effects rows) load staged = Effects (effect_delta hashes source rows load (all_refs staged))
effects_added hashes source rows load staged = Effects []

-- what the extract of a feed adds to an effectivity table at a load date, by the mapping; nothing where there is no extract
abbrev pub effect_feed_delta : Hashes → Mapping → ℕ → List EffectRow → ℕ → Option (Bor HashedExtract) → Rows
effect_feed_delta hashes mapping feed rows load extract =
    extract_added (effects_added hashes (source mapping feed) (Effects rows)) (Effects []) (option_map (λ extract. extract_at load extract.now.staged.now) extract)
