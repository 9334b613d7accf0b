-- The periods that effectivity rows tell are the runs, and what is in effect is in a run.
use Rattle.std.specs.Prelude.{◌≡◌, ℕ, List, map, Contains, reverse}
use Rattle.dv_text.specs.declared.rows.Key.{Key}
use Rattle.dv_text.specs.declared.rows.Window.{Window}
use Rattle.dv_text.specs.Keys.{Hashes}
use Rattle.dv_text.specs.Sorting.{sorted_by}
use Rattle.dv_catalog.specs.declared.tables.TableId.TheVariants.{Effect}
use Rattle.dv_catalog.specs.Entries.{Mapping}
use Rattle.dv_records.specs.declared.mart_rows.PeriodRow.{PeriodRow}
use Rattle.dv_records.specs.declared.raw_rows.EffectRow.{EffectRow}
use Rattle.dv_records.specs.declared.stores.Rows.TheVariants.{Effects}
use Rattle.dv_records.specs.Collisions.{IsApart}
use Rattle.dv_records.specs.declared.mart_rows.Period.{Period}
use Rattle.dv_records.specs.EffectPeriods.{effect_periods, in_effect_since, parent_period_cmp}
use Rattle.dv_records.specs.History.{delivered_refs, history, up_to, IsInLoadOrder}
use Rattle.dv_records.specs.Marts.{period_mart}
use Rattle.dv_records.specs.Runs.{run_begin}
use Rattle.dv_records.specs.Vault.{table_after}
use Rattle.dv_records.specs.Backwards.{backwards}

-- a row of a period mart, with the hash key in place of its reference list
abbrev pub by_hash_key : Hashes → PeriodRow → Period
by_hash_key hashes row = record { parent = hashes.hash row.refs; begin = row.begin; end = row.end }

-- the periods that a feed's effectivity rows tell at a date are the rows of its period mart, in the order of their hash
-- keys, where no two lists that the windows deliver have one hash key
abbrev pub EffectsTell : Type 0
EffectsTell =
    (mapping : Mapping) (hashes : Hashes) (feed : ℕ) (sealed : List Window) (rows : List EffectRow)
    → table_after mapping hashes (backwards sealed) (Effect feed) ≡ Effects rows
    → IsInLoadOrder sealed → IsApart hashes (delivered_refs feed sealed)
    → (date : ℕ) → effect_periods rows date ≡ sorted_by parent_period_cmp (map (by_hash_key hashes) (period_mart sealed feed date))

-- since when a reference list is in effect at a date, by its hash key, is the begin of the run that it is in then, where no
-- other list that the windows deliver has its hash key
abbrev pub SinceTells : Type 0
SinceTells =
    (mapping : Mapping) (hashes : Hashes) (feed : ℕ) (sealed : List Window) (rows : List EffectRow)
    → table_after mapping hashes (backwards sealed) (Effect feed) ≡ Effects rows
    → IsInLoadOrder sealed → IsApart hashes (delivered_refs feed sealed)
    → (refs : List Key) → ((other : List Key) → Contains (delivered_refs feed sealed) other → hashes.hash other ≡ hashes.hash refs → other ≡ refs)
    → (date : ℕ) → in_effect_since rows (hashes.hash refs) date ≡ run_begin (up_to date (history feed (reverse sealed))) refs
