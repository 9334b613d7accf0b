-- Effectivity batches (Linstedt and Olschimke 2015, chapter 5, on effectivity satellites).
use Rattle.std.specs.Prelude.{ℕ, Bool, true, false, List, ◌++◌, Option, Some, None}
use Rattle.std.specs.Option.{option_map}
use Rattle.std.specs.declared.cmp.Ordering.{Ordering}
use Rattle.dv_text.specs.Stamps.{open_end}
use Rattle.dv_text.specs.declared.rows.Key.{Key}
use Rattle.dv_text.specs.Keys.{Hashes}
use Rattle.dv_records.specs.declared.raw_rows.EffectRow.{EffectRow}
use Rattle.dv_records.specs.Batches.{batch_of, digest_cmp, IsWholeBatch}
use Rattle.dv_records.specs.History.{Extract, all_refs, delivers, newest_rows}
use Rattle.dv_records.specs.Runs.{Span, run_begin}

-- what an extract of this load date says of a reference list that was in a run since a date, or wasn't, and is in the
-- extract, or isn't: that a run begins, or that it ends
abbrev pub span_between : ℕ → Option ℕ → Bool → Option Span
span_between load None true = Some (record { begin = load; end = open_end })
span_between load (Some begin) false = Some (record { begin = begin; end = load })
span_between load (Some begin) true = None
span_between load None false = None

-- the effectivity row of a reference list; none where no run of it begins or ends with the extract. The row that closes
-- a run has the run's begin.
abbrev pub effect_row : Hashes → List ℕ → List Extract → Extract → List Key → Option EffectRow
effect_row hashes source older newest refs =
    option_map
    (λ span. record { parent = hashes.hash refs; load = newest.load; source = source; begin = span.begin; end = span.end })
    (span_between newest.load (run_begin older refs) (delivers newest.rows refs))

-- by parent
abbrev pub effect_cmp : EffectRow → EffectRow → Ordering
effect_cmp a b = digest_cmp a.parent b.parent

-- an extract's batch for an effectivity table: a row for each reference list that begins or ends a run with it, by parent
abbrev pub effect_batch : Hashes → List ℕ → List Extract → Extract → List EffectRow
effect_batch hashes source older newest =
    batch_of effect_cmp (effect_row hashes source older newest) (all_refs (newest_rows older) ++ all_refs newest.rows)

-- the same said of a list; a reference list that has a row stands in one of the two extracts
abbrev pub IsEffectBatch : Hashes → List ℕ → List Extract → Extract → List EffectRow → Type 0
IsEffectBatch hashes source older newest = IsWholeBatch effect_cmp (effect_row hashes source older newest)
