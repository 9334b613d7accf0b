-- Status batches (Linstedt and Olschimke 2015, chapter 5, on status tracking satellites).
use Rattle.std.specs.Prelude.{ℕ, Bool, true, false, List, ◌++◌, Option, Some, None}
use Rattle.std.specs.Option.{option_map}
use Rattle.std.specs.declared.cmp.Ordering.{Ordering}
use Rattle.dv_text.specs.declared.rows.Key.{Key}
use Rattle.dv_text.specs.Keys.{Hashes}
use Rattle.dv_records.specs.declared.raw_rows.Code.{Code}
use Rattle.dv_records.specs.declared.raw_rows.Code.TheVariants.{I, D}
use Rattle.dv_records.specs.declared.raw_rows.StatusRow.{StatusRow}
use Rattle.dv_records.specs.Batches.{batch_of, digest_cmp, IsWholeBatch}
use Rattle.dv_records.specs.History.{Extract, all_refs, delivers, newest_rows}

-- the code of what was there or not, and is there or not
abbrev pub code_between : Bool → Bool → Option Code
code_between false true = Some I
code_between true false = Some D
code_between true true = None
code_between false false = None

-- the code that an extract gives a reference list: whether it appeared or vanished since the extract before
abbrev pub code_of : List Extract → Extract → List Key → Option Code
code_of older newest refs = code_between (delivers (newest_rows older) refs) (delivers newest.rows refs)

-- the status row of a reference list; none where it neither appeared nor vanished
abbrev pub status_row : Hashes → List ℕ → List Extract → Extract → List Key → Option StatusRow
status_row hashes source older newest refs =
    option_map (λ code. record { parent = hashes.hash refs; load = newest.load; source = source; code = code }) (code_of older newest refs)

-- by parent
abbrev pub status_cmp : StatusRow → StatusRow → Ordering
status_cmp a b = digest_cmp a.parent b.parent

-- an extract's batch for a status table: a row for each reference list that appeared or vanished with it, by parent
abbrev pub status_batch : Hashes → List ℕ → List Extract → Extract → List StatusRow
status_batch hashes source older newest =
    batch_of status_cmp (status_row hashes source older newest) (all_refs (newest_rows older) ++ all_refs newest.rows)

-- the same said of a list; a reference list that has a row stands in one of the two extracts
abbrev pub IsStatusBatch : Hashes → List ℕ → List Extract → Extract → List StatusRow → Type 0
IsStatusBatch hashes source older newest = IsWholeBatch status_cmp (status_row hashes source older newest)
