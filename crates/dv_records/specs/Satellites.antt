-- Satellite batches, of plain satellites and of multi-active ones (Linstedt and Olschimke 2015, chapter 4, on
-- satellites, and chapter 5, on multi-active satellites).
use Rattle.std.specs.declared.cmp.Ordering.{Ordering}
use Rattle.std.specs.Cmp.Lexicographic.{pointwise, slice_cmp}
use Rattle.std.specs.Ordering.{ordering_then}
use Rattle.std.specs.Prelude.{◌≡◌, Contains, ℕ, Bool, not, List, [], ◌∷◌, Option, Some, None, if◌then◌else◌, filter}
use Rattle.dv_text.specs.declared.rows.Key.{Key}
use Rattle.dv_text.specs.declared.rows.NRow.{NRow}
use Rattle.dv_text.specs.Keys.{Hashes, refs_eq, row_eq}
use Rattle.dv_text.specs.Orders.{text_cmp}
use Rattle.dv_records.specs.declared.raw_rows.MultiRow.{MultiRow}
use Rattle.dv_records.specs.declared.raw_rows.SatRow.{SatRow}
use Rattle.dv_records.specs.Batches.{batch_of, digest_cmp, IsBatchOf}
use Rattle.dv_records.specs.History.{Extract, delivers}

-- the rows of a reference list
abbrev pub rows_of : List NRow → List Key → List NRow
rows_of rows refs = filter (λ row. refs_eq row.refs refs) rows

-- its rows in the newest extract that holds it; none where no extract does
abbrev pub last_rows : List Extract → List Key → List NRow
last_rows [] refs = []
last_rows (newest ∷ older) refs = if delivers newest.rows refs then rows_of newest.rows refs else last_rows older refs

-- whether its rows are other ones than when it was last there. The rows of an extract ascend and are distinct, so
-- comparing them one by one is comparing the sets of sub and attributes; the attributes themselves are compared, never
-- their hash differences.
abbrev pub is_changed : List Extract → Extract → List Key → Bool
is_changed older newest refs = not (pointwise row_eq (last_rows older refs) (rows_of newest.rows refs))

-- ---- rows as staging leaves them

-- one row for each reference list where the feed has no sub
abbrev pub IsOnePerList : List NRow → Type 0
IsOnePerList rows = (a b : NRow) → Contains rows a → Contains rows b → a.refs ≡ b.refs → a ≡ b

-- one row for each reference list and sub
abbrev pub IsOnePerSub : List NRow → Type 0
IsOnePerSub rows = (a b : NRow) → Contains rows a → Contains rows b → a.refs ≡ b.refs → a.sub ≡ b.sub → a ≡ b

-- ---- plain satellites

-- the satellite row of an extract's row; none where the attributes are those of when the reference list was last there
abbrev pub sat_row : Hashes → List ℕ → List Extract → Extract → NRow → Option SatRow
sat_row hashes source older newest row =
    if is_changed older newest row.refs then
    Some (record { parent = hashes.hash row.refs; load = newest.load; source = source; diff = hashes.diff row.attrs; attrs = row.attrs })
    else None

-- by parent
abbrev pub sat_cmp : SatRow → SatRow → Ordering
sat_cmp a b = digest_cmp a.parent b.parent

-- an extract's batch for a satellite: a row for each reference list whose attributes are other ones than when it was
-- last there, by parent
abbrev pub sat_batch : Hashes → List ℕ → List Extract → Extract → List SatRow
sat_batch hashes source older newest = batch_of sat_cmp (sat_row hashes source older newest) newest.rows

-- the same said of a list
abbrev pub IsSatBatch : Hashes → List ℕ → List Extract → Extract → List SatRow → Type 0
IsSatBatch hashes source older newest = IsBatchOf sat_cmp (sat_row hashes source older newest) newest.rows

-- ---- multi-active satellites

-- the multi-active row of an extract's row; none where all rows of the reference list are those of when it was last there
abbrev pub multi_row : Hashes → List ℕ → List Extract → Extract → NRow → Option MultiRow
multi_row hashes source older newest row =
    if is_changed older newest row.refs then
    Some (record {
      parent = hashes.hash row.refs;
      load = newest.load;
      source = source;
      diff = hashes.diff row.attrs;
      sub = row.sub;
      attrs = row.attrs;
    })
    else None

-- by parent, then by sub
abbrev pub multi_cmp : MultiRow → MultiRow → Ordering
multi_cmp a b = ordering_then (digest_cmp a.parent b.parent) (slice_cmp text_cmp a.sub b.sub)

-- an extract's batch for a multi-active satellite: all rows of each reference list whose rows are other ones than when
-- it was last there, by parent, then by sub
abbrev pub multi_batch : Hashes → List ℕ → List Extract → Extract → List MultiRow
multi_batch hashes source older newest = batch_of multi_cmp (multi_row hashes source older newest) newest.rows

-- the same said of a list
abbrev pub IsMultiBatch : Hashes → List ℕ → List Extract → Extract → List MultiRow → Type 0
IsMultiBatch hashes source older newest = IsBatchOf multi_cmp (multi_row hashes source older newest) newest.rows
