-- Multi-active satellites row by row: what an extract adds to one, by the hash keys, the subs and the attributes alone.
use Rattle.std.specs.Prelude.{◌≡◌, ℕ, Bool, List, [], ◌∷◌, Option, Some, None, Contains, map, if◌then◌else◌}
use Rattle.std.specs.List.Sorted.{IsStrictlySortedBy}
use Rattle.std.specs.Cmp.Lexicographic.{pointwise}
use Rattle.std.specs.Ordering.{nat_cmp, ordering_then}
use Rattle.std.specs.declared.cmp.Ordering.{Ordering}
use Rattle.dv_text.specs.declared.rows.NRow.{NRow}
use Rattle.dv_text.specs.Keys.{Hashes, row_eq}
use Rattle.dv_text.specs.Orders.{row_cmp}
use Rattle.dv_index.specs.Places.{has_load}
use Rattle.dv_records.specs.declared.raw_rows.MultiRow.{MultiRow}
use Rattle.dv_records.specs.Batches.{appended, batch_of}
use Rattle.dv_records.specs.Collisions.{IsApart}
use Rattle.dv_records.specs.History.{Extract, lists_of, AreNewestFirst}
use Rattle.dv_records.specs.MultiPlaces.{multi_place}
use Rattle.dv_records.specs.Reconstruction.{all_valid_at, described_row}
use Rattle.dv_records.specs.Satellites.{multi_batch, multi_cmp, rows_of, IsOnePerSub}

-- the order of a multi-active satellite: by load date, then by parent, then by sub
abbrev pub multi_order : MultiRow → MultiRow → Ordering
multi_order a b = ordering_then (nat_cmp a.load b.load) (multi_cmp a b)

-- whether rows of a satellite are those of a reference list in an extract: the subs and the attributes themselves are
-- compared, never their hash differences
abbrev pub are_same : List MultiRow → List NRow → NRow → Bool
are_same valid staged row = pointwise row_eq (map (described_row row.refs) valid) (rows_of staged row.refs)

-- the row that an extract's row adds, beside those that are valid for its parent: none where these are all those of its
-- reference list
abbrev pub multi_change_from : Hashes → List ℕ → List MultiRow → ℕ → List NRow → NRow → Option MultiRow
multi_change_from hashes source valid load staged row =
    if are_same valid staged row then None
    else
    Some (record { parent = hashes.hash row.refs; load = load; source = source; diff = hashes.diff row.attrs; sub = row.sub; attrs = row.attrs })

-- the row that an extract's row adds: none where the rows that are valid for its parent at the load date are all those of
-- its reference list
abbrev pub multi_change : Hashes → List ℕ → List MultiRow → ℕ → List NRow → NRow → Option MultiRow
multi_change hashes source rows load staged row = multi_change_from hashes source (all_valid_at rows (hashes.hash row.refs) load) load staged row

-- what the rows of an extract add to a multi-active satellite, by hash key, then by sub; nothing where it has a row of
-- this load date
abbrev pub multi_delta : Hashes → List ℕ → List MultiRow → ℕ → List NRow → List MultiRow
multi_delta hashes source rows load staged = if has_load multi_place rows load then [] else batch_of multi_cmp (multi_change hashes source rows load staged) staged

-- rows as staging leaves those of a feed with a sub: in order and each once, one for each reference list and sub
pub record IsTold (rows : List NRow) : Type 0 where
  pub ascending : IsStrictlySortedBy row_cmp rows
  pub single : IsOnePerSub rows

-- rows are the batch of an extract, wherever a multi-active satellite is that of extracts before it
abbrev pub IsMultiBatchAfter : Hashes → List ℕ → List MultiRow → Extract → List MultiRow → Type 0
IsMultiBatchAfter hashes source rows newest delta =
    (older : List Extract) → AreNewestFirst (newest ∷ older) → IsApart hashes (lists_of (newest ∷ older))
    → ((extract : Extract) → Contains (newest ∷ older) extract → IsTold extract.rows)
    → rows ≡ appended (multi_batch hashes source) older → delta ≡ multi_batch hashes source older newest
