-- Satellites row by row: what an extract adds to one, by the hash keys and the attributes alone.
use Rattle.std.specs.Prelude.{◌≡◌, ℕ, Bool, false, List, [], ◌∷◌, Option, Some, None, Contains, find, reverse, if◌then◌else◌}
use Rattle.std.specs.List.Sorted.{IsStrictlySortedBy}
use Rattle.std.specs.Ordering.{nat_cmp, ordering_then}
use Rattle.std.specs.Str.{bytes_eq}
use Rattle.std.specs.declared.cmp.Ordering.{Ordering}
use Rattle.dv_text.specs.declared.rows.NRow.{NRow}
use Rattle.dv_text.specs.Keys.{Hashes, texts_eq}
use Rattle.dv_text.specs.Orders.{row_cmp}
use Rattle.dv_index.specs.Places.{has_load}
use Rattle.dv_records.specs.declared.raw_rows.SatRow.{SatRow}
use Rattle.dv_records.specs.Batches.{appended, batch_of}
use Rattle.dv_records.specs.Collisions.{IsApart}
use Rattle.dv_records.specs.History.{Extract, lists_of, AreNewestFirst}
use Rattle.dv_records.specs.Reconstruction.{valid_at}
use Rattle.dv_records.specs.SatPlaces.{sat_place}
use Rattle.dv_records.specs.Satellites.{sat_batch, sat_cmp, IsOnePerList}

-- the order of a satellite: by load date, then by parent
abbrev pub sat_order : SatRow → SatRow → Ordering
sat_order a b = ordering_then (nat_cmp a.load b.load) (sat_cmp a b)

-- the last row of a parent, whatever its date
abbrev pub current_of : List SatRow → List ℕ → Option SatRow
current_of rows parent = find (λ row. bytes_eq row.parent parent) (reverse rows)

-- whether a row is there and has these attributes: they themselves are compared, never their hash differences
abbrev pub has_attrs : Option SatRow → List (List ℕ) → Bool
has_attrs None attrs = false
has_attrs (Some row) attrs = texts_eq row.attrs attrs

-- the row that an extract's row adds, beside the one that is valid for its parent: none where that has its attributes
abbrev pub sat_change_from : Hashes → List ℕ → Option SatRow → ℕ → NRow → Option SatRow
sat_change_from hashes source valid load row =
    if has_attrs valid row.attrs then None
    else
    Some (record { parent = hashes.hash row.refs; load = load; source = source; diff = hashes.diff row.attrs; attrs = row.attrs })

-- the row that an extract's row adds: none where the row that is valid for its parent at the load date has its attributes
abbrev pub sat_change : Hashes → List ℕ → List SatRow → ℕ → NRow → Option SatRow
sat_change hashes source rows load row = sat_change_from hashes source (valid_at rows (hashes.hash row.refs) load) load row

-- what the rows of an extract add to a satellite, by hash key; nothing where it has a row of this load date
abbrev pub sat_delta : Hashes → List ℕ → List SatRow → ℕ → List NRow → List SatRow
sat_delta hashes source rows load staged = if has_load sat_place rows load then [] else batch_of sat_cmp (sat_change hashes source rows load) staged

-- rows as staging leaves those of a feed without a sub: in order and each once, one for each reference list, and without
-- a sub
pub record IsPlain (rows : List NRow) : Type 0 where
  pub ascending : IsStrictlySortedBy row_cmp rows
  pub single : IsOnePerList rows
  pub no_sub : (row : NRow) → Contains rows row → row.sub ≡ []

-- rows are the batch of an extract, wherever a satellite is that of extracts before it
abbrev pub IsSatBatchAfter : Hashes → List ℕ → List SatRow → Extract → List SatRow → Type 0
IsSatBatchAfter hashes source rows newest delta =
    (older : List Extract) → AreNewestFirst (newest ∷ older) → IsApart hashes (lists_of (newest ∷ older))
    → ((extract : Extract) → Contains (newest ∷ older) extract → IsPlain extract.rows)
    → rows ≡ appended (sat_batch hashes source) older → delta ≡ sat_batch hashes source older newest
