-- Status tables row by row: what an extract adds to a table, by the hash keys alone.
use Rattle.std.specs.Prelude.{◌≡◌, ℕ, Bool, List, [], ◌∷◌, ◌++◌, Option, map, if◌then◌else◌}
use Rattle.std.specs.List.{filter_map, list_any}
use Rattle.std.specs.Option.{option_map}
use Rattle.std.specs.Ordering.{nat_cmp, ordering_then}
use Rattle.std.specs.Str.{bytes_eq}
use Rattle.std.specs.declared.cmp.Ordering.{Ordering}
use Rattle.dv_text.specs.declared.rows.Key.{Key}
use Rattle.dv_text.specs.Keys.{Hashes}
use Rattle.dv_text.specs.Sorting.{sorted_by}
use Rattle.dv_index.specs.Places.{has_load}
use Rattle.dv_records.specs.declared.raw_rows.StatusRow.{StatusRow}
use Rattle.dv_records.specs.Batches.{appended, digest_cmp}
use Rattle.dv_records.specs.Collisions.{IsApart}
use Rattle.dv_records.specs.History.{Extract, lists_of, AreNewestFirst}
pub use Rattle.dv_records.specs.ReadBack.{present_parents}
use Rattle.dv_records.specs.Reconstruction.{present_at}
use Rattle.dv_records.specs.StatusPlaces.{status_place}
use Rattle.dv_records.specs.Statuses.{code_between, status_batch}

-- the order of a status table: by load date, then by parent
abbrev pub status_order : StatusRow → StatusRow → Ordering
status_order a b = ordering_then (nat_cmp a.load b.load) (digest_cmp a.parent b.parent)

-- the parents of rows, in their order
abbrev pub parents_of : List StatusRow → List (List ℕ)
parents_of rows = map (λ row. row.parent) rows

-- the hash keys of reference lists
abbrev pub hashes_in : Hashes → List (List Key) → List (List ℕ)
hashes_in hashes refs = map (λ list. hashes.hash list) refs

-- whether a digest is one of some digests
abbrev pub is_among : List (List ℕ) → List ℕ → Bool
is_among digests digest = list_any (λ other. bytes_eq other digest) digests

-- the row of a digest, where `now` are the digests of a load date: none where it was present and still is, or wasn't and
-- isn't
abbrev pub status_change : List ℕ → List StatusRow → ℕ → List (List ℕ) → List ℕ → Option StatusRow
status_change source rows load now digest =
    option_map (λ code. record { parent = digest; load = load; source = source; code = code })
    (code_between (present_at rows digest load) (is_among now digest))

-- those of the digests in the table and of these, in their order
abbrev pub status_changes : List ℕ → List StatusRow → ℕ → List (List ℕ) → List StatusRow
status_changes source rows load now = filter_map (status_change source rows load now) (sorted_by digest_cmp (parents_of rows ++ now))

-- what an extract with these hash keys adds to a table: a row for each digest of the table or of the keys that appeared
-- or vanished; nothing where the table has a row of this load date
abbrev pub keys_delta : List ℕ → List StatusRow → ℕ → List (List ℕ) → List StatusRow
keys_delta source rows load keys = if has_load status_place rows load then [] else status_changes source rows load keys

-- what the reference lists of an extract add, by hash key
abbrev pub status_delta : Hashes → List ℕ → List StatusRow → ℕ → List (List Key) → List StatusRow
status_delta hashes source rows load refs = keys_delta source rows load (hashes_in hashes refs)

-- rows are the batch of an extract, wherever a table is that of extracts before it
abbrev pub IsBatchAfter : Hashes → List ℕ → List StatusRow → Extract → List StatusRow → Type 0
IsBatchAfter hashes source rows newest delta =
    (older : List Extract) → AreNewestFirst (newest ∷ older) → IsApart hashes (lists_of (newest ∷ older))
    → rows ≡ appended (status_batch hashes source) older → delta ≡ status_batch hashes source older newest
