-- The rows' numbers in the order of an index.
use Rattle.std.specs.Prelude.{◌≡◌, ℕ, ◌+◌, ◌-◌, ◌==◌, nat_le, Bool, true, false, not, ◌&&◌, List, [], Option, Some, None, drop, if◌then◌else◌, length, map, slice_get, slice_index, slice_index_or, take}
use Rattle.std.specs.List.{All, range_with_len}
use Rattle.std.specs.Str.{bytes_eq}
use Rattle.std.specs.List.Sorted.{IsPartitionPoint, IsPermutation, IsSorted}
use Rattle.std.specs.declared.cmp.Ordering.{Ordering}
use Rattle.std.specs.declared.cmp.Ordering.TheVariants.{Less, Equal, Greater}
use Rattle.std.specs.Ordering.{nat_cmp, ordering_then}
use Rattle.dv_text.specs.Digests.{IsDigest, digest_prefix}
use Rattle.dv_text.specs.Orders.{text_cmp}
use Rattle.dv_index.specs.declared.entries.Entry.{Entry}
use Rattle.dv_index.specs.Places.{Place}

-- the parents of rows, in their order
abbrev pub parents_of : {X : Type 0} → (X → Place) → List X → List (List ℕ)
parents_of place rows = map (λ row. (place row).parent) rows

-- the load dates of rows, in their order
abbrev pub loads_of : {X : Type 0} → (X → Place) → List X → List ℕ
loads_of place rows = map (λ row. (place row).load) rows

-- the parent of the row with a number
abbrev pub parent_at : List (List ℕ) → ℕ → List ℕ
parent_at parents number = slice_index_or parents number []

-- the load date of the row with a number
abbrev pub load_at : List ℕ → ℕ → ℕ
load_at loads number = slice_index_or loads number 0

-- rows by their numbers: by parent, then by number. Since load dates do not fall, this is by parent, load date and number
abbrev pub number_cmp : List (List ℕ) → ℕ → ℕ → Ordering
number_cmp parents a b = ordering_then (text_cmp (parent_at parents a) (parent_at parents b)) (nat_cmp a b)

-- each row's number once, in this order
pub record IsIndex (parents : List (List ℕ)) (index : List ℕ) : Type 0 where
  pub each : IsPermutation (range_with_len 0 (length parents)) index
  pub ordered : IsSorted (number_cmp parents) index

-- the numbers of entries
abbrev pub numbers_of : List Entry → List ℕ
numbers_of entries = map (λ entry. entry.number) entries

-- the entry of the row with a number
abbrev pub entry_at : List (List ℕ) → ℕ → Entry
entry_at parents number = record { prefix = digest_prefix (parent_at parents number); number = number }

-- an entry has the prefix of its row's parent, which is a digest
pub record IsEntry (parents : List (List ℕ)) (entry : Entry) : Type 0 where
  pub wide : IsDigest (parent_at parents entry.number)
  pub prefix_is : entry.prefix ≡ digest_prefix (parent_at parents entry.number)

-- entries by their prefixes, and where these tie by their rows
abbrev pub entry_cmp : List (List ℕ) → Entry → Entry → Ordering
entry_cmp parents a b = ordering_then (nat_cmp a.prefix b.prefix) (number_cmp parents a.number b.number)

-- the entries of an index
pub record AreEntries (parents : List (List ℕ)) (entries : List Entry) : Type 0 where
  pub index : IsIndex parents (numbers_of entries)
  pub each : All (IsEntry parents) entries

-- two indexes of rows: one of the first, as many as it has entries, and one of those behind them, which it numbers from 0
pub record AreRuns {X : Type 0} (place : X → Place) (rows : List X) (index recent : List Entry) : Type 0 where
  pub older : AreEntries (parents_of place (take (length index) rows)) index
  pub newer : AreEntries (parents_of place (drop (length index) rows)) recent

-- of a parent's order to another and of whether a load date is early enough
abbrev pub is_reached_by : Ordering → Bool → Bool
is_reached_by Less early = true
is_reached_by Equal early = early
is_reached_by Greater early = false

-- whether the row with a number is of a lesser parent, or of this one and not later than the date
abbrev pub is_reached : List (List ℕ) → List ℕ → List ℕ → ℕ → ℕ → Bool
is_reached parents loads parent date number = is_reached_by (text_cmp (parent_at parents number) parent) (nat_le (load_at loads number) date)

-- the same of an entry, by a prefix, and where it ties by the row
abbrev pub is_entry_reached : List (List ℕ) → List ℕ → List ℕ → ℕ → ℕ → Entry → Bool
is_entry_reached parents loads parent prefix date entry = is_reached_by (nat_cmp entry.prefix prefix) (is_reached parents loads parent date entry.number)

-- the same of a number that may be absent
abbrev pub is_reached_if : List (List ℕ) → List ℕ → List ℕ → ℕ → Option ℕ → Bool
is_reached_if parents loads parent date None = false
is_reached_if parents loads parent date (Some number) = is_reached parents loads parent date number

-- the partition point of an index: the rows of all numbers before it are reached, and those of the others are not
abbrev pub IsReachedPoint : List (List ℕ) → List ℕ → List ℕ → ℕ → List ℕ → ℕ → Type 0
IsReachedPoint parents loads parent date index point =
    IsPartitionPoint (λ number. is_reached parents loads parent date number ≡ true) (λ number. is_reached parents loads parent date number ≡ false) index point

-- of the first numbers of an index, so many, the row with the last one, if it is of a parent
abbrev pub row_before : {X : Type 0} → (X → Place) → List X → List ℕ → List ℕ → ℕ → Option X
row_before place rows index parent count =
    if not (count == 0) && bytes_eq (parent_at (parents_of place rows) (slice_index index (count - 1))) parent
    then slice_get rows (slice_index index (count - 1))
    else None

-- whether the row at a place of an index is its parent's last one that is not later than a date: it isn't later, and the
-- next one is, or is of another parent
abbrev pub is_last : List (List ℕ) → List ℕ → List ℕ → ℕ → ℕ → Bool
is_last parents loads index date place =
    is_reached parents loads (parent_at parents (slice_index index place)) date (slice_index index place)
    && not (is_reached_if parents loads (parent_at parents (slice_index index place)) date (slice_get index (place + 1)))

-- that row, if it is
abbrev pub last_row : {X : Type 0} → (X → Place) → List X → List ℕ → ℕ → ℕ → Option X
last_row place rows index date k = if is_last (parents_of place rows) (loads_of place rows) index date k then slice_get rows (slice_index index k) else None
