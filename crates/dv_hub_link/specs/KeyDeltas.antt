-- The rows that a window adds to the table of a hub or a link, told from the rows of the table and the deliveries of the
-- window.
use Rattle.std.specs.Prelude.{◌||◌, List, Option, None, map, if◌then◌else◌}
use Rattle.std.specs.List.{list_all}
use Rattle.std.specs.declared.cmp.Ordering.{Ordering}
use Rattle.dv_text.specs.declared.rows.Key.{Key}
use Rattle.dv_text.specs.Keys.{Hashes, is_missing}
use Rattle.dv_index.specs.Places.{Place}
use Rattle.dv_records.specs.declared.deliveries.Delivery.{Delivery}
use Rattle.dv_records.specs.Batches.{batch_of, digest_cmp}
use Rattle.dv_records.specs.Deltas.{Hashed}
use Rattle.dv_hub_link.specs.HashedLists.{HashedList, hashed_item}
use Rattle.dv_hub_link.specs.PlacedRows.{has_row_under}

-- the reference lists that rows stand for, with the hash keys under which they stand
abbrev pub lists_of : {R : Type 0} → (R → Place) → (R → List Key) → List R → List Hashed
lists_of place list rows = map (λ row. record { digest = (place row).parent; refs = list row }) rows

-- by hash key
abbrev pub row_cmp : {R : Type 0} → (R → Place) → R → R → Ordering
row_cmp place a b = digest_cmp (place a).parent (place b).parent

-- the row of a delivered list; none where all its keys are missing, or the table has its hash key
abbrev pub new_row : {R : Type 0} → (R → Place) → (HashedList → Option R) → Hashes → List R → Delivery → Option R
new_row place row_of hashes rows item =
    if list_all is_missing item.refs || has_row_under place (hashes.hash item.refs) rows then None
    else row_of (hashed_item hashes item)

-- the rows that deliveries add to those of a table, by hash key
abbrev pub delta : {R : Type 0} → (R → Place) → (HashedList → Option R) → Hashes → List R → List Delivery → List R
delta place row_of hashes rows items = batch_of (row_cmp place) (new_row place row_of hashes rows) items
