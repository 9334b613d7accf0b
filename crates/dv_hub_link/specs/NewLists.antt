-- The deliveries whose hash keys a table has not yet.
use Rattle.std.specs.Prelude.{Bool, false, not, ◌||◌, List, ◌++◌, Option, None, Some, if◌then◌else◌}
use Rattle.std.specs.List.{filter_map, list_all, zip}
use Rattle.dv_text.specs.Keys.{Hashes, is_missing}
use Rattle.dv_catalog.specs.Entries.{Mapping}
use Rattle.dv_records.specs.declared.deliveries.Delivery.{Delivery}
use Rattle.dv_records.specs.Batches.{batch_of}
use Rattle.dv_records.specs.Deltas.{Hashed, brought}
use Rattle.dv_hub_link.specs.declared.hashed_lists.LentList.{LentList}
use Rattle.dv_hub_link.specs.declared.holds_lists.Standing.{Standing}
use Rattle.dv_hub_link.specs.declared.holds_lists.Standing.TheVariants.{New}
use Rattle.dv_hub_link.specs.HashedLists.{HashedList, hashed_cmp, hashed_item, told}
use Rattle.dv_hub_link.specs.HeldLists.{is_held}

-- a delivered list with its hash key; none where all its keys are missing, or a held list has the hash key
abbrev pub new_item : Hashes → List Hashed → Delivery → Option HashedList
new_item hashes held item = if list_all is_missing item.refs || is_held (hashes.hash item.refs) held then None else Some (hashed_item hashes item)

-- the new lists of deliveries, by hash key
abbrev pub new_lists : Hashes → List Hashed → List Delivery → List HashedList
new_lists hashes held items = batch_of hashed_cmp (new_item hashes held) items

-- the same said of a list with its hash key
abbrev pub is_new : List Hashed → HashedList → Bool
is_new held list = not (list_all is_missing list.refs || is_held list.digest held)

-- the same said of a lent list and how it stands to those that are held
abbrev pub is_new_beside : LentList → Standing → Bool
is_new_beside list New = not (list_all is_missing list.refs.now)
is_new_beside list standing = false

-- the list that is lent, if it is new
abbrev pub new_beside : LentList → Standing → Option HashedList
new_beside list standing = if is_new_beside list standing then Some (told list) else None

-- lent lists without those that are not new
abbrev pub kept : List LentList → List Standing → List HashedList
kept lists standings = filter_map (λ (list, standing). new_beside list standing) (zip lists standings)

-- all lists with their hash keys: that of missing keys and those of deliveries, and those that are held
abbrev pub all_hashed : Mapping → Hashes → List Hashed → List Delivery → List Hashed
all_hashed mapping hashes held items = brought mapping hashes items ++ held
