-- Reference lists with their hash keys and the feeds that deliver them, in order.
use Rattle.std.specs.Prelude.{ℕ, List, [], ◌∷◌, map}
use Rattle.std.specs.Ordering.{nat_cmp, ordering_then}
use Rattle.std.specs.declared.cmp.Ordering.{Ordering}
use Rattle.dv_text.specs.declared.rows.Key.{Key}
use Rattle.dv_text.specs.Keys.{Hashes}
use Rattle.dv_text.specs.Orders.{refs_cmp}
use Rattle.dv_text.specs.Sorting.{sorted_by}
use Rattle.dv_catalog.specs.Entries.{Mapping}
use Rattle.dv_records.specs.declared.deliveries.Delivery.{Delivery}
use Rattle.dv_records.specs.declared.deliveries.HashedDelivery.{HashedDelivery}
use Rattle.dv_records.specs.Batches.{digest_cmp}
use Rattle.dv_records.specs.Deltas.{missing_in}
use Rattle.dv_hub_link.specs.declared.hashed_lists.LentList.{LentList}

-- a reference list with its hash key and the feed that delivers it
pub record HashedList : Type 0 where
  pub digest : List ℕ
  pub refs : List Key
  pub feed : ℕ

-- what is said of a list that is lent
abbrev pub told : LentList → HashedList
told lent = record { digest = lent.digest; refs = lent.refs.now; feed = lent.feed }

-- by hash key, then by list, then by feed
abbrev pub hashed_cmp : HashedList → HashedList → Ordering
hashed_cmp a b = ordering_then (digest_cmp a.digest b.digest) (ordering_then (refs_cmp a.refs b.refs) (nat_cmp a.feed b.feed))

abbrev pub hashed_list : Hashes → List Key → ℕ → HashedList
hashed_list hashes refs feed = record { digest = hashes.hash refs; refs = refs; feed = feed }

abbrev pub hashed_item : Hashes → Delivery → HashedList
hashed_item hashes item = hashed_list hashes item.refs item.feed

-- the list of a delivery with the hash key that stands beside it
abbrev pub list_beside : HashedDelivery → HashedList
list_beside item = record { digest = item.digest; refs = item.refs.now; feed = item.feed }

-- the list of missing keys and those of deliveries, in order
abbrev pub hashed_lists : Hashes → List Key → ℕ → List Delivery → List HashedList
hashed_lists hashes missing feed items = sorted_by hashed_cmp (hashed_list hashes missing feed ∷ map (hashed_item hashes) items)

-- the list of missing keys of the table that deliveries are to; no keys where there are no deliveries
abbrev pub missing_of : Mapping → List Delivery → List Key
missing_of mapping [] = []
missing_of mapping (item ∷ items) = missing_in mapping item.table

-- the lists of deliveries, and first that of the missing keys of their table; none where there are no deliveries
abbrev pub with_missing : Mapping → Hashes → List Delivery → List HashedList
with_missing mapping hashes [] = []
with_missing mapping hashes (item ∷ items) = hashed_list hashes (missing_in mapping item.table) item.feed ∷ map (hashed_item hashes) (item ∷ items)

-- the same in order
abbrev pub brought_lists : Mapping → Hashes → List Delivery → List HashedList
brought_lists mapping hashes items = sorted_by hashed_cmp (with_missing mapping hashes items)
