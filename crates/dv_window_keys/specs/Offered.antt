-- The reference lists that a window's rows bring, as they are gathered from the rows: each beside its feed.
use Rattle.std.specs.Prelude.{◌≡◌, ℕ, ◌==◌, Bool, false, not, List, [], ◌∷◌, ◌++◌, Option, None, Some, map, filter, slice_get}
use denote.Ref.{Bor}
use Rattle.std.specs.List.{flat_map, list_all}
use Rattle.std.specs.Option.{option_map, option_map_or}
use Rattle.std.specs.declared.cmp.Ordering.{Ordering}
use Rattle.dv_text.specs.declared.rows.Key.{Key}
use Rattle.dv_text.specs.declared.rows.Staged.{Staged}
use Rattle.dv_text.specs.Keys.{Hashes, is_missing}
use Rattle.dv_text.specs.Orders.{refs_cmp}
use Rattle.dv_catalog.specs.declared.entries.Parent.{Parent}
use Rattle.dv_catalog.specs.declared.tables.TableId.{TableId}
use Rattle.dv_catalog.specs.Entries.{Mapping}
use Rattle.dv_catalog.specs.Feeds.{keys_at}
use Rattle.dv_records.specs.declared.deliveries.Delivery.{Delivery}
use Rattle.dv_records.specs.declared.deliveries.HashedDelivery.{HashedDelivery}
use Rattle.dv_records.specs.Deliveries.{refs_from}
use Rattle.dv_records.specs.Deltas.{delivery_of}
use Rattle.dv_window_keys.specs.declared.offers.Offer.{Offer}

-- a reference list with its hash key, and the feed that brings it
pub record Offered : Type 0 where
  pub refs : List Key
  pub feed : ℕ
  pub digest : List ℕ

-- the hash key of a reference list: the one that is told, else that which it has by a function
abbrev pub key_told : Hashes → Option (List ℕ) → List Key → List ℕ
key_told hashes None refs = hashes.hash refs
key_told hashes (Some digest) refs = digest

-- the hash key that an offer tells
abbrev pub told_by : Option (Bor (List ℕ)) → Option (List ℕ)
told_by told = option_map (λ digest. digest.now) told

-- a hash key that is told is that of a reference list
abbrev pub IsKeyOf : Hashes → Option (List ℕ) → List Key → Type 0
IsKeyOf hashes told refs = key_told hashes told refs ≡ hashes.hash refs

abbrev pub offered_by : Hashes → Offer → Offered
offered_by hashes offer = record { refs = offer.refs.now; feed = offer.feed; digest = key_told hashes (told_by offer.told) offer.refs.now }

-- these offers stand behind those that there were, in their order
abbrev pub StandBehind : Hashes → List Offer → List Offer → List Offered → Type 0
StandBehind hashes before now more = map (offered_by hashes) now ≡ map (offered_by hashes) before ++ more

-- by references alone
abbrev pub offer_cmp : Offer → Offer → Ordering
offer_cmp a b = refs_cmp a.refs.now b.refs.now

-- reference lists of a feed with their hash keys, without those whose keys are all missing
abbrev pub kept : Hashes → ℕ → List (List Key) → List Offered
kept hashes feed lists = map (λ refs. record { refs = refs; feed = feed; digest = hashes.hash refs }) (filter (λ refs. not (list_all is_missing refs)) lists)

-- the reference lists of the rows of an extract, as lists made of each row's references, with their hash keys
abbrev pub kept_of_rows : Hashes → (List Key → List (List Key)) → Staged → List Offered
kept_of_rows hashes lists staged = flat_map (λ row. kept hashes staged.feed (lists row.refs)) staged.rows

-- whether a hub stands at a place among hubs
abbrev pub stands_at : List ℕ → ℕ → ℕ → Bool
stands_at hubs place hub = option_map_or (λ other. other == hub) (slice_get hubs place) false

-- the keys of a hub among references, each as a list of one
abbrev pub single_keys : ℕ → List ℕ → List Key → List (List Key)
single_keys hub hubs refs = map (λ key. key ∷ []) (keys_at hub hubs refs)

-- what extracts bring to a hub or a link
abbrev pub all_offered : Hashes → Mapping → Parent → List Staged → List Offered
all_offered hashes mapping parent extracts = flat_map (λ staged. kept hashes staged.feed (refs_from mapping parent staged)) extracts

-- a delivery with a hash key
pub record Keyed : Type 0 where
  pub delivery : Delivery
  pub digest : List ℕ

-- a delivery whose list is lent, and the hash key beside it
abbrev pub keyed : HashedDelivery → Keyed
keyed item = record { delivery = delivery_of item; digest = item.digest }

abbrev pub delivery_to : TableId → Offered → Keyed
delivery_to table offered = record { delivery = record { table = table; refs = offered.refs; feed = offered.feed }; digest = offered.digest }

-- a delivery with the hash key of its reference list
abbrev pub hashed_as : Hashes → Delivery → Keyed
hashed_as hashes item = record { delivery = item; digest = hashes.hash item.refs }
