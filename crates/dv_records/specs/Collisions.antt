-- Collisions: different keys of a hub, or reference lists of a link, with one hash key (Linstedt and Olschimke 2015,
-- chapter 11, on hashing).
use Rattle.std.specs.Prelude.{◌≡◌, ℕ, List, [], ◌∷◌, ◌++◌, Option, None, map, length, find, Contains}
use Rattle.std.specs.List.{flat_map, range_with_len}
use Rattle.std.specs.Option.{option_map, option_or}
use Rattle.std.specs.Ordering.{ordering_then}
use Rattle.std.specs.Str.{bytes_eq}
use Rattle.std.specs.declared.cmp.Ordering.{Ordering}
use Rattle.std.specs.declared.cmp.Ordering.TheVariants.{Less}
use Rattle.dv_text.specs.declared.rows.Key.{Key}
use Rattle.dv_text.specs.declared.rows.Window.{Window}
use Rattle.dv_text.specs.Keys.{Hashes}
use Rattle.dv_text.specs.Orders.{refs_cmp}
use Rattle.dv_text.specs.Sorting.{sorted_by}
use Rattle.dv_catalog.specs.declared.entries.Parent.{Parent}
use Rattle.dv_catalog.specs.declared.entries.Parent.TheVariants.{Hub, Link}
use Rattle.dv_catalog.specs.declared.tables.TableId.{TableId}
use Rattle.dv_catalog.specs.Entries.{Mapping}
use Rattle.dv_catalog.specs.Feeds.{parent_hubs}
use Rattle.dv_records.specs.Deliveries.{offered_refs, table_of}
use Rattle.dv_records.specs.ReadBack.{missing_key}

-- no two of the lists have one hash key
abbrev pub IsApart : Hashes → List (List Key) → Type 0
IsApart hashes lists = (a b : List Key) → Contains lists a → Contains lists b → hashes.hash a ≡ hashes.hash b → a ≡ b

-- two reference lists with one hash key, the lesser one first
pub record Pair : Type 0 where
  pub first : List Key
  pub second : List Key

-- the missing key of a hub, as a list of one, or the list of the missing keys of a link's hubs; its hash key is the zero key
abbrev pub missing_refs : Mapping → Parent → List Key
missing_refs mapping parent = map (missing_key mapping) (parent_hubs mapping parent)

-- what must have hash keys of its own in a hub or a link: what is missing, and all that the windows bring
abbrev pub hashed_refs : Mapping → List Window → Parent → List (List Key)
hashed_refs mapping windows parent = missing_refs mapping parent ∷ flat_map (offered_refs mapping parent) windows

-- the least pair in a list that ascends: the least first one, and with it the least second one
abbrev pub least_pair : (List Key → List ℕ) → List (List Key) → Option Pair
least_pair hash [] = None
least_pair hash (refs ∷ greater) =
    option_or
    (option_map (λ other. record { first = refs; second = other }) (find (λ other. bytes_eq (hash refs) (hash other)) greater))
    (least_pair hash greater)

-- the least pair of a hub or a link over the windows
abbrev pub collision_in : Mapping → Hashes → List Window → Parent → Option Pair
collision_in mapping hashes windows parent = least_pair hashes.hash (sorted_by refs_cmp (hashed_refs mapping windows parent))

-- the same said of a pair: different ones of the lists with one hash key, the lesser one first
pub record IsPairOf (hashes : Hashes) (lists : List (List Key)) (pair : Pair) : Type 0 where
  pub has_first : Contains lists pair.first
  pub has_second : Contains lists pair.second
  pub alike : hashes.hash pair.first ≡ hashes.hash pair.second
  pub ordered : refs_cmp pair.first pair.second ≡ Less

-- by the first one, then by the second one
abbrev pub pair_cmp : Pair → Pair → Ordering
pair_cmp a b = ordering_then (refs_cmp a.first b.first) (refs_cmp a.second b.second)

-- and none of them is less
pub record IsLeastPair (hashes : Hashes) (lists : List (List Key)) (pair : Pair) : Type 0 where
  pub is : IsPairOf hashes lists pair
  pub least : (other : Pair) → IsPairOf hashes lists other → pair_cmp other pair ≡ Less → ⊥

-- the hubs and then the links, in declared order
abbrev pub parents : Mapping → List Parent
parents mapping =
    map (λ n. Hub n) (range_with_len 0 (length mapping.hubs)) ++ map (λ n. Link n) (range_with_len 0 (length mapping.links))

-- a collision: its table, and the least pair there
pub record Collision : Type 0 where
  pub table : TableId
  pub pair : Pair

-- the first collision among hubs and links in this order
abbrev pub first_collision : Mapping → Hashes → List Window → List Parent → Option Collision
first_collision mapping hashes windows [] = None
first_collision mapping hashes windows (parent ∷ rest) =
    option_or
    (option_map (λ pair. record { table = table_of parent; pair = pair }) (collision_in mapping hashes windows parent))
    (first_collision mapping hashes windows rest)

-- the collision of windows: the least pair of the first hub or link that has one
abbrev pub collision : Mapping → Hashes → List Window → Option Collision
collision mapping hashes windows = first_collision mapping hashes windows (parents mapping)
