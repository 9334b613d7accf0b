-- What the rows that a window adds to a hub or a link are told from: the reference lists that are brought and those in
-- the table, each with its hash key, and when two different ones have one hash key (Linstedt and Olschimke 2015,
-- chapter 11, on hashing).
use Rattle.std.specs.Prelude.{◌≡◌, ℕ, List, [], ◌∷◌, Option, None, Some, Result, Ok, Err, All, Contains, map}
use Rattle.std.specs.declared.cmp.Ordering.TheVariants.{Less}
use Rattle.dv_text.specs.declared.rows.Key.{Key}
use Rattle.dv_text.specs.Keys.{Hashes}
use Rattle.dv_text.specs.Orders.{refs_cmp}
use Rattle.dv_catalog.specs.declared.entries.Parent.TheVariants.{Hub, Link}
use Rattle.dv_catalog.specs.declared.tables.TableId.{TableId}
use Rattle.dv_catalog.specs.declared.tables.TableId.TheVariants.{Hub as HubTable, Link as LinkTable, Sat, Multi, Status, Effect}
use Rattle.dv_catalog.specs.Entries.{Mapping}
use Rattle.dv_records.specs.declared.deliveries.DeltaFault.{DeltaFault}
use Rattle.dv_records.specs.declared.deliveries.DeltaFault.TheVariants.{Collision, Memory}
use Rattle.dv_records.specs.declared.deliveries.Delivery.{Delivery}
use Rattle.dv_records.specs.declared.deliveries.HashedDelivery.{HashedDelivery}
use Rattle.dv_records.specs.Collisions.{Pair, missing_refs, pair_cmp}

-- a reference list with its hash key
pub record Hashed : Type 0 where
  pub digest : List ℕ
  pub refs : List Key

-- a reference list with the hash key that it has by a function
abbrev pub hashed_by : Hashes → List Key → Hashed
hashed_by hashes refs = record { digest = hashes.hash refs; refs = refs }

-- the delivery whose reference list is lent, without its hash key
abbrev pub delivery_of : HashedDelivery → Delivery
delivery_of item = record { table = item.table; refs = item.refs.now; feed = item.feed }

-- deliveries without their hash keys
abbrev pub delivered : List HashedDelivery → List Delivery
delivered items = map delivery_of items

-- each has the hash key of its reference list
abbrev pub AreHashed : Hashes → List HashedDelivery → Type 0
AreHashed hashes items = All (λ item. item.digest ≡ hashes.hash item.refs.now) items

-- what is missing in the raw table of a hub or a link: the missing key, or the list of missing keys
abbrev pub missing_in : Mapping → TableId → List Key
missing_in mapping (HubTable hub) = missing_refs mapping (Hub hub)
missing_in mapping (LinkTable link) = missing_refs mapping (Link link)
missing_in mapping (Sat feed) = []
missing_in mapping (Multi feed) = []
missing_in mapping (Status feed) = []
missing_in mapping (Effect feed) = []

-- what deliveries bring to their table, each with its hash key, and what is missing there; nothing where there are none
abbrev pub brought : Mapping → Hashes → List Delivery → List Hashed
brought mapping hashes [] = []
brought mapping hashes (item ∷ items) = map (hashed_by hashes) (missing_in mapping item.table ∷ item.refs ∷ map (λ other. other.refs) items)

-- two different reference lists with one hash key, the lesser one first
pub record IsClash (all : List Hashed) (pair : Pair) : Type 0 where
  pub digest : List ℕ
  pub has_first : Contains all (record { digest = digest; refs = pair.first })
  pub has_second : Contains all (record { digest = digest; refs = pair.second })
  pub ordered : refs_cmp pair.first pair.second ≡ Less

-- no two different reference lists have one hash key
abbrev pub HasNoClash : List Hashed → Type 0
HasNoClash all = (pair : Pair) → IsClash all pair → ⊥

-- the least of them: by the first list, then by the second
pub record IsLeastClash (all : List Hashed) (pair : Pair) : Type 0 where
  pub is : IsClash all pair
  pub least : (other : Pair) → IsClash all other → pair_cmp other pair ≡ Less → ⊥

-- what holds of the pair that is answered, where one is
abbrev pub IfCollides : {R : Type 0} → Result R DeltaFault → (Pair → Type 0) → Type 0
IfCollides (Ok rows) P = Unit {0}
IfCollides (Err (Collision first second)) P = P (record { first = first; second = second })
IfCollides (Err Memory) P = Unit {0}

-- the answer, but for want of memory: the rows where there is no collision, and else the collision
abbrev pub Answers : {R : Type 0} → Result (List R) DeltaFault → Option Pair → List R → Type 0
Answers (Ok made) collision rows = (collision ≡ None) × (made ≡ rows)
Answers (Err (Collision first second)) collision rows = collision ≡ Some (record { first = first; second = second })
Answers (Err Memory) collision rows = Unit {0}
