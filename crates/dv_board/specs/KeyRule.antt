-- What holds of a key table's words, the slots, and of the views of its seats between any two steps.
-- A slot is 0, or an item plus 1, and is then taken by that item. A new table's only seat learns what the items are by a
-- load, the first step of all; from then on `Holds` is the rule.
use Rattle.std.specs.Prelude.{◌≡◌, ◌≢◌, ◌⊎◌, ℕ, ◌+◌, ◌-◌, ◌*◌, ◌<◌, ◌≤◌, List, [], ◌∷◌, ◌++◌, slice_index_or, length, replicate, Bool, true, false, cond, ◌==◌, ◌&&◌, nat_lt, nat_le}
use mathlib.Core.Option.{some}
use lib.ListN.{get_elem?}
use Rattle.atomic_table.specs.Table.{State, Me, Step}
use Rattle.dv_board.specs.Counting.{total, times}
use Rattle.dv_board.specs.Items.{class_of, home_of}
use Rattle.dv_board.specs.declared.views.Keys.{Keys}
use Rattle.dv_board.specs.declared.views.KeyView.{KeyView}

-- the share of the first seat
abbrev pub whole_share : ℕ
whole_share = 64

abbrev pub word_at : List ℕ → ℕ → ℕ
word_at words slot = slice_index_or words slot 0

-- the slots from one up to another are taken by items of other classes
abbrev pub AreOthers : Keys → List ℕ → ℕ → ℕ → ℕ → Type 0
AreOthers k words from to class = (slot : ℕ) → from ≤ slot → slot < to → (word_at words slot ≢ 0) × (class_of k (word_at words slot - 1) ≢ class)

-- the item is among some view's finished offers
abbrev pub IsOffered : List KeyView → ℕ → Type 0
IsOffered views a = (id : ℕ) × (v : KeyView) × (get_elem? views id ≡ some v) × (1 ≤ times a v.offers)

-- a slot is taken by an item that is the same and not greater
abbrev pub HasSlot : Keys → List ℕ → ℕ → Type 0
HasSlot k words a = (slot : ℕ) × (word_at words slot ≢ 0) × (class_of k (word_at words slot - 1) ≡ class_of k a) × (word_at words slot - 1 ≤ a)

-- the view of a seat that another has taken in: spent, with nothing left
abbrev pub nobody : KeyView
nobody = record { classes = []; homes = []; offers = []; is_probing = false; item = 0; passed = 0; has_met = false; share = 0; is_spent = true }

-- the view of the first seat: the whole share, and nothing offered
abbrev pub first_view : Keys → KeyView
first_view k = record { classes = k.classes; homes = k.homes; offers = []; is_probing = false; item = 0; passed = 0; has_met = false; share = whole_share; is_spent = false }

-- One view.
pub record Fits (k : Keys) (v : KeyView) : Type 0 where
  -- A spent view has nothing, since only a join spends a view, and it leaves nothing.
  pub spent : v.is_spent ≡ true → v ≡ nobody
  -- The classes and homes are the items' in each other view, since a split copies them and no step changes them.
  pub keys : v.is_spent ≡ false → (v.classes ≡ k.classes) × (v.homes ≡ k.homes)
  -- Its share is at least 1, since a split leaves something on both sides and a join only adds.
  pub some_share : v.is_spent ≡ false → 1 ≤ v.share

-- A taken slot, by its item.
pub record IsTaken (k : Keys) (s : State ℕ KeyView) (slot a : ℕ) : Type 0 where
  -- Its item is one of the table's, since only these are offered.
  pub item : a < length k.classes
  -- Its item is among some view's finished offers, since the step that puts an item into a slot finishes its offer, and no view loses an offer but to the view that takes it in.
  pub offered : IsOffered s.views a
  -- The slot isn't below the home of its item, since a probe begins at the home and goes upward, and an item is lowered only to one with the same home.
  pub past_home : home_of k a ≤ slot
  -- All slots from that home on that are below it are taken by items that aren't the same, since the probe that took the slot had passed them, and no step empties a slot or changes its class.
  pub passed : AreOthers k s.words (home_of k a) slot (class_of k a)

-- A probe that is under way.
pub record IsUnderWay (k : Keys) (words : List ℕ) (v : KeyView) : Type 0 where
  -- It is for one of the table's items, since only these are offered.
  pub item : v.item < length k.classes
  -- Each slot that it has passed is taken by an item that isn't the same as its own, since it passes a slot only where it found such an item, and no step empties a slot or changes its class.
  pub passed : AreOthers k words (home_of k v.item) (home_of k v.item + v.passed) (class_of k v.item)
  -- A met slot is taken by an item that is the same, since it was when it was met, and no step empties a slot or changes its class.
  pub met : v.has_met ≡ true → (word_at words (home_of k v.item + v.passed) ≢ 0) × (class_of k (word_at words (home_of k v.item + v.passed) - 1) ≡ class_of k v.item)

pub record Holds (k : Keys) (s : State ℕ KeyView) : Type 0 where
  -- There are 3 * count + 1 slots, and no step adds or takes one.
  pub sized : length s.words ≡ 3 * length k.classes + 1
  pub each : (id : ℕ) (v : KeyView) → get_elem? s.views id ≡ some v → Fits k v
  pub taken : (slot : ℕ) → word_at s.words slot ≢ 0 → IsTaken k s slot (word_at s.words slot - 1)
  -- Each finished offer has a slot whose item is the same and not greater, since the step that finishes an offer puts its item into a slot, lowers a slot of its class to it or sees such a slot, and no step raises an item.
  pub finished : (id : ℕ) (v : KeyView) → get_elem? s.views id ≡ some v → (a : ℕ) → 1 ≤ times a v.offers → HasSlot k s.words a
  pub probing : (id : ℕ) (v : KeyView) → get_elem? s.views id ≡ some v → v.is_probing ≡ true → IsUnderWay k s.words v
  -- The shares sum to the first seat's, since a split cuts a share in two and a join adds two.
  pub shares : total (λ v. v.share) s.views ≡ whole_share

-- the view of a new table's seat, which knows nothing yet and has no share
abbrev pub fresh_view : KeyView
fresh_view = record { classes = []; homes = []; offers = []; is_probing = false; item = 0; passed = 0; has_met = false; share = 0; is_spent = false }

-- A table of so many words: it is new, with one seat and empty slots, until the seat's first load; or the rule holds for what its seats know of the items, which no step changes.
abbrev pub IsKept : ℕ → State ℕ KeyView → Type 0
IsKept size s = ((s.words ≡ replicate size 0) × (s.views ≡ fresh_view ∷ [])) ⊎ ((k : Keys) × Holds k s)

-- the first load, which tells the seat what the items are
abbrev pub Begun : Keys → Step ℕ → Me ℕ KeyView → ℕ → Me ℕ KeyView → Type 0
Begun k _ me _ after = after ≡ (first_view k, me.1)

-- the offer that is under way is finished
abbrev pub offered : KeyView → KeyView
offered v = record v { offers = v.offers ++ v.item ∷ []; is_probing = false; has_met = false }

-- the probe that is under way, or a new one for the item
abbrev pub begun : KeyView → ℕ → KeyView
begun v a = cond v.is_probing v (record v { is_probing = true; item = a; passed = 0; has_met = false })

-- a look that found n saw the slot taken by an item that is the same as a and not greater, so the offer of a needs no more
abbrev pub is_settled_by : KeyView → ℕ → ℕ → Bool
is_settled_by v a n = nat_lt 0 n && nat_le (n - 1) a && (slice_index_or v.classes (n - 1) 0 == slice_index_or v.classes a 0)

-- What a look for the item a that found n tells: the view after it, in which the offer is finished where it is settled by n, and that n names an item.
abbrev pub Looked : ℕ → Step ℕ → Me ℕ KeyView → ℕ → Me ℕ KeyView → Type 0
Looked a _ me n after = (after ≡ (cond (is_settled_by me.0 a n) (offered (begun me.0 a)) me.0, me.1)) × (n ≢ 0 → n - 1 < length me.0.classes)

-- What a look that found n tells where it finishes nothing: the view stays, and n names an item.
abbrev pub Peeked : Step ℕ → Me ℕ KeyView → ℕ → Me ℕ KeyView → Type 0
Peeked _ me n after = (after ≡ me) × (n ≢ 0 → n - 1 < length me.0.classes)

-- an exchange that found n: it took the empty slot, or met an item that is the same, or passes the slot
abbrev pub met_by : KeyView → ℕ → KeyView
met_by v n = cond (n == 0) (offered v) (cond (slice_index_or v.classes (n - 1) 0 == slice_index_or v.classes v.item 0) (record v { has_met = true }) (record v { passed = v.passed + 1 }))

-- What an exchange for the item a that found n tells: the view after it, that n names an item, and that a probe which passes the slot has passed fewer slots than there are items.
abbrev pub Tells : KeyView → ℕ → List (ℕ × ℕ) → ℕ → Me ℕ KeyView → Type 0
Tells v a carried n after = (after ≡ (met_by (begun v a) n, carried)) × (n ≢ 0 → n - 1 < length v.classes)
    × (n ≢ 0 → slice_index_or v.classes (n - 1) 0 ≢ slice_index_or v.classes (begun v a).item 0 → (begun v a).passed + 1 < length v.classes)

abbrev pub Met : Step ℕ → Me ℕ KeyView → ℕ → Me ℕ KeyView → Type 0
Met st me n after = Tells me.0 (st.second - 1) me.1 n after

-- a `fetch_min` on the slot that was met finishes the offer
abbrev pub Lowered : Step ℕ → Me ℕ KeyView → ℕ → Me ℕ KeyView → Type 0
Lowered st me n after = after ≡ (offered me.0, me.1)

-- a split: what the seat keeps
abbrev pub less : ℕ → KeyView → KeyView
less part v = record v { share = v.share - part }

-- and what the new seat has
abbrev pub portion : ℕ → KeyView → KeyView
portion part v = record v { offers = []; share = part }

-- a join: what the seat that stays has
abbrev pub both_of : KeyView → KeyView → KeyView
both_of v w = record v { offers = v.offers ++ w.offers; share = v.share + w.share }
