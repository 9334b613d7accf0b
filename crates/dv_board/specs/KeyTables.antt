-- A key table and its seats, as contracts see them.
use Rattle.std.specs.Prelude.{◌≡◌, ℕ, ◌≤◌, List, Contains}
use Rattle.std.specs.Ordering.{nat_cmp}
use Rattle.std.specs.List.Sorted.{IsStrictlySortedBy}
use Rattle.std.specs.Coded.{Coded, coded×, code_by}
use Rattle.atomic_table.specs.Seated.{TableId, table_id_coded}
use mathlib.Core.Path.{refl}
use Rattle.dv_board.specs.Counting.{times}
use Rattle.dv_board.specs.Items.{class_of}
use Rattle.dv_board.specs.declared.views.Keys.{Keys}
use Rattle.dv_board.specs.declared.views.KeyView.{KeyView}

-- which table it is, and its items
pub record Keyed (I : Type 0) : Type 0 where
  pub table : TableId
  pub items : I

abbrev pub keyed_code : {I : Type 0} → Coded I → Coded (Keyed I)
keyed_code {I} items = code_by (TableId × I) (coded× table_id_coded items) (λ t. (t.table, t.items)) (λ p. record { table = p.0; items = p.1 }) (λ _. refl)

-- a seat: its table, what the items are, the items that it has offered, and its share of 64
pub record Offerer : Type 0 where
  pub table : TableId
  pub keys : Keys
  pub offers : List ℕ
  pub share : ℕ

-- the seat of a table that has this view
abbrev pub offerer_of : TableId → KeyView → Offerer
offerer_of table v = record {
  table = table;
  keys = record { classes = v.classes; homes = v.homes };
  offers = v.offers;
  share = v.share;
}

-- the seat is of this table
abbrev pub IsSeatOf : {I : Type 0} → (I → Keys) → Keyed I → Offerer → Type 0
IsSeatOf keys_of t s = (s.table ≡ t.table) × (s.keys ≡ keys_of t.items)

-- a was offered, and no lesser item that is the same was
pub record IsLeastOffered (k : Keys) (offers : List ℕ) (a : ℕ) : Type 0 where
  pub offered : 1 ≤ times a offers
  pub least : (b : ℕ) → 1 ≤ times b offers → class_of k b ≡ class_of k a → a ≤ b

-- The list has, ascending, for each class of offered items that are the same, the least offered one.
pub record AreLeastOffered (k : Keys) (offers : List ℕ) (items : List ℕ) : Type 0 where
  pub ascending : IsStrictlySortedBy nat_cmp items
  pub only : (a : ℕ) → Contains items a → IsLeastOffered k offers a
  pub each : (b : ℕ) → 1 ≤ times b offers → (a : ℕ) × Contains items a × (class_of k a ≡ class_of k b)
