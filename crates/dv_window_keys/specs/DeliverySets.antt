-- The deliveries of a window to a hub or a link, in any order.
use Rattle.std.specs.Prelude.{◌≡◌, ℕ, List, Some, Contains, slice_get}
use Rattle.dv_text.specs.declared.rows.Key.{Key}
use Rattle.dv_text.specs.declared.rows.Window.{Window}
use Rattle.dv_catalog.specs.declared.entries.Parent.{Parent}
use Rattle.dv_catalog.specs.Entries.{Mapping}
use Rattle.dv_records.specs.declared.deliveries.Delivery.{Delivery}
use Rattle.dv_records.specs.Deliveries.{first_offer}

-- each delivery is that of the first feed that brings its reference list, no list that is brought is missing, and none
-- stands twice
pub record AreDeliveriesOf (mapping : Mapping) (parent : Parent) (window : Window) (items : List Delivery) : Type 0 where
  pub first : (item : Delivery) → Contains items item → first_offer mapping parent window item.refs ≡ Some item
  pub whole : (refs : List Key) (item : Delivery) → first_offer mapping parent window refs ≡ Some item → Contains items item
  pub once : (i j : ℕ) (a b : Delivery) → slice_get items i ≡ Some a → slice_get items j ≡ Some b → a.refs ≡ b.refs → i ≡ j
