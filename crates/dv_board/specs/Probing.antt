-- A seat within an offer, from slot to slot.
use Rattle.std.specs.Prelude.{◌≡◌, ℕ, [], ◌∷◌, ◌++◌, false}
use Rattle.dv_board.specs.declared.views.KeyView.{KeyView}
use Rattle.dv_board.specs.KeyRule.{begun}

-- its probe for the item has passed so many slots, and has met no item that is the same; before the first slot no probe is under way
pub record IsProbing (before : KeyView) (a passed : ℕ) (v : KeyView) : Type 0 where
  pub live : v.is_spent ≡ false
  pub classes : v.classes ≡ before.classes
  pub homes : v.homes ≡ before.homes
  pub offers : v.offers ≡ before.offers
  pub share : v.share ≡ before.share
  pub item : (begun v a).item ≡ a
  pub so_far : (begun v a).passed ≡ passed
  pub fresh : (begun v a).has_met ≡ false

-- it has finished the offer of the item
pub record HasOffered (before : KeyView) (a : ℕ) (v : KeyView) : Type 0 where
  pub live : v.is_spent ≡ false
  pub classes : v.classes ≡ before.classes
  pub homes : v.homes ≡ before.homes
  pub offers : v.offers ≡ before.offers ++ a ∷ []
  pub share : v.share ≡ before.share
  pub idle : v.is_probing ≡ false
