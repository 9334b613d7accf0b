-- The items of a key table, of which some are the same.
use Rattle.std.specs.Prelude.{◌≡◌, ℕ, ◌+◌, ◌*◌, ◌%◌, ◌<◌, ◌≤◌, slice_index_or, length}
use Rattle.dv_board.specs.declared.views.Keys.{Keys}

-- the class of an item: the least item that is the same
abbrev pub class_of : Keys → ℕ → ℕ
class_of k a = slice_index_or k.classes a 0

-- the slot at which a probe for the item begins
abbrev pub home_of : Keys → ℕ → ℕ
home_of k a = slice_index_or k.homes a 0 % (2 * length k.classes + 1)

-- Two items are the same where they have one class, which is then the least item that is the same as they are; and items that are the same have one home.
pub record AreLawful (k : Keys) : Type 0 where
  pub as_long : length k.homes ≡ length k.classes
  pub least : (a : ℕ) → a < length k.classes → class_of k a ≤ a
  pub itself : (a : ℕ) → a < length k.classes → class_of k (class_of k a) ≡ class_of k a
  pub one_home : (a b : ℕ) → a < length k.classes → b < length k.classes → class_of k a ≡ class_of k b → slice_index_or k.homes a 0 ≡ slice_index_or k.homes b 0
