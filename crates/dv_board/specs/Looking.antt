-- What is looked at before some items are offered together, in arrays of 32.
use Rattle.std.specs.Prelude.{◌≡◌, ◌≢◌, ℕ, ◌+◌, ◌-◌, ◌*◌, ◌<◌, List, length, slice_index_or}
use Rattle.dv_board.specs.Items.{home_of}
use Rattle.dv_board.specs.declared.views.Keys.{Keys}

-- in the order of the items, the slots at which their probes begin
abbrev pub AreFirstSlots : Keys → List ℕ → List ℕ → Type 0
AreFirstSlots k items slots = (length slots ≡ 32) × ((place : ℕ) → place < length items → slice_index_or slots place 0 ≡ home_of k (slice_index_or items place 0))

-- the first ones are slots of the table
abbrev pub AreSlots : Keys → ℕ → List ℕ → Type 0
AreSlots k count slots = (length slots ≡ 32) × ((place : ℕ) → place < count → slice_index_or slots place 0 < 3 * length k.classes + 1)

-- each word is that of an empty slot or names an item
abbrev pub AreWords : Keys → List ℕ → Type 0
AreWords k words = (length words ≡ 32) × ((place : ℕ) → slice_index_or words place 0 ≢ 0 → slice_index_or words place 0 - 1 < length k.classes)
