-- The items of a closed table's slots, marked and listed.
use Rattle.std.specs.Prelude.{◌≡◌, ◌≢◌, ℕ, ◌+◌, ◌-◌, ◌<◌, List, true, false, slice_index_or, Bool}
use Rattle.std.specs.List.{filter, range_with_len}
use Rattle.dv_board.specs.KeyRule.{word_at}

-- the items of the taken slots are below n
abbrev pub AreBelow : ℕ → List ℕ → Type 0
AreBelow n words = (slot : ℕ) → word_at words slot ≢ 0 → word_at words slot - 1 < n

-- the items of the first slots that are taken are marked, and no others
pub record AreMarked (words : List ℕ) (slots : ℕ) (marks : List Bool) : Type 0 where
  pub only : (a : ℕ) → slice_index_or marks a false ≡ true → (slot : ℕ) × (word_at words slot ≡ a + 1)
  pub each : (slot : ℕ) → slot < slots → word_at words slot ≢ 0 → slice_index_or marks (word_at words slot - 1) false ≡ true

-- the marked numbers below n, ascending
abbrev pub marked : List Bool → ℕ → List ℕ
marked marks n = filter (λ a. slice_index_or marks a false) (range_with_len 0 n)
