-- The items of the tests: each has a tag, and items with one tag are the same.
use Rattle.std.specs.Prelude.{ℕ, ◌+◌, ◌/◌, List, [], ◌∷◌, map, cond, ◌==◌}
use Rattle.dv_board.specs.declared.views.Keys.{Keys}

-- the place of a tag's first item
abbrev pub first_at : ℕ → List ℕ → ℕ
first_at tag [] = 0
first_at tag (x ∷ xs) = cond (x == tag) 0 (first_at tag xs + 1)

abbrev pub keys_of : List ℕ → Keys
keys_of tags = record { classes = map (λ tag. first_at tag tags) tags; homes = map (λ tag. tag / 16) tags }
