-- The first answer: among tests in order, and along a list.
use Rattle.std.specs.Prelude.{List, [], ◌∷◌, ◌++◌, Option, None}
use Rattle.std.specs.Option.{option_or}

-- the first answer among tests, in their order
abbrev pub first_of : {R : Type 0} → List (Option R) → Option R
first_of [] = None
first_of (test ∷ tests) = option_or test (first_of tests)

-- the first answer along a list, of a test that sees the items before each; `before` stand before the list
abbrev pub first_along : {X R : Type 0} → (List X → X → Option R) → List X → List X → Option R
first_along test before [] = None
first_along test before (x ∷ xs) = option_or (test before x) (first_along test (before ++ x ∷ []) xs)
