-- Items of a list that stand beside one another and pass a test of two.
use Rattle.std.specs.Prelude.{Bool, List, [], ◌∷◌, Option, Some, None, if◌then◌else◌}

-- the first item that passes the test with the next one
abbrev pub first_neighbour : {X : Type 0} → (X → X → Bool) → List X → Option X
first_neighbour test [] = None
first_neighbour test (x ∷ []) = None
first_neighbour test (x ∷ y ∷ rest) = if test x y then Some x else first_neighbour test (y ∷ rest)
