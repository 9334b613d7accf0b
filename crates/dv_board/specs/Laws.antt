-- What follows from the definitions.
use Rattle.std.specs.Prelude.{◌≡◌, ℕ, ◌≤◌, List}
use Rattle.dv_board.specs.Counting.{times}
use Rattle.dv_board.specs.KeyTables.{AreLeastOffered}
use Rattle.dv_board.specs.declared.views.Keys.{Keys}

-- each item of the one list of offers is in the other
abbrev pub HasEach : List ℕ → List ℕ → Type 0
HasEach offers others = (a : ℕ) → 1 ≤ times a others → 1 ≤ times a offers

-- However the same items were offered, in whatever order and how often, the least ones of each class are one list.
abbrev pub LeastIsOneList : Type 0
LeastIsOneList = (k : Keys) (offers others xs ys : List ℕ) → HasEach offers others → HasEach others offers → AreLeastOffered k offers xs → AreLeastOffered k others ys → xs ≡ ys
