-- Words that hold a name or a value behind a front.
use Rattle.std.specs.List.{starts_with}
use Rattle.std.specs.Prelude.{ℕ, List, Option, Some, None, drop, length, nat_eq, if◌then◌else◌}

-- what stands behind a front in a word
abbrev pub behind : List ℕ → List ℕ → Option (List ℕ)
behind front word = if starts_with nat_eq word front then Some (drop (length front) word) else None
