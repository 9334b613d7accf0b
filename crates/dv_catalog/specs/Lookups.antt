-- Look-ups by name, and what stands twice in a list.
use Rattle.std.specs.Prelude.{ℕ, Bool, List, [], Option, Some, None, if◌then◌else◌, nat_eq}
use Rattle.std.specs.List.{list_any}
use Rattle.std.specs.Str.{bytes_eq}
use Rattle.dv_catalog.specs.FirstOf.{first_along}

-- whether a text is among texts
abbrev pub is_among : List (List ℕ) → List ℕ → Bool
is_among texts text = list_any (λ t. bytes_eq t text) texts

-- an item, where it stands among those before it
abbrev pub again : {X : Type 0} → (X → X → Bool) → List X → X → Option X
again eq before x = if list_any (λ y. eq y x) before then Some x else None

-- the first item that stands earlier: in the list, or among those before it
abbrev pub again_after : {X : Type 0} → (X → X → Bool) → List X → List X → Option X
again_after eq before xs = first_along (again eq) before xs

-- the first text that stands earlier in the list
abbrev pub text_twice : List (List ℕ) → Option (List ℕ)
text_twice texts = again_after bytes_eq [] texts

-- the first number that stands earlier in the list
abbrev pub number_twice : List ℕ → Option ℕ
number_twice numbers = again_after nat_eq [] numbers
