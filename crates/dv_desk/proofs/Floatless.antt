-- The windows as JSON have no float.
use Rattle.dv_desk.proofs.Vocabulary.{Data, List, Mapping, None, Option, Some, WindowHead, [], begun_data, false, feed_data, has_float, head_data, heads_data, items_have_float, items_of, map, refl, ℕ, ◌∷◌, ◌≡◌}

items_floatless : {A : Type 0} (data_of : A → Data) → ((x : A) → has_float (data_of x) ≡ false) → (xs : List A) → items_have_float (items_of (map data_of xs)) ≡ false
items_floatless data_of none [] = refl
items_floatless data_of none (x ∷ xs) = rw (none x) (items_floatless data_of none xs)

head_floatless : (mapping : Mapping) (head : WindowHead) → has_float (head_data mapping head) ≡ false
head_floatless mapping head = rw (items_floatless (feed_data mapping) (λ feed. refl) head.feeds) refl

begun_floatless : (begun : Option ℕ) → has_float (begun_data begun) ≡ false
begun_floatless None = refl
begun_floatless (Some load) = refl

pub heads_floatless : (mapping : Mapping) (sealed : List WindowHead) (begun : Option ℕ) → has_float (heads_data mapping sealed begun) ≡ false
heads_floatless mapping sealed begun = rw (begun_floatless begun) (rw (items_floatless (head_data mapping) (head_floatless mapping) sealed) refl)
