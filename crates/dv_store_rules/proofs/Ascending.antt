-- Numbers of which each is greater than the one before it ascend.
use Rattle.dv_store_rules.proofs.Vocabulary.{List, [], ap, arith, ascends, drop, drop_more, get_or, length, length-drop, list_all, nat_lt, nat_tests, refl, sym, true, ℕ, ◌+◌, ◌-◌, ◌<◌, ◌∙◌, ◌∷◌, ◌≡◌, ◌≤◌}

-- numbers above a lesser one
all_above : (low high : ℕ) (xs : List ℕ) → low < high → list_all (nat_lt high) xs ≡ true → list_all (nat_lt low) xs ≡ true
all_above low high [] less e = refl
all_above low high (x ∷ xs) less e = grind (arith, nat_tests, all_above low high xs)

pub next_ascends : (a b : ℕ) (xs : List ℕ) → a < b → ascends (a ∷ b ∷ xs) ≡ ascends (b ∷ xs)
next_ascends a b xs less = grind (arith, nat_tests, all_above a b xs less)

few_ascend : (xs : List ℕ) → length xs ≤ 1 → ascends xs ≡ true
few_ascend [] few = refl
few_ascend (x ∷ []) few = refl
few_ascend (x ∷ y ∷ xs) few = absurd (omega arith)

-- from a place on, behind which one more is looked at
from_two : (xs : List ℕ) (place d e : ℕ) → 1 ≤ place → place < length xs → drop (place - 1) xs ≡ get_or xs (place - 1) d ∷ get_or xs place e ∷ drop (place + 1) xs
from_two xs place d e some under =
    let next : place - 1 + 1 ≡ place = omega arith in
    drop_more xs (place - 1) d (omega arith) ∙ rw next (ap (λ rest. get_or xs (place - 1) d ∷ rest) (drop_more xs place e under))

from_one : (xs : List ℕ) (place e : ℕ) → 1 ≤ place → place < length xs → drop (place + 1 - 1) xs ≡ get_or xs place e ∷ drop (place + 1) xs
from_one xs place e some under = let same : place + 1 - 1 ≡ place = omega arith in rw same (drop_more xs place e under)

pub ascends_on : (xs : List ℕ) (place d e : ℕ) → 1 ≤ place → place < length xs → get_or xs (place - 1) d < get_or xs place e → ascends (drop (place + 1 - 1) xs) ≡ ascends (drop (place - 1) xs)
ascends_on xs place d e some under less = rw (from_two xs place d e some under, from_one xs place e some under) (sym (next_ascends (get_or xs (place - 1) d) (get_or xs place e) (drop (place + 1) xs) less))

pub ascends_whole : (xs : List ℕ) (place : ℕ) → length xs ≤ place → ascends (drop (place - 1) xs) ≡ true
ascends_whole xs place past = few_ascend (drop (place - 1) xs) (omega (arith, length-drop (place - 1) xs))
