-- The rule of records is that of the least record that breaks one.
use Rattle.dv_shown.proofs.Vocabulary.{FeedDef, IsAtLeast, List, None, Option, Some, [], ap, append-nil, append_assoc, arith, cases_lt, first_of, length, length-append, length_push, map, map-append, option_and_then, option_or, record_rule, records_rule, refl, row_of, rule_at, rules, slice_get}
use Rattle.dv_shown.proofs.Vocabulary.{subst, suc, take, zero, ℕ, ◌++◌, ◌+◌, ◌<◌, ◌∷◌, ◌≡◌, ◌≤◌}

-- the same from a place on
abbrev LeastFrom : {R : Type 0} → (ℕ → Option R) → ℕ → ℕ → Option R → Type 0
LeastFrom at n count None = (i : ℕ) → n ≤ i → i < count → at i ≡ None
LeastFrom at n count (Some answer) = (i : ℕ) × (n ≤ i) × (i < count) × (at i ≡ Some answer) × ((j : ℕ) → n ≤ j → j < i → at j ≡ None)

from_start : {R : Type 0} (at : ℕ → Option R) (count : ℕ) (o : Option R) → LeastFrom at 0 count o → IsAtLeast at count o
from_start at count o h1 = search (rules)

-- one place more at the front
one_more : {R : Type 0} (at : ℕ → Option R) (n count : ℕ) → n < count → (o : Option R) → at n ≡ o → (later : Option R) → LeastFrom at (n + 1) count later → LeastFrom at n count (option_or o later)
one_more at n count h1 o h2 later h3 = search (rules, cases_lt)

-- what stands behind a list that is known
at_end : {X : Type 0} (before : List X) (x : X) (more : List X) → slice_get (before ++ x ∷ more) (length before) ≡ Some x
at_end [] x more = refl
at_end (b ∷ before) x more = at_end before x more

take_end : {X : Type 0} (before more : List X) → take (length before) (before ++ more) ≡ before
take_end [] more = refl
take_end (b ∷ before) more = ap (λ xs. b ∷ xs) (take_end before more)

within : {X : Type 0} (before more : List X) → 0 < length more → length before < length (before ++ more)
within before more some = rw (length-append before more) (omega (arith, some))

module _ (feed : FeedDef) (names : List (List ℕ)) (room : ℕ) where
  least_from : (before records : List (List (List ℕ)))
      → LeastFrom (rule_at feed names room (before ++ records)) (length before) (length (before ++ records)) (records_rule feed names room (length before + 1) (map (row_of feed names) before) records)
  least_from before [] = λ i low under. absurd (omega (arith, low, subst (λ (xs : List (List (List ℕ))). i < length xs) (append-nil before) under))
  least_from before (fields ∷ records) =
      let next = least_from (before ++ fields ∷ []) records in
      one_more (rule_at feed names room (before ++ fields ∷ records)) (length before) (length (before ++ fields ∷ records)) (within before (fields ∷ records) (omega arith))
      (record_rule feed names room (length before + 1) (map (row_of feed names) before) fields)
      (rw (at_end before fields records, take_end before (fields ∷ records)) refl)
      _
      (rw (append_assoc before (fields ∷ []) records, length_push before fields, map-append (row_of feed names) before (fields ∷ [])) at next)

pub least_record : (feed : FeedDef) (names : List (List ℕ)) (room : ℕ) (records : List (List (List ℕ)))
    → IsAtLeast (rule_at feed names room records) (length records) (records_rule feed names room 1 [] records)
least_record feed names room records = from_start (rule_at feed names room records) (length records) _ (least_from feed names room [] records)

-- the answer of tests in order
abbrev test_at : {R : Type 0} → List (Option R) → ℕ → Option R
test_at tests i = option_and_then (λ test. test) (slice_get tests i)

pub least_test : {R : Type 0} (tests : List (Option R)) → IsAtLeast (test_at tests) (length tests) (first_of tests)
least_test [] = λ i under. absurd (omega (arith, under))
least_test (Some answer ∷ tests) = (0, omega arith, refl, λ j below. absurd (omega (arith, below)))
least_test {R} (None ∷ tests) = by (first_of tests) (least_test tests)
  where
    behind : (count : ℕ) → ((i : ℕ) → i < count → test_at tests i ≡ None) → (i : ℕ) → i < suc count → test_at (None ∷ tests) i ≡ None
    behind count none zero under = refl
    behind count none (suc i) under = none i (omega (arith, under))

    by : (o : Option R) → IsAtLeast (test_at tests) (length tests) o → IsAtLeast (test_at (None ∷ tests)) (suc (length tests)) o
    by None none = behind (length tests) none
    by (Some answer) (i, under, is, none) = (suc i, omega (arith, under), is, λ j below. behind i none j (omega (arith, below)))
