-- The feeds of a window's extracts.
use Rattle.dv_window_rules.proofs.Vocabulary.{AllByRecursion, Bool, IsAllAdjacentAnswer, IsStrictlySortedBy, Less, List, Ordering, Staged, [], and_from, and_parts, arith, ascends, is_lt, list_all, map, nat_cmp, nat_cmp_total, nat_lt, nat_tests, on_total, refl, same_answer, true, ℕ, ◌∷◌, ◌≡◌}
use Rattle.dv_window_rules.proofs.RowOrders.{up_answer}

abbrev feed_cmp : Staged → Staged → Ordering
feed_cmp a b = nat_cmp a.feed b.feed

abbrev feeds_of : List Staged → List ℕ
feeds_of extracts = map (λ staged. staged.feed) extracts

less_is : (a b : ℕ) → nat_cmp a b ≡ Less → nat_lt a b ≡ true
less_is a b e = grind (arith, nat_tests)

is_less : (a b : ℕ) → nat_lt a b ≡ true → nat_cmp a b ≡ Less
is_less a b e = grind (arith, nat_tests)

all_less : (n : ℕ) (extracts : List Staged) → AllByRecursion (λ staged. nat_cmp n staged.feed ≡ Less) extracts → list_all (nat_lt n) (feeds_of extracts) ≡ true
all_less n [] all = refl
all_less n (staged ∷ extracts) all = and_from (nat_lt n staged.feed) (list_all (nat_lt n) (feeds_of extracts)) (less_is n staged.feed all.0) (all_less n extracts all.1)

less_all : (n : ℕ) (extracts : List Staged) → list_all (nat_lt n) (feeds_of extracts) ≡ true → AllByRecursion (λ staged. nat_cmp n staged.feed ≡ Less) extracts
less_all n [] e = tt
less_all n (staged ∷ extracts) e =
    let (here, rest) = and_parts (nat_lt n staged.feed) (list_all (nat_lt n) (feeds_of extracts)) e in
    (is_less n staged.feed here, less_all n extracts rest)

up_ascends : (extracts : List Staged) → IsStrictlySortedBy feed_cmp extracts → ascends (feeds_of extracts) ≡ true
unfolding IsStrictlySortedBy
up_ascends [] up = refl
up_ascends (staged ∷ extracts) up = and_from (list_all (nat_lt staged.feed) (feeds_of extracts)) (ascends (feeds_of extracts)) (all_less staged.feed extracts up.0) (up_ascends extracts up.1)

ascends_up : (extracts : List Staged) → ascends (feeds_of extracts) ≡ true → IsStrictlySortedBy feed_cmp extracts
unfolding IsStrictlySortedBy
ascends_up [] e = tt
ascends_up (staged ∷ extracts) e =
    let (here, rest) = and_parts (list_all (nat_lt staged.feed) (feeds_of extracts)) (ascends (feeds_of extracts)) e in
    (less_all staged.feed extracts here, ascends_up extracts rest)

pub feeds_told : (extracts : List Staged) (r : Bool) → IsAllAdjacentAnswer (λ x y b. b ≡ is_lt (feed_cmp x y)) extracts r → r ≡ ascends (feeds_of extracts)
feeds_told extracts r all =
    let answer = up_answer (on_total (λ (staged : Staged). staged.feed) nat_cmp_total) extracts r all in
    same_answer r (ascends (feeds_of extracts)) (λ e. up_ascends extracts (answer.0 e)) (λ e. answer.1 (ascends_up extracts e))
