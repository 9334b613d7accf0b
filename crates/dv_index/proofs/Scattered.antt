-- Answers that are written to their places in any order.
use Rattle.dv_index.proofs.Vocabulary.{Contains, Contains-append_cases, Contains-cons_cases, Contains-nil, Contains-permutation, Contains-range, Entry, IsPermutation, IsPermutation-sym, List, [], ap, arith, cases_eq, ext_get_or, get_or, get_or-map, get_or-range_with_len, get_or-set_other}
use Rattle.dv_index.proofs.Vocabulary.{get_or-set_same, get_or_default, inl, inr, length, length-map, length-range_with_len, length-set, map, numbers_of, range_with_len, refl, set, sym, take, take_more, ℕ, ◌++◌, ◌+◌, ◌<◌, ◌∙◌, ◌∷◌, ◌≡◌, ◌⊎◌}

module _ {X Y A : Type 0} (value : Y → A) (answer : X → A) (xs : List X) where
  -- the answer stands at each of these places
  pub record AreAnswered (places : List ℕ) (ys : List Y) : Type 0 where
    pub long : length ys ≡ length xs
    pub told : (i : ℕ) (x : X) (y : Y) → Contains places i → i < length xs → value (get_or ys i y) ≡ answer (get_or xs i x)

  last_or_before : (places : List ℕ) (place i : ℕ) → Contains (places ++ place ∷ []) i → Contains places i ⊎ (i ≡ place)
  last_or_before places place i has =
      elim (Contains-append_cases places (place ∷ []) i has) [
        | inl before ↦ inl before
        | inr last ↦ elim (Contains-cons_cases place [] i last) [ inl same ↦ inr (sym same) | inr none ↦ Contains-nil i none ]
      ]

  -- one answer more
  pub one_answered : (places : List ℕ) (ys : List Y) (place : ℕ) (x : X) (y : Y) → AreAnswered places ys → place < length xs → get_or xs place x ≡ x → value y ≡ answer x
      → AreAnswered (places ++ place ∷ []) (set ys place y)
  one_answered places ys place x y so_far within here is = record {
    long = length-set ys place y ∙ so_far.long;
    told = λ i x' y' has under. elim (cases_eq i place) [
      | inl same ↦
          ap value (ap (λ j. get_or (set ys place y) j y') same ∙ get_or-set_same ys place y y' (omega (arith, within, so_far.long)))
          ∙ is ∙ ap answer (sym here ∙ get_or_default xs place x x' within ∙ ap (λ j. get_or xs j x') (sym same))
      | inr other ↦
          ap value (get_or-set_other ys place i y y' other)
          ∙ elim (last_or_before places place i has) [ inl before ↦ so_far.told i x' y' before under | inr last ↦ absurd (other last) ]
    ];
  }

-- where each place was asked, all stand in their order
pub all_answered : {X Y A : Type 0} (value : Y → A) (answer : X → A) (xs : List X) (places : List ℕ) (ys : List Y) → IsPermutation (range_with_len 0 (length xs)) places → AreAnswered value answer xs places ys
    → map value ys ≡ map answer xs
all_answered value answer [] places [] each answered = refl
all_answered value answer [] places (y ∷ ys) each answered = absurd (omega (arith, answered.long))
all_answered value answer (x ∷ xs) places [] each answered = absurd (omega (arith, answered.long))
all_answered {X} {Y} {A} value answer (x ∷ xs) places (y ∷ ys) each answered =
    ext_get_or (answer x) (map value (y ∷ ys)) (map answer (x ∷ xs)) (length-map (y ∷ ys) value ∙ answered.long ∙ sym (length-map (x ∷ xs) answer)) at
  where
    at : (i : ℕ) → i < length (map value (y ∷ ys)) → get_or (map value (y ∷ ys)) i (answer x) ≡ get_or (map answer (x ∷ xs)) i (answer x)
    at i under =
        let within : i < length (x ∷ xs) = omega (arith, under, length-map (y ∷ ys) value, answered.long) in
        get_or-map value (y ∷ ys) i y (answer x) (omega (arith, within, answered.long))
        ∙ answered.told i x y (Contains-permutation (range_with_len 0 (length (x ∷ xs))) places i each (Contains-range (length (x ∷ xs)) i within)) within
        ∙ sym (get_or-map answer (x ∷ xs) i x (answer x) within)

-- a place is one of a parent
pub placed_within : (n : ℕ) (places : List ℕ) → IsPermutation (range_with_len 0 n) places → (i : ℕ) → Contains places i → i < n
placed_within n places each i has =
    let (k, under, at) = Contains-permutation places (range_with_len 0 n) i (IsPermutation-sym (range_with_len 0 n) places each) has in
    omega (arith, under, length-range_with_len 0 n, at, get_or-range_with_len 0 n k i (omega (arith, under, length-range_with_len 0 n)))

-- the entries of the places of parents, in any order
module _ (n : ℕ) (asked : List Entry) (each : IsPermutation (range_with_len 0 n) (numbers_of asked)) (i : ℕ) (under : i < length asked) (none : Entry) where
  long : length (numbers_of asked) ≡ length asked
  long = length-map asked (λ (entry : Entry). entry.number)

  number_at : (d : ℕ) → get_or (numbers_of asked) i d ≡ (get_or asked i none).number
  number_at d = get_or-map (λ (entry : Entry). entry.number) asked i none d under

  -- each is that of a parent
  pub asked_within : (get_or asked i none).number < n
  asked_within = let place = (get_or asked i none).number in placed_within n (numbers_of asked) each place (i, omega (arith, long, under), number_at place)

  -- one more place is asked
  pub asked_more : take (i + 1) (numbers_of asked) ≡ take i (numbers_of asked) ++ (get_or asked i none).number ∷ []
  asked_more =
      let place = (get_or asked i none).number in
      take_more (numbers_of asked) i place (omega (arith, long, under)) ∙ ap (λ n. take i (numbers_of asked) ++ n ∷ []) (number_at place)
