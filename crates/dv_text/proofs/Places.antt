-- The place of the first item that passes a test.
use Rattle.dv_text.proofs.Vocabulary.{Bool, Contains, Contains-get_or, List, None, Option, Some, [], ap, cond, fails_before_first, false, false≢true, get_or_from_slice_get, is_some, length, list_any, lt-ltb, option_map, option_or, position, position-Some, position_or_len_is, refl, rules}
use Rattle.dv_text.proofs.Vocabulary.{same_Some, slice_get, slice_get-get_or, slice_get_within, suc, sym, true, ℕ, ◌++◌, ◌<◌, ◌∙◌, ◌∷◌, ◌≡◌}
use Rattle.dv_text.proofs.Passing.{none_pass, some_passes_at}

pub position-cons : {X : Type 0} (test : X → Bool) (x : X) (xs : List X) → position test (x ∷ xs) ≡ cond (test x) (Some 0) (option_map suc (position test xs))
position-cons test x xs = search (rules)

-- what holds of a first item that passes at place 0, and goes on holding one place further where one that fails comes before,
-- holds at each place that is found
pub by_place : {X : Type 0} (test : X → Bool) (P : List X → ℕ → Type 0) → ((x : X) (xs : List X) → test x ≡ true → P (x ∷ xs) 0)
    → ((x : X) (xs : List X) (n : ℕ) → test x ≡ false → P xs n → P (x ∷ xs) (suc n)) → (xs : List X) (n : ℕ) → position test xs ≡ Some n → P xs n
by_place test P here later [] n e = cc
by_place test P here later (x ∷ xs) n e = search (rules, position-cons, same_Some, by_place test P here later xs)

-- the item at the place
pub record IsFound {X : Type 0} (test : X → Bool) (xs : List X) (n : ℕ) : Type 0 where
  pub item : X
  pub there : slice_get xs n ≡ Some item
  pub passes : test item ≡ true
  pub member : Contains xs item

pub found_at : {X : Type 0} (test : X → Bool) (xs : List X) (n : ℕ) → position test xs ≡ Some n → IsFound test xs n
found_at test [] n e = cc
found_at test (x ∷ xs) n e = search (rules, position-Some, slice_get-get_or, Contains-get_or, position-Some test (x ∷ xs) n x e)

pub placed_within : {X : Type 0} (test : X → Bool) (xs : List X) (n : ℕ) → position test xs ≡ Some n → n < length xs
placed_within test xs n e = let found = found_at test xs n e in slice_get_within xs n found.item found.there

-- none passes where there is no place
pub none_placed : {X : Type 0} (test : X → Bool) (xs : List X) → position test xs ≡ None → (x : X) → Contains xs x → test x ≡ false
none_placed test xs e x (k, under, there) = search (rules, fails_before_first)

pub unplaced : {X : Type 0} (test : X → Bool) (xs : List X) → ((x : X) → Contains xs x → test x ≡ false) → position test xs ≡ None
unplaced test xs fails = by (position test xs) refl
  where
    by : (o : Option ℕ) → position test xs ≡ o → position test xs ≡ None
    by None e = e
    by (Some n) e = let found = found_at test xs n e in absurd (false≢true (sym (fails found.item found.member) ∙ found.passes))

pub is_placed : {X : Type 0} (test : X → Bool) (xs : List X) → is_some (position test xs) ≡ list_any test xs
is_placed test xs = by (position test xs) refl
  where
    by : (o : Option ℕ) → position test xs ≡ o → is_some (position test xs) ≡ list_any test xs
    by None e = ap is_some e ∙ sym (none_pass test xs (none_placed test xs e))
    by (Some n) e = let found = found_at test xs n e in ap is_some e ∙ sym (some_passes_at test xs found.item found.member found.passes)

-- a narrower test that the item at the place passes has the same place
pub placed_narrower : {X : Type 0} (wide narrow : X → Bool) → ((x : X) → wide x ≡ false → narrow x ≡ false) → (xs : List X) (n : ℕ) (x : X)
    → position wide xs ≡ Some n → slice_get xs n ≡ Some x → narrow x ≡ true → position narrow xs ≡ Some n
placed_narrower wide narrow within xs n x e at passes = search (rules, position-Some, position_or_len_is, get_or_from_slice_get, lt-ltb, position-Some wide xs n x e, get_or_from_slice_get xs n x x at)

-- one more item at the end
pub position-last : {X : Type 0} (test : X → Bool) (xs : List X) (x : X) → position test (xs ++ x ∷ []) ≡ option_or (position test xs) (cond (test x) (Some (length xs)) None)
position-last test [] x = position-cons test x []
position-last test (y ∷ xs) x = search (rules, position-cons, position-last test xs x)
