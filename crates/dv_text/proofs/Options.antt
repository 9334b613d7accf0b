-- What is in an option, and what a list has at a place.
use Rattle.dv_text.proofs.Vocabulary.{Contains, List, None, Option, Some, [], ap, arith, drop, drop_more, get_or_from_slice_get, inl, inr, is_none, length, option_map, option_or, refl, rules, slice_get, slice_get_cases, slice_get_within, sym, take, take_more, true, ℕ, ◌++◌, ◌+◌, ◌<◌, ◌∙◌, ◌∷◌}
use Rattle.dv_text.proofs.Vocabulary.{◌≡◌, ◌≤◌}

pub none_from : {X : Type 0} (o : Option X) → is_none o ≡ true → o ≡ None
none_from o h1 = search (rules)

-- what two readings of one option give is one value
pub one_value : {X : Type 0} (o : Option X) (a b : X) → o ≡ Some a → o ≡ Some b → a ≡ b
one_value o a b e f = let both : Some a ≡ Some b = sym e ∙ f in cc

pub option_or-none : {X : Type 0} (o : Option X) → option_or o None ≡ o
option_or-none None = refl
option_or-none (Some x) = refl

pub or_none : {X : Type 0} (a b : Option X) → option_or a b ≡ None → (a ≡ None) × (b ≡ None)
or_none a b h1 = search (rules)

pub none_before_map : {X Y : Type 0} (f : X → Y) (o : Option X) → option_map f o ≡ None → o ≡ None
none_before_map f o h1 = search (rules)

-- what a mapped option has is made of what the option has
pub made_of : {X Y : Type 0} (f : X → Y) (o : Option X) (y : Y) → option_map f o ≡ Some y → (x : X) × (o ≡ Some x) × (f x ≡ y)
made_of f o y h1 = search (rules)

-- ---- what a place has

pub got_member : {X : Type 0} (xs : List X) (n : ℕ) (x : X) → slice_get xs n ≡ Some x → Contains xs x
got_member xs n x e = (n, slice_get_within xs n x e, get_or_from_slice_get xs n x x e)

pub got_from : {X : Type 0} (xs : List X) (n : ℕ) → n < length xs → (x : X) × (slice_get xs n ≡ Some x)
got_from xs n under = elim (slice_get_cases xs n).1 [ inl (x, within, got, is) ↦ (x, got) | inr (past, none) ↦ absurd (omega (arith, past, under)) ]

pub none_behind : {X : Type 0} (xs : List X) (n : ℕ) → slice_get xs n ≡ None → length xs ≤ n
none_behind xs n e = elim (slice_get_cases xs n).1 [ inl (x, within, got, is) ↦ let no : Some x ≡ None = sym got ∙ e in cc | inr (past, none) ↦ past ]

-- the items from a place on, and those up to it
pub drop_got : {X : Type 0} (xs : List X) (n : ℕ) (x : X) → slice_get xs n ≡ Some x → drop n xs ≡ x ∷ drop (n + 1) xs
drop_got xs n x e = drop_more xs n x (slice_get_within xs n x e) ∙ ap (λ y. y ∷ drop (n + 1) xs) (get_or_from_slice_get xs n x x e)

pub take_got : {X : Type 0} (xs : List X) (n : ℕ) (x : X) → slice_get xs n ≡ Some x → take (n + 1) xs ≡ take n xs ++ x ∷ []
take_got xs n x e = take_more xs n x (slice_get_within xs n x e) ∙ ap (λ y. take n xs ++ y ∷ []) (get_or_from_slice_get xs n x x e)
