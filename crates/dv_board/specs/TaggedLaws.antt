-- Items that have one tag are the same.
use Rattle.std.proofs.Common.{◌≡◌, ℕ, zero, suc, ◌+◌, ◌/◌, ◌<◌, ◌≤◌, cond, List, [], ◌∷◌, map, length, get_or, refl, sym, ap, ◌∙◌, ⊎_elim, arith, eq-eqb, ne_eqb}
use Rattle.std.specs.Prelude.{◌==◌}
use Rattle.std.proofs.lemmas.Bool.{cases_eq}
use Rattle.dv_board.specs.Items.{class_of, AreLawful}
use Rattle.dv_board.specs.TaggedItems.{first_at, keys_of}

length_of : (f : ℕ → ℕ) (xs : List ℕ) → length (map f xs) ≡ length xs
length_of f [] = refl
length_of f (x ∷ xs) = ap suc (length_of f xs)

at_map : (f : ℕ → ℕ) (xs : List ℕ) (i : ℕ) → i < length xs → get_or (map f xs) i 0 ≡ f (get_or xs i 0)
at_map f [] i lt = absurd (omega (arith, lt))
at_map f (x ∷ xs) zero lt = refl
at_map f (x ∷ xs) (suc i) lt = at_map f xs i (omega (arith, lt))

first_le : (tags : List ℕ) (i : ℕ) → i < length tags → first_at (get_or tags i 0) tags ≤ i
first_le [] i lt = absurd (omega (arith, lt))
first_le (x ∷ xs) zero lt = let e = ap (λ b. cond b 0 (first_at x xs + 1)) (eq-eqb x x refl) in omega (arith, e)
first_le (x ∷ xs) (suc i) lt =
    let tag = get_or xs i 0 in
    let rest = first_le xs i (omega (arith, lt)) in
    ⊎_elim
    (λ (same : x ≡ tag). let e = ap (λ b. cond b 0 (first_at tag xs + 1)) (eq-eqb x tag same) in omega (arith, e))
    (λ (apart : x ≡ tag → ⊥). let e = ap (λ b. cond b 0 (first_at tag xs + 1)) (ne_eqb x tag apart) in omega (arith, e, rest))
    (cases_eq x tag)

first_has : (tags : List ℕ) (i : ℕ) → i < length tags → get_or tags (first_at (get_or tags i 0) tags) 0 ≡ get_or tags i 0
first_has [] i lt = absurd (omega (arith, lt))
first_has (x ∷ xs) zero lt = ap (λ b. get_or (x ∷ xs) (cond b 0 (first_at x xs + 1)) 0) (eq-eqb x x refl)
first_has (x ∷ xs) (suc i) lt =
    let tag = get_or xs i 0 in
    let rest = first_has xs i (omega (arith, lt)) in
    ⊎_elim
    (λ (same : x ≡ tag). ap (λ b. get_or (x ∷ xs) (cond b 0 (first_at tag xs + 1)) 0) (eq-eqb x tag same) ∙ same)
    (λ (apart : x ≡ tag → ⊥). let up : first_at tag xs + 1 ≡ suc (first_at tag xs) = omega arith in ap (λ b. get_or (x ∷ xs) (cond b 0 (first_at tag xs + 1)) 0) (ne_eqb x tag apart) ∙ (ap (λ n. get_or (x ∷ xs) n 0) up ∙ rest))
    (cases_eq x tag)

pub class_is : (tags : List ℕ) (a : ℕ) → a < length tags → class_of (keys_of tags) a ≡ first_at (get_or tags a 0) tags
class_is tags a lt = at_map (λ tag. first_at tag tags) tags a lt

one_tag : (tags : List ℕ) (a b : ℕ) → a < length tags → b < length tags → class_of (keys_of tags) a ≡ class_of (keys_of tags) b → get_or tags a 0 ≡ get_or tags b 0
one_tag tags a b lt_a lt_b same =
    sym (first_has tags a lt_a) ∙ (ap (λ n. get_or tags n 0) (sym (class_is tags a lt_a) ∙ (same ∙ class_is tags b lt_b)) ∙ first_has tags b lt_b)

-- two items have one class just where they have one tag
pub same_tags : (tags : List ℕ) (a b : ℕ) → a < length tags → b < length tags → (get_or tags a 0 == get_or tags b 0) ≡ (class_of (keys_of tags) a == class_of (keys_of tags) b)
same_tags tags a b lt_a lt_b =
    ⊎_elim
    (λ (same : get_or tags a 0 ≡ get_or tags b 0).
    let classes : class_of (keys_of tags) a ≡ class_of (keys_of tags) b = class_is tags a lt_a ∙ (ap (λ tag. first_at tag tags) same ∙ sym (class_is tags b lt_b)) in
    eq-eqb _ _ same ∙ sym (eq-eqb _ _ classes))
    (λ (apart : get_or tags a 0 ≡ get_or tags b 0 → ⊥).
    ne_eqb _ _ apart ∙ sym (ne_eqb _ _ (λ e. apart (one_tag tags a b lt_a lt_b e))))
    (cases_eq (get_or tags a 0) (get_or tags b 0))

pub keys_of_lawful : (tags : List ℕ) → AreLawful (keys_of tags)
keys_of_lawful tags =
    let size : length (keys_of tags).classes ≡ length tags = length_of (λ tag. first_at tag tags) tags in
    let inside : (a : ℕ) → a < length (keys_of tags).classes → a < length tags = λ a lt. omega (arith, lt, size) in
    let home : (a : ℕ) → a < length tags → get_or (keys_of tags).homes a 0 ≡ get_or tags a 0 / 16 = λ a lt. at_map (λ tag. tag / 16) tags a lt in record {
      as_long = length_of (λ tag. tag / 16) tags ∙ sym size;
      least = λ a lt. let e = class_is tags a (inside a lt) in let le = first_le tags a (inside a lt) in omega (arith, e, le);
      itself = λ a lt.
          let e = class_is tags a (inside a lt) in
          let le = first_le tags a (inside a lt) in
          let first : class_of (keys_of tags) a < length tags = (let in_tags = inside a lt in omega (arith, e, le, in_tags)) in
          class_is tags (class_of (keys_of tags) a) first ∙ (ap (λ tag. first_at tag tags) (ap (λ n. get_or tags n 0) e ∙ first_has tags a (inside a lt)) ∙ sym e);
      one_home = λ a b lt_a lt_b same. home a (inside a lt_a) ∙ (ap (λ tag. tag / 16) (one_tag tags a b (inside a lt_a) (inside b lt_b) same) ∙ sym (home b (inside b lt_b)));
    }

pub length_of_keys : (tags : List ℕ) → length (keys_of tags).classes ≡ length tags
length_of_keys tags = length_of (λ tag. first_at tag tags) tags
