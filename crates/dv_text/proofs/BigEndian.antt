-- Bytes compare as the numbers that they spell, the greatest first.
use Rattle.dv_text.proofs.Vocabulary.{All, All-drop, Equal, Greater, IsDigest, IsShort, Less, List, Ordering, [], ap, arith, big_endian, digest_prefix, drop, inl, inr, is_eq, length, length-drop, nat_cmp, nat_cmp_is, nat_eq, nat_tests, ordering_then, pointwise, ranked, refl, suc, sym, take}
use Rattle.dv_text.proofs.Vocabulary.{text_cmp, texts_ties, zero, ℕ, ◌*◌, ◌+◌, ◌<◌, ◌∙◌, ◌∷◌, ◌≡◌, ◌≤◌}

abbrev AreBytes : List ℕ → Type 0
AreBytes bytes = All (λ byte. byte < 256) bytes

rest_fits : (u : ℕ) (us : List ℕ) → AreBytes (u ∷ us) → AreBytes us
rest_fits u us fits k d under = fits (suc k) d (omega (arith, under))

-- a lesser number stays less, whatever bytes follow
rises : (n a b : ℕ) (us vs : List ℕ) → n ≤ length us → n ≤ length vs → AreBytes us → a < b → big_endian a (take n us) < big_endian b (take n vs)
rises zero a b us vs p q fits lt = lt
rises (suc n) a b [] vs p q fits lt = absurd (omega arith)
rises (suc n) a b (u ∷ us) [] p q fits lt = absurd (omega arith)
rises (suc n) a b (u ∷ us) (v ∷ vs) p q fits lt =
    let small : u < 256 = fits 0 0 (omega arith) in
    rises n (a * 256 + u) (b * 256 + v) us vs (omega arith) (omega arith) (rest_fits u us fits) (omega arith)

-- the numbers of the first bytes decide, and where they are equal, the bytes behind
pub spelt : (n a : ℕ) (us vs : List ℕ) → n ≤ length us → n ≤ length vs → AreBytes us → AreBytes vs
    → text_cmp us vs ≡ ordering_then (nat_cmp (big_endian a (take n us)) (big_endian a (take n vs))) (text_cmp (drop n us) (drop n vs))
spelt zero a us vs p q f g = ap (λ r. ordering_then r (text_cmp us vs)) (nat_cmp_is a a Equal refl)
spelt (suc n) a [] vs p q f g = absurd (omega arith)
spelt (suc n) a (u ∷ us) [] p q f g = absurd (omega arith)
spelt (suc n) a (u ∷ us) (v ∷ vs) p q f g =
    by (spelt n (a * 256 + u) us vs (omega arith) (omega arith) (rest_fits u us f) (rest_fits v vs g)) (nat_cmp u v) refl
  where
    over : List ℕ → ℕ → ℕ
    over bytes byte = big_endian (a * 256 + byte) (take n bytes)

    by : text_cmp us vs ≡ ordering_then (nat_cmp (over us u) (over vs u)) (text_cmp (drop n us) (drop n vs))
        → (r : Ordering) → r ≡ nat_cmp u v → ordering_then (nat_cmp u v) (text_cmp us vs) ≡ ordering_then (nat_cmp (over us u) (over vs v)) (text_cmp (drop n us) (drop n vs))
    by rest Less e =
        let lt : u < v = ranked u v Less e in
        let less = rises n (a * 256 + u) (a * 256 + v) us vs (omega arith) (omega arith) (rest_fits u us f) (omega arith) in
        rw (sym e, sym (nat_cmp_is (over us u) (over vs v) Less less)) refl
    by rest Equal e =
        let same : u ≡ v = ranked u v Equal e in
        rw (sym e, sym same) rest
    by rest Greater e =
        let gt : v < u = ranked u v Greater e in
        let less = rises n (a * 256 + v) (a * 256 + u) vs us (omega arith) (omega arith) (rest_fits v vs g) (omega arith) in
        rw (sym e, sym (nat_cmp_is (over us u) (over vs v) Greater less)) refl

then_twice : (r s t : Ordering) → t ≡ ordering_then r s → t ≡ ordering_then r t
then_twice Less s t e = e
then_twice Equal s t e = refl
then_twice Greater s t e = e

-- of two digests with different prefixes the one with the lesser is less; those with equal ones need a further look
pub prefix_first : (a b : List ℕ) → IsDigest a → IsDigest b → text_cmp a b ≡ ordering_then (nat_cmp (digest_prefix a) (digest_prefix b)) (text_cmp a b)
prefix_first a b p q = then_twice _ _ _ (spelt 8 0 a b (long a p) (long b q) p.fits q.fits)
  where
    long : (bytes : List ℕ) → IsDigest bytes → 8 ≤ length bytes
    long bytes is = elim (is.width) [ inl e ↦ omega (arith, e) | inr e ↦ omega (arith, e) ]

-- ---- 16 bytes, by two numbers

abbrev pub first_half : List ℕ → ℕ
first_half bytes = big_endian 0 (take 8 bytes)

abbrev pub second_half : List ℕ → ℕ
second_half bytes = big_endian 0 (take 8 (drop 8 bytes))

no_rest : (us vs : List ℕ) → length us ≡ 0 → length vs ≡ 0 → text_cmp us vs ≡ Equal
no_rest [] [] p q = refl
no_rest [] (v ∷ vs) p q = cc
no_rest (u ∷ us) vs p q = cc

then_level : (r : Ordering) → ordering_then r Equal ≡ r
then_level Less = refl
then_level Equal = refl
then_level Greater = refl

pub halves_order : (a b : List ℕ) → IsShort a → IsShort b → text_cmp a b ≡ ordering_then (nat_cmp (first_half a) (first_half b)) (nat_cmp (second_half a) (second_half b))
halves_order a b p q =
    let low_a = All-drop (λ byte. byte < 256) 8 a p.fits in
    let low_b = All-drop (λ byte. byte < 256) 8 b q.fits in
    let low = spelt 8 0 (drop 8 a) (drop 8 b) (omega (arith, p.width, length-drop 8 a)) (omega (arith, q.width, length-drop 8 b)) low_a low_b in
    let rest = no_rest (drop 8 (drop 8 a)) (drop 8 (drop 8 b)) (omega (arith, p.width, length-drop 8 a, length-drop 8 (drop 8 a))) (omega (arith, q.width, length-drop 8 b, length-drop 8 (drop 8 b))) in
    spelt 8 0 a b (omega (arith, p.width)) (omega (arith, q.width)) p.fits q.fits
    ∙ ap (ordering_then (nat_cmp (first_half a) (first_half b))) (low ∙ ap (ordering_then (nat_cmp (second_half a) (second_half b))) rest ∙ then_level _)

level : (x y : ℕ) (s : Ordering) → x ≡ y → ordering_then (nat_cmp x y) s ≡ s
level x y s e = ap (λ r. ordering_then r s) (sym (nat_cmp_is x y Equal e))

apart : (x y : ℕ) (r s : Ordering) → r ≡ nat_cmp x y → (x ≡ y → ⊥) → ordering_then r s ≡ r
apart x y Less s e differ = refl
apart x y Equal s e differ = absurd (differ (ranked x y Equal e))
apart x y Greater s e differ = refl

equal_too : (z w : ℕ) → nat_eq z w ≡ is_eq (nat_cmp z w)
equal_too z w = grind (arith, nat_tests)

module _ (a b : List ℕ) (x y z w : ℕ) (p : IsShort a) (q : IsShort b) (x_is : x ≡ first_half a) (y_is : y ≡ first_half b) (z_is : z ≡ second_half a) (w_is : w ≡ second_half b) where
  order : text_cmp a b ≡ ordering_then (nat_cmp x y) (nat_cmp z w)
  order = halves_order a b p q ∙ (λ i. ordering_then (nat_cmp (sym x_is i) (sym y_is i)) (nat_cmp (sym z_is i) (sym w_is i)))

  -- where the first numbers are equal, the second decide
  pub short_level : x ≡ y → nat_cmp z w ≡ text_cmp a b
  short_level same = sym (order ∙ level x y (nat_cmp z w) same)

  -- and else the first do
  pub short_apart : (x ≡ y → ⊥) → nat_cmp x y ≡ text_cmp a b
  short_apart differ = sym (order ∙ apart x y (nat_cmp x y) (nat_cmp z w) refl differ)

  pub short_same : x ≡ y → nat_eq z w ≡ pointwise nat_eq a b
  short_same same = equal_too z w ∙ ap is_eq (short_level same) ∙ sym (texts_ties a b)
