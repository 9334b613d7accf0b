-- A normal form is its own, and no longer than the text.
use Rattle.dv_window_rules.proofs.Vocabulary.{Bool, List, [], ap, arith, common_steps, drop, drop-map, false, get_or, get_or-reverse, is_blank, length, length-map, length-reverse, map, nat_tests, norm_field, norm_key, one-add, prefix_len, prefix_len_stops, refl, reverse, reverse_aux, rules, suc}
use Rattle.dv_window_rules.proofs.Vocabulary.{suffix_len, suffix_len-take_no, sym, take, take-map, to_ascii_uppercase, true, without_leading, zero, ℕ, ◌-◌, ◌<◌, ◌∙◌, ◌∷◌, ◌≡◌, ◌≤◌}

module _ {X : Type 0} (p : X → Bool) where
  -- behind the items of a kind that a list begins with, none of the kind is first
  prefix_len-dropped : (xs : List X) → prefix_len p (drop (prefix_len p xs) xs) ≡ 0
  prefix_len-dropped [] = refl
  prefix_len-dropped (x ∷ xs) = by (p x) refl (prefix_len-dropped xs)
    where
      by : (b : Bool) → p x ≡ b → prefix_len p (drop (prefix_len p xs) xs) ≡ 0 → prefix_len p (drop (prefix_len p (x ∷ xs)) (x ∷ xs)) ≡ 0
      by true t rest = rw (t, one-add) rest
      by false t rest = rw t (rw t refl)

  prefix_len-taken : (xs : List X) (n : ℕ) → prefix_len p xs ≡ 0 → prefix_len p (take n xs) ≡ 0
  prefix_len-taken xs n h1 = grind (arith, common_steps)

  -- before those that it ends with, none is last
  suffix_len-taken : (xs : List X) → suffix_len p (take (length xs - suffix_len p xs) xs) ≡ 0
  suffix_len-taken [] = refl
  suffix_len-taken (x ∷ xs) = by (length all - suffix_len p all) refl
    where
      all : List X
      all = x ∷ xs

      by : (n : ℕ) → length all - suffix_len p all ≡ n → suffix_len p (take (length all - suffix_len p all) all) ≡ 0
      by zero e = rw e refl
      by (suc m) e =
          let short : suffix_len p all < length all = omega (arith, e) in
          let back : suffix_len p all < length (reverse all) = rw (length-reverse all) short in
          let stops : p (get_or (reverse all) (suffix_len p all) x) ≡ false = prefix_len_stops p (reverse all) x back in
          let place : length all - 1 - suffix_len p all ≡ suc m - 1 = omega (arith, e) in
          let same : get_or (reverse all) (suffix_len p all) x ≡ get_or all (suc m - 1) x = get_or-reverse all (suffix_len p all) x short ∙ ap (λ k. get_or all k x) place in
          let last : p (get_or all (suc m - 1) x) ≡ false = ap p (sym same) ∙ stops in
          rw e (suffix_len-take_no p all (suc m) x (omega arith) (omega (arith, e)) last)

-- the same of a list that is made of another
reverse_aux-map : {X Y : Type 0} (f : X → Y) (xs acc : List X) → reverse_aux (map f xs) (map f acc) ≡ map f (reverse_aux xs acc)
reverse_aux-map f [] acc = refl
reverse_aux-map f (x ∷ xs) acc = reverse_aux-map f xs (x ∷ acc)

module _ {X Y : Type 0} (p : Y → Bool) (q : X → Bool) (f : X → Y) (same : (x : X) → p (f x) ≡ q x) where
  prefix_len-map : (xs : List X) → prefix_len p (map f xs) ≡ prefix_len q xs
  prefix_len-map [] = refl
  prefix_len-map (x ∷ xs) = rw (same x, prefix_len-map xs) refl

  suffix_len-map : (xs : List X) → suffix_len p (map f xs) ≡ suffix_len q xs
  suffix_len-map xs = ap (prefix_len p) (reverse_aux-map f xs []) ∙ prefix_len-map (reverse xs)

-- ---- fields

pub norm_field-itself : (t : List ℕ) → norm_field (norm_field t) ≡ norm_field t
norm_field-itself t = grind (arith, common_steps, prefix_len-taken is_blank (without_leading t) (length (without_leading t) - suffix_len is_blank (without_leading t)) (prefix_len-dropped is_blank t), prefix_len-dropped is_blank t, suffix_len-taken is_blank (without_leading t))

pub norm_field-short : (t : List ℕ) → length (norm_field t) ≤ length t
norm_field-short t = grind (arith, common_steps, nat_tests)

-- ---- key parts

upper-blank : (b : ℕ) → is_blank (to_ascii_uppercase b) ≡ is_blank b
upper-blank b = grind (arith, nat_tests)

upper-itself : (b : ℕ) → to_ascii_uppercase (to_ascii_uppercase b) ≡ to_ascii_uppercase b
upper-itself b = grind (arith, nat_tests)

norm_field-upper : (t : List ℕ) → norm_field (map to_ascii_uppercase t) ≡ map to_ascii_uppercase (norm_field t)
norm_field-upper t = grind (arith, prefix_len-map, upper-blank, drop-map, suffix_len-map, length-map, take-map)

upper_twice : (t : List ℕ) → map to_ascii_uppercase (map to_ascii_uppercase t) ≡ map to_ascii_uppercase t
upper_twice [] = refl
upper_twice (b ∷ t) = rw (upper-itself b, upper_twice t) refl

pub norm_key-itself : (t : List ℕ) → norm_key (norm_key t) ≡ norm_key t
norm_key-itself t = search (rules, norm_field-upper, upper_twice, norm_field-itself)

pub norm_key-short : (t : List ℕ) → length (norm_key t) ≤ length t
norm_key-short t = rw length-map (norm_field-short t)
