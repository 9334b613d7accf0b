-- Keys that are missing or fit, and keys beside hubs and digests.
use Rattle.dv_hub_link.proofs.Vocabulary.{Bool, Key, List, [], and_from, and_parts, ap, arith, eqb-true, false, inl, inr, key_eq, length, list_all, map, nat_le, refl, refs_eq, refs_fit, replicate, suc, texts_eq, texts_fit, true, zip, ℕ, ◌==◌, ◌∙◌, ◌∷◌, ◌≡◌, ◌⊎◌}

-- parts are all empty exactly where they equal so many empty ones
pub missing_same : (parts : List (List ℕ)) (n : ℕ) → length parts ≡ n → list_all (λ (part : List ℕ). length part == 0) parts ≡ texts_eq (replicate n []) parts
missing_same parts n e = all parts ∙ ap (λ m. texts_eq (replicate m []) parts) e
  where
    none : (byte : ℕ) (part : List ℕ) (t : Bool) → (length (byte ∷ part) == 0) ≡ t → (length (byte ∷ part) == 0) ≡ false
    none byte part false e = e
    none byte part true e = let zero = eqb-true (length (byte ∷ part)) 0 e in absurd (omega (arith, zero))

    all : (ps : List (List ℕ)) → list_all (λ (part : List ℕ). length part == 0) ps ≡ texts_eq (replicate (length ps) []) ps
    all [] = refl
    all ([] ∷ ps) = all ps
    all ((byte ∷ part) ∷ ps) = let not_empty = none byte part (length (byte ∷ part) == 0) refl in rw not_empty refl

-- each key of a list that fits does alone
pub each_fits : (refs : List Key) → refs_fit refs ≡ true → list_all (λ key. refs_fit (key ∷ [])) refs ≡ true
each_fits refs fits = all refs (and_parts (nat_le (length refs) 4) (list_all (λ key. texts_fit 4 key.parts) refs) fits).1
  where
    all : (rs : List Key) → list_all (λ key. texts_fit 4 key.parts) rs ≡ true → list_all (λ key. refs_fit (key ∷ [])) rs ≡ true
    all [] e = refl
    all (key ∷ rs) e =
        let parts = and_parts (texts_fit 4 key.parts) (list_all (λ k. texts_fit 4 k.parts) rs) e in
        and_from (refs_fit (key ∷ [])) (list_all (λ k. refs_fit (k ∷ [])) rs) (and_from (texts_fit 4 key.parts) true parts.0 refl) (all rs parts.1)

-- whether keys made of pairs are others, told from each pair and the other key
pub each_same : {P : Type 0} (made : P → Key) (pairs : List P) (refs : List Key) → (length refs ≡ length pairs) → list_all (λ (pair, key). key_eq (made pair) key) (zip pairs refs) ≡ refs_eq (map made pairs) refs
each_same made [] [] e = refl
each_same made [] (key ∷ refs) e = absurd (omega (arith, e))
each_same made (pair ∷ pairs) [] e = absurd (omega (arith, e))
each_same made (pair ∷ pairs) (key ∷ refs) e = let rest = each_same made pairs refs (omega (arith, e)) in rw rest refl

pub not_as_many : {P : Type 0} (made : P → Key) (pairs : List P) (refs : List Key) → (length refs ≡ length pairs → ⊥) → false ≡ refs_eq (map made pairs) refs
not_as_many made [] [] differ = absurd (differ refl)
not_as_many made [] (key ∷ refs) differ = refl
not_as_many made (pair ∷ pairs) [] differ = refl
not_as_many made (pair ∷ pairs) (key ∷ refs) differ = by (key_eq (made pair) key) refl (not_as_many made pairs refs (λ e. differ (ap suc e)))
  where
    by : (t : Bool) → key_eq (made pair) key ≡ t → false ≡ refs_eq (map made pairs) refs → false ≡ refs_eq (map made (pair ∷ pairs)) (key ∷ refs)
    by true e rest = rw e rest
    by false e rest = rw e refl

pub not_equal : (m n : ℕ) → (m ≡ n → ⊥) → (m == n) ≡ false
not_equal m n differ = by (m == n) refl
  where
    by : (t : Bool) → (m == n) ≡ t → (m == n) ≡ false
    by true e = absurd (differ (eqb-true m n e))
    by false e = e

-- of two lists of which one has ended, nothing is left
pub zip_ended : {X Y : Type 0} (xs : List X) (ys : List Y) → (length xs ≡ 0) ⊎ (length ys ≡ 0) → zip xs ys ≡ []
zip_ended [] ys ended = refl
zip_ended (x ∷ xs) [] ended = refl
zip_ended (x ∷ xs) (y ∷ ys) (inl e) = absurd (omega (arith, e))
zip_ended (x ∷ xs) (y ∷ ys) (inr e) = absurd (omega (arith, e))
