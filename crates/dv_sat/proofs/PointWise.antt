-- Whether lists are alike element by element.
use Rattle.dv_sat.proofs.Vocabulary.{Bool, List, [], ap, arith, false, length, list_all, map, pointwise, refl, true, zip, ◌&&◌, ◌∷◌, ◌≡◌}

module _ {X Y : Type 0} (same : Y → Y → Bool) (f : X → Y) where
  pub zipped : (xs : List X) (ys : List Y) → length xs ≡ length ys → pointwise same (map f xs) ys ≡ list_all (λ (x, y). same (f x) y) (zip xs ys)
  zipped [] [] e = refl
  zipped (x ∷ xs) (y ∷ ys) e = ap (λ rest. same (f x) y && rest) (zipped xs ys (omega (arith, e)))
  zipped [] (y ∷ ys) e = absurd (omega (arith, e))
  zipped (x ∷ xs) [] e = absurd (omega (arith, e))

  and_false : (b rest : Bool) → rest ≡ false → (b && rest) ≡ false
  and_false true rest e = e
  and_false false rest e = refl

  pub unequal : (xs : List X) (ys : List Y) → (length xs ≡ length ys → ⊥) → pointwise same (map f xs) ys ≡ false
  unequal [] [] differ = absurd (differ refl)
  unequal (x ∷ xs) (y ∷ ys) differ = and_false (same (f x) y) _ (unequal xs ys (λ e. differ (omega (arith, e))))
  unequal [] (y ∷ ys) differ = refl
  unequal (x ∷ xs) [] differ = refl
