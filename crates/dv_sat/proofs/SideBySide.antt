-- Three lists side by side: where a loop over them ends.
use Rattle.dv_sat.proofs.Vocabulary.{Bor, Iter, None, Option, Zip, [], ap, empty_from_Zip, fronts, inl, inr, iter_rest, length, length-map, map, nil_from_length, refl, subst, sym, zip_first, zip_second, zips, ◌∙◌, ◌≡◌, ◌⊎◌}

-- none of the first is left, where the others tell something of each of it
pub all_ended : {A B C D : Type 0} (key : A → B) (shown : C → D) (found : B → D) (s t : Zip (Zip (Iter A) (Iter B)) (Iter C)) (r : Option ((Bor A × Bor B) × Bor C)) → r ≡ None → zips (zips fronts fronts) fronts s r t
    → iter_rest (zip_second (zip_first s)) ≡ map key (iter_rest (zip_first (zip_first s))) → map shown (iter_rest (zip_second s)) ≡ map found (iter_rest (zip_second (zip_first s)))
    → iter_rest (zip_first (zip_first s)) ≡ []
all_ended {A} {B} {C} key shown found s t r e p keys values = by (subst (λ o. zips (zips fronts fronts) fronts s o t) e p)
  where
    second : length (iter_rest (zip_second (zip_first s))) ≡ length (iter_rest (zip_first (zip_first s)))
    second = ap length keys ∙ length-map (iter_rest (zip_first (zip_first s))) key

    third : length (iter_rest (zip_second s)) ≡ length (iter_rest (zip_first (zip_first s)))
    third = sym (length-map (iter_rest (zip_second s)) shown) ∙ ap length values ∙ length-map (iter_rest (zip_second (zip_first s))) found ∙ second

    by : ((u : Zip (Iter A) (Iter B)) × zips fronts fronts (zip_first s) None u) ⊎ ((u : Iter C) × fronts (zip_second s) None u) → iter_rest (zip_first (zip_first s)) ≡ []
    by (inl a) = (empty_from_Zip (zip_first s) a.0 None refl a.1 (sym second)).0
    by (inr b) = nil_from_length _ (sym third ∙ b.1.0)
