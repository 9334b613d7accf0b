-- What a loop over the hubs that a path's feeds share keeps.
use Rattle.dv_checks.proofs.Vocabulary.{List, Outline, [], are_joined, at_drop_all, drop, length, refl, true, ℕ, ◌∷◌, ◌≡◌, ◌≤◌}

joined_by_none : (outline : Outline) (feeds : List (List ℕ)) → are_joined outline feeds [] ≡ true
joined_by_none outline [] = refl
joined_by_none outline (feed ∷ []) = refl
joined_by_none outline (feed ∷ next ∷ feeds) = refl

-- where no shared hub is left, nothing is left to join
pub joined_at_end : (outline : Outline) (feeds via : List (List ℕ)) (i : ℕ) → length via ≤ i → are_joined outline (drop i feeds) (drop i via) ≡ true
joined_at_end outline feeds via i end = rw (at_drop_all (λ rest. are_joined outline (drop i feeds) rest) via i end) (joined_by_none outline (drop i feeds))
