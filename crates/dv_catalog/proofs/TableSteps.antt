-- What the loops over the entries of a mapping keep, for its tables.
use Rattle.dv_catalog.proofs.Vocabulary.{List, [], ap, append_assoc, map, map-range_with_len_more, range_with_len, zero-add, ℕ, ◌++◌, ◌+◌, ◌∙◌, ◌∷◌, ◌≡◌}

-- one table more, by its number
pub numbered_more : {X : Type 0} (f : ℕ → X) (n : ℕ) (first tables pushed : List X) → tables ≡ first ++ map f (range_with_len 0 n) → pushed ≡ tables ++ f n ∷ []
    → pushed ≡ first ++ map f (range_with_len 0 (n + 1))
numbered_more f n first tables pushed so_far push =
    rw (map-range_with_len_more f 0 n n (zero-add n)) (push ∙ ap (λ xs. xs ++ f n ∷ []) so_far ∙ append_assoc first (map f (range_with_len 0 n)) (f n ∷ []))
