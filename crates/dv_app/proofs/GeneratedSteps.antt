-- What the loops over numbers keep, and the numbers of load dates.
use Rattle.dv_app.proofs.Vocabulary.{List, [], ap, arith, flat_map, flat_map_more, is_stamp_number, load_date, lt-ltb, map-id, map-range_with_len_more, range_with_len, refl, sym, true, ℕ, ◌++◌, ◌+◌, ◌<◌, ◌∙◌, ◌∷◌, ◌≡◌}

-- one number more
counted_more : (n : ℕ) → range_with_len 0 (n + 1) ≡ range_with_len 0 n ++ n ∷ []
counted_more n =
    sym (map-id (range_with_len 0 (n + 1))) ∙ map-range_with_len_more (λ x. x) 0 n n (omega arith)
    ∙ ap (λ xs. xs ++ n ∷ []) (map-id (range_with_len 0 n))

-- the part of one number more is put at the end
pub numbered_part : {X : Type 0} (f : ℕ → List X) (n : ℕ) (front made more : List X) → made ≡ front ++ flat_map f (range_with_len 0 n) → more ≡ made ++ f n
    → more ≡ front ++ flat_map f (range_with_len 0 (n + 1))
numbered_part f n front made more so_far push =
    push ∙ ap (λ xs. xs ++ f n) so_far ∙ flat_map_more f front (range_with_len 0 n) n
    ∙ ap (λ xs. front ++ flat_map f xs) (sym (counted_more n))

-- each load date is a stamp
pub load_date_known : (window : ℕ) → window < 4 → is_stamp_number (load_date window) ≡ true
load_date_known window few = rw (lt-ltb (load_date window) 255_579_753_600 (omega (arith, few))) refl
