-- A part of a list moved back, and an item put before it.
use Rattle.dv_index.proofs.Vocabulary.{List, ap, append_assoc, arith, drop, drop-set, drop-take, drop_at, length, length-drop, length-paste, length-take-le, paste, refl, set, sym, take, ℕ, ◌++◌, ◌+◌, ◌-◌, ◌<◌, ◌∙◌, ◌∷◌, ◌≡◌, ◌≤◌}

pub put_back : {X : Type 0} (xs ys : List X) (place end free : ℕ) (x : X) → place ≤ end → end + free < length xs → ys ≡ paste xs (place + free + 1) (drop place xs) (end - place)
    → drop (place + free) (set ys (place + free) x) ≡ x ∷ (drop place (take end xs) ++ drop (end + free + 1) xs)
put_back xs ys place end free x le under e =
    let long : length ys ≡ length xs = ap length e ∙ length-paste xs (place + free + 1) (drop place xs) (end - place) (omega arith) (omega (arith, length-drop place xs)) in
    let at : place + free + 1 + (end - place) ≡ end + free + 1 = omega arith in
    let whole : place + (end - place) ≡ end = omega arith in
    let part : drop place (take end xs) ≡ take (end - place) (drop place xs) = ap (λ n. drop place (take n xs)) (sym whole) ∙ drop-take place (end - place) xs in
    let behind : drop (place + free + 1) ys ≡ take (end - place) (drop place xs) ++ drop (place + free + 1 + (end - place)) xs =
    ap (drop (place + free + 1)) (e ∙ append_assoc (take (place + free + 1) xs) (take (end - place) (drop place xs)) (drop (place + free + 1 + (end - place)) xs))
    ∙ drop_at (take (place + free + 1) xs) (take (end - place) (drop place xs) ++ drop (place + free + 1 + (end - place)) xs) (place + free + 1) (length-take-le (place + free + 1) xs (omega arith)) in
    drop-set ys (place + free) x (omega (arith, long)) ∙ ap (λ l. x ∷ l) (behind ∙ rw (at, part) refl)
