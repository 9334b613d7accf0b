-- Joined texts as the first one and the others, each behind the byte between them.
use Rattle.dv_digest.proofs.Vocabulary.{Key, List, [], ap, append-nil, append_assoc, arith, flat_map, flat_map-map, get_or, join_with_byte, joined, key_text, length, length-append, length-flat_map-take, map, refl, refs_text, sym, take, take_all, ℕ, ◌++◌, ◌+◌, ◌<◌, ◌∙◌, ◌∷◌, ◌≡◌, ◌≤◌}

join-cons : (c : ℕ) (x : List ℕ) (xs : List (List ℕ)) → join_with_byte c (x ∷ xs) ≡ x ++ flat_map (λ y. c ∷ y) xs
join-cons c x [] = sym (append-nil x)
join-cons c x (y ∷ xs) = rw (join-cons c y xs) refl

pub joined-cons : (x : List ℕ) (xs : List (List ℕ)) → joined (x ∷ xs) ≡ x ++ flat_map (λ y. 59 ∷ y) xs
joined-cons x xs = join-cons 59 x xs

pub refs_text-cons : (x : Key) (xs : List Key) → refs_text (x ∷ xs) ≡ key_text x ++ flat_map (λ y. 59 ∷ key_text y) xs
refs_text-cons x xs = join-cons 59 (key_text x) (map key_text xs) ∙ ap (λ t. key_text x ++ t) (flat_map-map (λ y. 59 ∷ y) key_text xs)

-- A room that had the text `old` got `first` and then the texts of the first items of `rest`, of which the whole is
-- to be put in. The next text fits too.
pub next_fits : {X : Type 0} (f : X → List ℕ) (old first start now whole : List ℕ) (rest : List X) (i limit : ℕ) (x : X) → i < length rest → x ≡ get_or rest i x
    → whole ≡ first ++ flat_map f rest → start ≡ old ++ first → now ≡ start ++ flat_map f (take i rest) → length old + length whole ≤ limit → length now + length (f x) ≤ limit
next_fits f old first start now whole rest i limit x small is all begun so_far fits =
    let read = length-flat_map-take f rest i x small in
    let more : length (flat_map f (take i rest)) + length (f x) ≤ length (flat_map f rest) = rw (← is) at read in
    let length_now = ap length so_far ∙ length-append start (flat_map f (take i rest)) in
    let length_start = ap length begun ∙ length-append old first in
    let length_whole = ap length all ∙ length-append first (flat_map f rest) in
    omega (arith, more, length_now, length_start, length_whole, fits)

-- After the last item the whole is in.
pub all_put : {X : Type 0} (f : X → List ℕ) (old first start now whole : List ℕ) (rest : List X) (i : ℕ) → length rest ≤ i
    → whole ≡ first ++ flat_map f rest → start ≡ old ++ first → now ≡ start ++ flat_map f (take i rest) → now ≡ old ++ whole
all_put f old first start now whole rest i end all begun so_far = so_far ∙ rw (take_all i rest end, begun, all) (append_assoc old first (flat_map f rest))
