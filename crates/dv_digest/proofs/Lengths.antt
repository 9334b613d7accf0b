-- How long joined texts are, and that those of a staged row fit.
use Rattle.dv_digest.proofs.Vocabulary.{Bool, Key, List, ROOM_SIZE, [], and_parts, arith, attrs_fit, join_with_byte, joined, key_text, le-leb, leb-true, length, length-append, length-map, list_all, most_field_bytes, map, mul-le-mul_right, nat_le, refl, refs_fit, refs_text, suc-mul, texts_fit, true}
use Rattle.dv_digest.proofs.Vocabulary.{ℕ, ◌*◌, ◌+◌, ◌-◌, ◌∷◌, ◌≡◌, ◌≤◌}

-- texts of at most so many bytes
abbrev are_short : ℕ → List (List ℕ) → Bool
are_short most texts = list_all (λ text. nat_le (length text) most) texts

length-join : (c most : ℕ) (x : List ℕ) (xs : List (List ℕ)) → are_short most (x ∷ xs) ≡ true → length (join_with_byte c (x ∷ xs)) + 1 ≤ length (x ∷ xs) * (most + 1)
length-join c most x [] h = grind arith
length-join c most x (y ∷ xs) h =
    let parts = and_parts (nat_le (length x) most) (are_short most (y ∷ xs)) h in
    let here = leb-true (length x) most parts.0 in
    let behind = length-join c most y xs parts.1 in
    let long = length-append x (c ∷ join_with_byte c (y ∷ xs)) in
    let more = suc-mul (length (y ∷ xs)) (most + 1) in
    omega (arith, here, behind, long, more)

-- at most so many texts of at most so many bytes, joined
length-joined : (count most : ℕ) (texts : List (List ℕ)) → length texts ≤ count → are_short most texts ≡ true → length (joined texts) ≤ count * (most + 1) - 1
length-joined count most [] few h = omega arith
length-joined count most (x ∷ xs) few h =
    let long = length-join 59 most x xs h in
    let scaled = mul-le-mul_right (most + 1) few in
    omega (arith, long, scaled)

texts_fit-length : (count : ℕ) (texts : List (List ℕ)) → texts_fit count texts ≡ true → length (joined texts) ≤ count * 4097 - 1
texts_fit-length count texts h =
    let parts = and_parts (nat_le (length texts) count) (are_short most_field_bytes texts) h in
    length-joined count most_field_bytes texts (leb-true (length texts) count parts.0) parts.1

-- each key's text is at most 16,387 bytes long
short_keys : (refs : List Key) → list_all (λ key. texts_fit 4 key.parts) refs ≡ true → are_short 16387 (map key_text refs) ≡ true
short_keys [] h = refl
short_keys (key ∷ refs) h =
    let parts = and_parts (texts_fit 4 key.parts) (list_all (λ key. texts_fit 4 key.parts) refs) h in
    let here = le-leb (length (key_text key)) 16387 (texts_fit-length 4 key.parts parts.0) in
    rw (here, short_keys refs parts.1) refl

-- the text of at most four such keys fits a room
refs_text-length : (refs : List Key) → length refs ≤ 4 → list_all (λ key. texts_fit 4 key.parts) refs ≡ true → length (refs_text refs) ≤ 65551
refs_text-length refs few h = length-joined 4 16387 (map key_text refs) (omega (arith, few, length-map refs key_text)) (short_keys refs h)

pub refs_text_fits : (refs : List Key) → refs_fit refs ≡ true → length (refs_text refs) ≤ ROOM_SIZE
refs_text_fits refs h =
    let parts = and_parts (nat_le (length refs) 4) (list_all (λ key. texts_fit 4 key.parts) refs) h in
    omega (arith, refs_text-length refs (leb-true (length refs) 4 parts.0) parts.1)

-- the text of attributes fits a room
pub attrs_text_fits : (attrs : List (List ℕ)) → attrs_fit attrs ≡ true → length (joined attrs) ≤ ROOM_SIZE
attrs_text_fits attrs h = texts_fit-length 32 attrs h
