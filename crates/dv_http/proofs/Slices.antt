-- Parts of a list between two places.
use Rattle.dv_http.proofs.Vocabulary.{List, ap, append_assoc, arith, drop, drop-append-le, drop-append_seam, drop-drop, drop-take, length, length-append, length-drop, length-take, length-take-le, slice_range, sym, take, take-append-add, take-append-le, take-append_seam, take-take, ℕ, ◌++◌, ◌+◌}
use Rattle.dv_http.proofs.Vocabulary.{◌-◌, ◌∙◌, ◌≡◌, ◌≤◌}

-- without the first few
pub later_part : (xs : List ℕ) (start count end : ℕ) → start + count ≤ end → slice_range xs (start + count) end ≡ drop count (slice_range xs start end)
later_part xs start count end fits =
    let rest = end - (start + count) in
    let parts : end - start ≡ count + rest = omega (arith, fits) in
    ap (take rest) (sym (drop-drop count start xs)) ∙ sym (drop-take count rest (drop start xs)) ∙ ap (λ n. drop count (take n (drop start xs))) (sym parts)

-- a part that goes on into what was put behind it
pub part_more : (old into : List ℕ) (start end count : ℕ) → start ≤ end → end ≤ length old → count ≤ length into → slice_range (take end old ++ into) start (end + count) ≡ slice_range old start end ++ take count into
part_more old into start end count ordered fits some =
    let front = take end old in
    let whole : length front ≡ end = length-take-le end old fits in
    let part : drop start front ≡ slice_range old start end =
    ap (λ n. drop start (take n old)) (omega (arith, ordered)) ∙ drop-take start (end - start) old in
    let size : length (drop start front) ≡ end - start = omega (arith, length-drop start front, whole) in
    let sum : (end + count) - start ≡ length (drop start front) + count = omega (arith, size, ordered) in
    ap (take ((end + count) - start)) (drop-append-le start front into (omega (arith, whole, ordered)))
    ∙ ap (λ n. take n (drop start front ++ into)) sum
    ∙ take-append-add (drop start front) into count
    ∙ ap (λ l. l ++ take count into) part

pub part_length : (xs : List ℕ) (start end : ℕ) → start ≤ end → end ≤ length xs → length (slice_range xs start end) ≡ end - start
part_length xs start end ordered fits = omega (arith, length-take (end - start) (drop start xs), length-drop start xs, ordered, fits)

-- a part of the front
pub part_of_front : (xs : List ℕ) (start end len : ℕ) → start ≤ end → end ≤ len → slice_range (take len xs) start end ≡ slice_range xs start end
part_of_front xs start end len ordered fits =
    let parts : len ≡ start + (len - start) = omega (arith, ordered, fits) in
    let part : drop start (take len xs) ≡ take (len - start) (drop start xs) = ap (λ n. drop start (take n xs)) parts ∙ drop-take start (len - start) xs in
    ap (take (end - start)) part ∙ take-take (end - start) (len - start) (drop start xs) (omega (arith, ordered, fits))

-- what is held, and what was read behind it
pub part_filled : (all items into others more old : List ℕ) (start end count len : ℕ) → all ≡ items → start ≤ end → end ≤ length items → count ≤ length into → end + count ≤ len
    → slice_range items start end ≡ old → slice_range (take len ((take end all ++ (into ++ others)) ++ more)) start (end + count) ≡ old ++ take count into
part_filled all items into others more old start end count len same ordered fits some room is =
    part_of_front ((take end all ++ (into ++ others)) ++ more) start (end + count) len (omega (arith, ordered)) room
    ∙ ap (λ l. slice_range l start (end + count)) (append_assoc (take end all) (into ++ others) more ∙ ap (λ l. take end all ++ l) (append_assoc into others more))
    ∙ ap (λ l. slice_range (take end l ++ (into ++ (others ++ more))) start (end + count)) same
    ∙ part_more items (into ++ (others ++ more)) start end count ordered fits (omega (arith, some, length-append into (others ++ more)))
    ∙ ap (λ l. l ++ take count (into ++ (others ++ more))) is
    ∙ ap (λ l. old ++ l) (take-append-le count into (others ++ more) some)

-- two parts of one list, where the first ones are as long
pub same_parts : (a b c d : List ℕ) → a ++ b ≡ c ++ d → length a ≡ length c → (a ≡ c) × (b ≡ d)
same_parts a b c d same long = (
  sym (take-append_seam a b) ∙ ap (take (length a)) same ∙ ap (λ n. take n (c ++ d)) long ∙ take-append_seam c d,
  sym (drop-append_seam a b) ∙ ap (drop (length a)) same ∙ ap (λ n. drop n (c ++ d)) long ∙ drop-append_seam c d,
)
