-- How what is told goes on over several calls.
use Rattle.dv_outside.proofs.Vocabulary.{GotPrefix, List, None, Option, Some, [], after, ap, append-nil, append_assoc, arith, drop, drop-drop, length, length-drop, length-take-le, refl, sym, take, take-append-drop, take-append_seam, take_all, ℕ, ◌++◌, ◌+◌, ◌-◌, ◌∙◌, ◌≡◌, ◌≤◌}

pub after-nil : (o : Option (List ℕ)) → after o [] ≡ o
after-nil None = refl
after-nil (Some a) = ap Some (append-nil a)

pub after-after : (o : Option (List ℕ)) (a b : List ℕ) → after (after o a) b ≡ after o (a ++ b)
after-after None a b = refl
after-after (Some c) a b = ap Some (append_assoc c a b)

-- `&xs[at..]` as goals write it
pub tail_slice : (at : ℕ) (xs : List ℕ) → take (length xs - at) (drop at xs) ≡ drop at xs
tail_slice at xs = take_all (length xs - at) (drop at xs) (omega (arith, length-drop at xs))

-- behind bytes that were written, a front of more is a front of both
pub got_behind : (old mid new : Option (List ℕ)) (a b : List ℕ) → mid ≡ after old a → GotPrefix mid new b → GotPrefix old new (a ++ b)
got_behind old mid new a b is got = record {
  piece = a ++ got.piece;
  is = got.is ∙ ap (λ o. after o got.piece) is ∙ after-after old a got.piece;
  front = record { rest = got.front.rest; is = ap (λ l. a ++ l) got.front.is ∙ sym (append_assoc a got.piece got.front.rest) };
}

-- a front of a text is one of a longer text
pub got_longer : (old new : Option (List ℕ)) (a b : List ℕ) → GotPrefix old new a → GotPrefix old new (a ++ b)
got_longer old new a b got = record {
  piece = got.piece;
  is = got.is;
  front = record { rest = got.front.rest ++ b; is = ap (λ l. l ++ b) got.front.is ∙ append_assoc got.piece got.front.rest b };
}

-- nothing is a front of any text
pub got_nothing : (old new : Option (List ℕ)) (a : List ℕ) → new ≡ old → GotPrefix old new a
got_nothing old new a is = record { piece = []; is = is ∙ sym (after-nil old); front = record { rest = a; is = refl } }

-- and all of it is
pub got_all : (old new : Option (List ℕ)) (a : List ℕ) → new ≡ after old a → GotPrefix old new a
got_all old new a is = record { piece = a; is = is; front = record { rest = []; is = sym (append-nil a) } }

-- bytes that are copied from a place on, and those behind them
pub copied_front : (count at : ℕ) (input copied rest : List ℕ) → copied ≡ take count (drop at input) → count ≤ length (drop at input) → drop at input ≡ take count (copied ++ rest) ++ drop (at + count) input
copied_front count at input copied rest is fits =
    let whole : length copied ≡ count = ap length is ∙ length-take-le count (drop at input) fits in
    let front : take count (copied ++ rest) ≡ copied = ap (λ k. take k (copied ++ rest)) (sym whole) ∙ take-append_seam copied rest in
    sym (take-append-drop count (drop at input))
    ∙ ap (λ l. l ++ drop count (drop at input)) (sym is ∙ sym front)
    ∙ ap (λ l. take count (copied ++ rest) ++ l) (drop-drop count at input)
