-- What is known of the bytes of a connection by what is found at their front.
use Rattle.dv_http.proofs.Vocabulary.{EndsInHead, HasEnded, HasHead, HasNoHead, HasNoRequest, HeaderSpan, IfSome, IsHeadAt, IsRequestAt, List, MayBecomeRequest, None, Option, ReadsRequest, ReadsRequest-append, RequestHead, RequestOverflows, RequestSpans, Some, [], ap, append-nil, append_assoc}
use Rattle.dv_http.proofs.Vocabulary.{arith, drop, drop-append-le, fields_most, head_most, header_bytes, in_front, inl, inr, length, length-append, length-map, length-take, name_and_value, print_request, subst, sym, take, take-append-drop, take-append-le, take-append_seam, take_all, ℕ, ◌++◌, ◌<◌}
use Rattle.dv_http.proofs.Vocabulary.{◌∙◌, ◌∷◌, ◌≡◌, ◌≤◌}

-- the first of two parts is within the first of two others, where it is no longer
pub within_front : (a b c d : List ℕ) → a ++ b ≡ c ++ d → length a ≤ length c → c ≡ a ++ drop (length a) c
within_front a b c d same short =
    let front : a ≡ take (length a) c = sym (take-append_seam a b) ∙ ap (take (length a)) same ∙ take-append-le (length a) c d short in
    sym (take-append-drop (length a) c) ∙ ap (λ l. l ++ drop (length a) c) (sym front)

-- the front of the bytes that are held, and all that is behind it
pub parted : (n : ℕ) (held more : List ℕ) → take n held ++ (drop n held ++ more) ≡ held ++ more
parted n held more = sym (append_assoc (take n held) (drop n held) more) ∙ ap (λ l. l ++ more) (take-append-drop n held)

-- no bytes can follow a front that make a head
pub none_ever : (front more : List ℕ) → RequestOverflows fields_most front → HasNoHead (front ++ more)
none_ever front more never = record {
  none = λ head rest has. absurd (omega (arith, never more head rest has.reads, has.fields));
  ever = inr (λ others head rest reads. never (more ++ others) head rest (subst (λ l. ReadsRequest l head rest) (append_assoc front more others) reads));
}

-- a front as long as a head may be is none
pub none_longer : (front more : List ℕ) → HasNoRequest front → length front ≡ head_most → HasNoHead (front ++ more)
none_longer front more none whole = record {
  none = λ head rest has.
      let short : length (print_request head) ≤ length front = omega (arith, has.size, whole) in
      none head (drop (length (print_request head)) front) (has.reads.0, within_front (print_request head) rest front more (sym has.reads.1) short);
  ever = inl (omega (arith, length-append front more, whole));
}

pub none_ever_held : (held : List ℕ) (left : Option (List ℕ)) → RequestOverflows fields_most (take head_most held) → IfSome (in_front held left) HasNoHead
none_ever_held held None never = tt
none_ever_held held (Some more) never = subst HasNoHead (parted head_most held more) (none_ever (take head_most held) (drop head_most held ++ more) never)

pub none_longer_held : (held : List ℕ) (left : Option (List ℕ)) → HasNoRequest (take head_most held) → head_most ≤ length (take head_most held) → IfSome (in_front held left) HasNoHead
none_longer_held held None none whole = tt
none_longer_held held (Some more) none whole = subst HasNoHead (parted head_most held more)
    (none_longer (take head_most held) (drop head_most held ++ more) none (omega (arith, length-take head_most held, whole)))

-- the input has ended within a head
pub cut_held : (held : List ℕ) (left : Option (List ℕ)) → HasEnded left → HasNoRequest (take head_most held) → MayBecomeRequest (take head_most held) → length (take head_most held) < head_most → 0 < length held → IfSome (in_front held left) EndsInHead
cut_held held None ended none may short some = tt
cut_held held (Some more) ended none may short some =
    let less : length held < head_most = omega (arith, length-take head_most held, short) in
    let whole : take head_most held ≡ held = take_all head_most held (omega (arith, less)) in
    let all : held ≡ held ++ more = sym (append-nil held) ∙ ap (λ l. held ++ l) (sym ended) in
    subst EndsInHead all (record { some = some; short = less; none = subst HasNoRequest whole none; may = subst MayBecomeRequest whole may })

-- the fields of a head are at most as many as there are spans
pub fields_fit : (bytes : List ℕ) (spans : List HeaderSpan) (found : RequestSpans) (head : RequestHead) → IsRequestAt bytes spans found head → length head.fields ≤ length spans
fields_fit bytes spans found head is =
    let same : length (take found.headers spans) ≡ length head.fields = sym (length-map (take found.headers spans) (header_bytes bytes)) ∙ ap length is.fields ∙ length-map head.fields name_and_value in
    omega (arith, same, length-take found.headers spans)

-- a head at the front of what is held is one at the front of all
pub head_held : (held more : List ℕ) (spans : List HeaderSpan) (found : RequestSpans) (head : RequestHead) → length spans ≡ fields_most → IsHeadAt (take head_most held) spans found → IsRequestAt (take head_most held) spans found head → HasHead (held ++ more) head (drop found.len held ++ more)
head_held held more spans found head room at is =
    let front = take head_most held in
    let back = drop head_most held in
    let fits : found.len ≤ length front = at.within.section.len_fits in
    let rest : drop found.len front ++ (back ++ more) ≡ drop found.len held ++ more =
    sym (append_assoc (drop found.len front) back more)
    ∙ ap (λ l. l ++ more) (sym (drop-append-le found.len front back fits) ∙ ap (drop found.len) (take-append-drop head_most held)) in
    record {
      reads = subst (λ l. ReadsRequest (held ++ more) head l) rest
          (subst (λ l. ReadsRequest l head (drop found.len front ++ (back ++ more))) (parted head_most held more)
          (ReadsRequest-append front head (drop found.len front) (back ++ more) is.reads));
      size = omega (arith, is.len, fits, length-take head_most held);
      fields = omega (arith, fields_fit front spans found head is, room);
    }
