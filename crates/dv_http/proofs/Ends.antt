-- A head ends with an empty line, so what came without the end of one made no head.
use Rattle.dv_http.proofs.Vocabulary.{EndsEmpty, EndsLine, Field, HasNoEnd, HasNoRequest, LineEnd, List, RequestHead, [], ap, append-nil, append_assoc, arith, cases_lt, crlf, drop, flat_map, get_or, inl, inr, length, length-append, length-take, lf, print_blank, print_end, print_field}
use Rattle.dv_http.proofs.Vocabulary.{print_request, print_request-append, print_section, print_version, refl, subst, sym, take, take-append_seam, take-take, take_more, ℕ, ⊎_elim, ◌++◌, ◌+◌, ◌<◌, ◌∙◌, ◌∷◌, ◌≡◌, ◌≤◌}
use Rattle.dv_http.proofs.{Fronts.within_front, Slices.same_parts}

-- a line feed is the last byte
EndsFeed : List ℕ → Type 0
EndsFeed bytes = (front : List ℕ) × (bytes ≡ front ++ 10 ∷ [])

feed_end : (e : LineEnd) → EndsFeed (print_end e)
unfolding EndsFeed
feed_end crlf = (13 ∷ [], refl)
feed_end lf = ([], refl)

feed_behind : (before bytes : List ℕ) → EndsFeed bytes → EndsFeed (before ++ bytes)
unfolding EndsFeed
feed_behind before bytes ends = (before ++ ends.0, ap (λ l. before ++ l) ends.1 ∙ sym (append_assoc before ends.0 (10 ∷ [])))

feed_field : (f : Field) → EndsFeed (print_field f)
feed_field f = subst EndsFeed (sym regrouped) (feed_behind f.name (58 ∷ (f.raw ++ print_end f.end)) (feed_behind (58 ∷ f.raw) (print_end f.end) (feed_end f.end)))
  where
    regrouped : print_field f ≡ f.name ++ (58 ∷ (f.raw ++ print_end f.end))
    regrouped = simp (append_assoc)

feed_fields : (before : List ℕ) → EndsFeed before → (fields : List Field) → EndsFeed (before ++ flat_map print_field fields)
feed_fields before ends [] = subst EndsFeed (sym (append-nil before)) ends
feed_fields before ends (f ∷ fields) =
    subst EndsFeed (append_assoc before (print_field f) (flat_map print_field fields))
    (feed_fields (before ++ print_field f) (feed_behind before (print_field f) (feed_field f)) fields)

empty_end : (before : List ℕ) → EndsFeed before → (last : LineEnd) → EndsEmpty (before ++ print_end last)
unfolding EndsFeed
empty_end before ends lf = (before, refl, (ends.0, inl ends.1))
empty_end before ends crlf = (before ++ 13 ∷ [], sym (append_assoc before (13 ∷ []) (10 ∷ [])), (ends.0, inr (ap (λ l. l ++ 13 ∷ []) ends.1 ∙ append_assoc ends.0 (10 ∷ []) (13 ∷ []))))

pub head_ends : (h : RequestHead) → EndsEmpty (print_request h)
head_ends h =
    let lines = print_end h.line_end ++ flat_map print_field h.fields in
    let start = print_blank h.blank ++ (h.method ++ 32 ∷ (h.target ++ 32 ∷ print_version h.minor)) in
    let whole : print_request h ≡ (start ++ lines) ++ print_end h.last = sym (append-nil (print_request h)) ∙ print_request-append h [] ∙ regroup in
    subst EndsEmpty (sym whole) (empty_end (start ++ lines) (feed_behind start lines (feed_fields (print_end h.line_end) (feed_end h.line_end) h.fields)) h.last)
  where
    regroup : print_blank h.blank ++ (h.method ++ 32 ∷ (h.target ++ 32 ∷ (print_version h.minor ++ (print_end h.line_end ++ (print_section h.fields h.last ++ [])))))
        ≡ ((print_blank h.blank ++ (h.method ++ 32 ∷ (h.target ++ 32 ∷ print_version h.minor))) ++ (print_end h.line_end ++ flat_map print_field h.fields)) ++ print_end h.last
    regroup = simp (append_assoc, append-nil)

pub none_later : (old piece new : List ℕ) → HasNoRequest old → new ≡ old ++ piece → HasNoEnd (length old) new → HasNoRequest new
none_later old piece new none is ends h rest reads =
    let size = length (print_request h) in
    let front : take size new ≡ print_request h = ap (take size) reads.1 ∙ take-append_seam (print_request h) rest in
    let fits : size ≤ length new = omega (arith, ap length reads.1, length-append (print_request h) rest) in
    ⊎_elim (λ long. ends size long fits (subst EndsEmpty (sym front) (head_ends h)))
    (λ short. none h (drop size old) (reads.0, within_front (print_request h) rest old piece (sym reads.1 ∙ is) short))
    (cases_lt (length old) size)

no_end_here : (bytes : List ℕ) (at count : ℕ) → at < length bytes → count ≡ at + 1 → (get_or bytes at 0 ≡ 10 → EndsLine (take at bytes) → ⊥) → EndsEmpty (take count (take (at + 1) bytes)) → ⊥
no_end_here bytes at count under is here ends =
    let before = ends.0 in
    let front = take at bytes in
    let byte = get_or bytes at 0 in
    let long : count ≤ at + 1 = omega (arith, is) in
    let cut : front ++ byte ∷ [] ≡ before ++ 10 ∷ [] = sym (take_more bytes at 0 under) ∙ ap (λ n. take n bytes) (sym is) ∙ sym (take-take count (at + 1) bytes long) ∙ ends.1 in
    let sizes : length front ≡ length before = omega (arith, ap length cut, length-append front (byte ∷ []), length-append before (10 ∷ [])) in
    let parts = same_parts front (byte ∷ []) before (10 ∷ []) cut sizes in
    here (ap (λ l. get_or l 0 0) parts.1) (subst EndsLine (sym parts.0) ends.2)

-- one byte more
pub no_end_more : (bytes : List ℕ) (from at : ℕ) → at < length bytes → HasNoEnd from (take at bytes) → (get_or bytes at 0 ≡ 10 → EndsLine (take at bytes) → ⊥) → HasNoEnd from (take (at + 1) bytes)
no_end_more bytes from at under before here count above fits ends =
    let whole : length (take (at + 1) bytes) ≡ at + 1 = omega (arith, length-take (at + 1) bytes, under) in
    ⊎_elim (λ last. no_end_here bytes at count under (omega (arith, last, fits, whole)) here ends)
    (λ earlier. before count above (omega (arith, earlier, length-take at bytes, under))
    (subst EndsEmpty (take-take count (at + 1) bytes (omega (arith, earlier)) ∙ sym (take-take count at bytes earlier)) ends))
    (cases_lt at count)
