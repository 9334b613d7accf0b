-- A text is its own normal form where no blank is first or last, and, as a part of a key, no letter is small.
use Rattle.dv_window_rules.proofs.Vocabulary.{Bool, List, [], and_from, and_parts, ap, arith, drop, eq-eqb, eqb-true, false, false_from_ne_true, is_blank, length, length-drop, length-map, length-take, list_all, map, norm_field, norm_key, prefix_len, prefix_len-le-length, refl, same_answer}
use Rattle.dv_window_rules.proofs.Vocabulary.{same_text, suffix_len, suffix_len-le-length, sym, take, take-length, texts_eq, texts_eq-Decides, to_ascii_uppercase, true, without_leading, without_trailing, ℕ, ◌&&◌, ◌-◌, ◌==◌, ◌∙◌, ◌∷◌, ◌≡◌}

-- ---- fields

trimmed_itself : (t : List ℕ) → prefix_len is_blank t ≡ 0 → suffix_len is_blank t ≡ 0 → norm_field t ≡ t
trimmed_itself t first last =
    let whole : without_leading t ≡ t = ap (λ n. drop n t) first in
    let count : length t - suffix_len is_blank t ≡ length t = omega (arith, last) in
    ap without_trailing whole ∙ ap (λ n. take n t) count ∙ take-length t

no_leading : (t : List ℕ) → length (norm_field t) ≡ length t → prefix_len is_blank t ≡ 0
no_leading t same =
    let u = without_leading t in
    let count : length (take (length u - suffix_len is_blank u) u) ≡ length t = same in
    omega (arith, length-take (length u - suffix_len is_blank u) u, length-drop (prefix_len is_blank t) t, prefix_len-le-length is_blank t, count)

no_trailing : (t : List ℕ) → length (norm_field t) ≡ length t → suffix_len is_blank t ≡ 0
no_trailing t same =
    let whole : without_leading t ≡ t = ap (λ n. drop n t) (no_leading t same) in
    let count : length (take (length t - suffix_len is_blank t) t) ≡ length t = ap (λ u. length (without_trailing u)) (sym whole) ∙ same in
    omega (arith, length-take (length t - suffix_len is_blank t) t, suffix_len-le-length is_blank t, count)

-- what a text's normal form is not shorter than is the text
as_long : (t : List ℕ) → length (norm_field t) ≡ length t → norm_field t ≡ t
as_long t same = trimmed_itself t (no_leading t same) (no_trailing t same)

one_text_from : (a b : List ℕ) → a ≡ b → texts_eq (a ∷ []) (b ∷ []) ≡ true
one_text_from a b e = (texts_eq-Decides (a ∷ []) (b ∷ [])).1 (ap (λ t. t ∷ []) e)

trimmed_told : (t : List ℕ) → ((prefix_len is_blank t == 0) && (suffix_len is_blank t == 0)) ≡ texts_eq (norm_field t ∷ []) (t ∷ [])
trimmed_told t =
    same_answer ((prefix_len is_blank t == 0) && (suffix_len is_blank t == 0)) (texts_eq (norm_field t ∷ []) (t ∷ []))
    (λ e.
    let (first, last) = and_parts (prefix_len is_blank t == 0) (suffix_len is_blank t == 0) e in
    one_text_from (norm_field t) t (trimmed_itself t (eqb-true _ _ first) (eqb-true _ _ last)))
    (λ e.
    let same : length (norm_field t) ≡ length t = ap length (same_text (norm_field t) t e) in
    and_from (prefix_len is_blank t == 0) (suffix_len is_blank t == 0) (eq-eqb _ _ (no_leading t same)) (eq-eqb _ _ (no_trailing t same)))

pub trimmed_last : (t : List ℕ) → prefix_len is_blank t ≡ 0 → (suffix_len is_blank t == 0) ≡ texts_eq (norm_field t ∷ []) (t ∷ [])
trimmed_last t first = ap (λ b. b && (suffix_len is_blank t == 0)) (sym (eq-eqb (prefix_len is_blank t) 0 first)) ∙ trimmed_told t

pub not_trimmed : (t : List ℕ) → (prefix_len is_blank t ≡ 0 → ⊥) → false ≡ texts_eq (norm_field t ∷ []) (t ∷ [])
not_trimmed t blank = sym (false_from_ne_true (texts_eq (norm_field t ∷ []) (t ∷ [])) (λ e. blank (no_leading t (ap length (same_text (norm_field t) t e)))))

-- ---- parts of keys

-- bytes that raising leaves
abbrev is_left : ℕ → Bool
is_left b = to_ascii_uppercase b == b

all_left : (t : List ℕ) → list_all is_left t ≡ true → map to_ascii_uppercase t ≡ t
all_left [] e = refl
all_left (b ∷ t) e =
    let (here, rest) = and_parts (is_left b) (list_all is_left t) e in
    let same : to_ascii_uppercase b ≡ b = eqb-true (to_ascii_uppercase b) b here in
    let later : map to_ascii_uppercase t ≡ t = all_left t rest in
    ap (λ c. c ∷ map to_ascii_uppercase t) same ∙ ap (λ u. b ∷ u) later

left_all : (t : List ℕ) → map to_ascii_uppercase t ≡ t → list_all is_left t ≡ true
left_all [] e = refl
left_all (b ∷ t) e =
    let both : to_ascii_uppercase b ∷ map to_ascii_uppercase t ≡ b ∷ t = e in
    let here : to_ascii_uppercase b ≡ b = cc in
    let rest : map to_ascii_uppercase t ≡ t = cc in
    and_from (is_left b) (list_all is_left t) (eq-eqb (to_ascii_uppercase b) b here) (left_all t rest)

raised_told : (t : List ℕ) → (texts_eq (norm_field t ∷ []) (t ∷ []) && list_all (λ b. to_ascii_uppercase b == b) t) ≡ texts_eq (norm_key t ∷ []) (t ∷ [])
raised_told t =
    same_answer (texts_eq (norm_field t ∷ []) (t ∷ []) && list_all is_left t) (texts_eq (norm_key t ∷ []) (t ∷ []))
    (λ e.
    let (trimmed, raised) = and_parts (texts_eq (norm_field t ∷ []) (t ∷ [])) (list_all is_left t) e in
    one_text_from (norm_key t) t (ap (map to_ascii_uppercase) (same_text (norm_field t) t trimmed) ∙ all_left t raised))
    (λ e.
    let same : norm_key t ≡ t = same_text (norm_key t) t e in
    let count : length (norm_field t) ≡ length t = sym (length-map (norm_field t) to_ascii_uppercase) ∙ ap length same in
    let itself : norm_field t ≡ t = as_long t count in
    and_from (texts_eq (norm_field t ∷ []) (t ∷ [])) (list_all is_left t) (one_text_from (norm_field t) t itself) (left_all t (ap (map to_ascii_uppercase) (sym itself) ∙ same)))

pub raised_part : (t : List ℕ) → texts_eq (norm_field t ∷ []) (t ∷ []) ≡ true → list_all (λ b. to_ascii_uppercase b == b) t ≡ texts_eq (norm_key t ∷ []) (t ∷ [])
raised_part t trimmed = ap (λ b. b && list_all is_left t) (sym trimmed) ∙ raised_told t

pub untrimmed_part : (t : List ℕ) → texts_eq (norm_field t ∷ []) (t ∷ []) ≡ false → false ≡ texts_eq (norm_key t ∷ []) (t ∷ [])
untrimmed_part t blank = ap (λ b. b && list_all is_left t) (sym blank) ∙ raised_told t
