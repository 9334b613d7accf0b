-- A stable sort by hash keys leaves the links of each key as they stood.
use Rattle.dv_bridge.proofs.Vocabulary.{Bool, Equal, Greater, IsPartitionPoint, IsPartitionedBy, IsPermutation, KeyedLink, KeyedRow, Less, List, None, Option, Ordering, Some, [], alike, alike_tied, ap, arith, behind_last, bytes_eq, bytes_eq-Decides, digest_cmp, drop, fails_before_first, false}
use Rattle.dv_bridge.proofs.Vocabulary.{false_from_ne_true, false≢true, filter, filter_map, get_or, get_or-drop, is_gt, is_lt, key_of, keyed_at, keyed_row, keyed_with, length, length-drop, length_permutation, map, map-map, met_by, nat_list_cmp_total, nil_from_length, not, not-true, parted_rest}
use Rattle.dv_bridge.proofs.Vocabulary.{passes_at_first, position_or_len, prefix_len-le-length, refl, run_is, subst, sym, take, text_cmp-IsAntisymmetric, texts_ties, tied_itself, ties, true, unlike_greater, unlike_less, with_key, ℕ, ◌&&◌, ◌+◌, ◌<◌, ◌∙◌, ◌∷◌, ◌≡◌, ◌≤◌}
use Rattle.std.specs.List.Sorted.{IsSortedByKey}
use Rattle.dv_bridge.proofs.LongerWays.{filter-map, filter_same}

abbrev pub is_before : KeyedLink → KeyedLink → Bool
is_before a b = is_lt (digest_cmp a.key b.key)

tied_key : (a b : KeyedLink) → ties is_before a b ≡ bytes_eq a.key b.key
tied_key a b = ap (λ r. not (is_lt (digest_cmp a.key b.key)) && not (is_lt r)) (nat_list_cmp_total.antisymm b.key a.key) ∙ alike (digest_cmp a.key b.key) ∙ sym (texts_ties a.key b.key)

pub stable_keys : (items sorted : List KeyedLink) → IsPermutation items sorted → ((x : KeyedLink) → filter (ties is_before x) sorted ≡ filter (ties is_before x) items) → (key : List ℕ) → keyed_with key sorted ≡ keyed_with key items
stable_keys [] sorted moved stable key = ap (keyed_with key) (nil_from_length sorted (length_permutation [] sorted moved))
stable_keys (one ∷ items) sorted moved stable key =
    let asked : KeyedLink = record { key = key; link = one.link } in
    filter_same _ _ sorted (λ other. sym (tied_key asked other)) ∙ stable asked ∙ filter_same _ _ (one ∷ items) (tied_key asked)

-- ---- the links of a key

-- those of a key among links beside their keys are those that have it at the place
abbrev AreFound : ℕ → List ℕ → List KeyedRow → Type 0
AreFound place key links =
    map (λ (one : List ℕ × KeyedRow). one.1) (filter (λ (one : List ℕ × KeyedRow). bytes_eq key one.0) (filter_map (keyed_at place) links)) ≡ met_by place (Some key) links

found_with : (place : ℕ) (key : List ℕ) (links : List KeyedRow) → AreFound place key links
found_with place key [] = refl
found_with place key (link ∷ links) = by (key_of place link) refl (found_with place key links)
  where
    by : (o : Option (List ℕ)) → key_of place link ≡ o → AreFound place key links → AreFound place key (link ∷ links)
    by None e rest = rw e rest
    by (Some other) e rest = same (bytes_eq key other) refl
      where
        same : (b : Bool) → bytes_eq key other ≡ b → AreFound place key (link ∷ links)
        same true t = rw (e, t) (ap (λ rows. link ∷ rows) rest)
        same false t = rw (e, t) rest

-- the lent links of a key are those that have it at the place
pub told_with : (place : ℕ) (key : List ℕ) (links : List KeyedRow) (made : List KeyedLink) → map keyed_row made ≡ filter_map (keyed_at place) links → with_key key made ≡ met_by place (Some key) links
told_with place key links made are =
    sym (map-map (λ (one : List ℕ × KeyedRow). one.1) keyed_row (keyed_with key made))
    ∙ ap (map (λ (one : List ℕ × KeyedRow). one.1)) (sym (filter-map (λ (one : List ℕ × KeyedRow). bytes_eq key one.0) keyed_row made) ∙ ap (filter (λ (one : List ℕ × KeyedRow). bytes_eq key one.0)) are)
    ∙ found_with place key links

-- ---- where the links of a key end

-- what is not less than a key ties with it or is greater
tied_or_greater : (o : Ordering) (same : Bool) → (same ≡ true → o ≡ Equal) → (o ≡ Equal → same ≡ true) → is_lt o ≡ false → not (is_gt o) ≡ same
tied_or_greater Less same ties back less = cc
tied_or_greater Equal same ties back less = sym (back refl)
tied_or_greater Greater false ties back less = refl
tied_or_greater Greater true ties back less = let tie = ties refl in cc

not_not : (b : Bool) → not b ≡ false → b ≡ true
not_not true is = refl
not_not false is = cc

-- those up to the first that is of another key are those that are not behind it
ends_at_other : {X : Type 0} (same behind : X → Bool) (xs : List X) → IsPartitionedBy (λ x. not (behind x)) xs → ((k : ℕ) (d : X) → k < length xs → not (behind (get_or xs k d)) ≡ same (get_or xs k d))
    → IsPartitionPoint (λ x. not (behind x) ≡ true) (λ x. not (behind x) ≡ false) xs (position_or_len (λ x. not (same x)) xs)
ends_at_other same behind xs parted alike =
    let end = position_or_len (λ x. not (same x)) xs in
    let within : end ≤ length xs = prefix_len-le-length (λ x. not (not (same x))) xs in (
      λ k d from under. alike k d (omega arith) ∙ not_not (same (get_or xs k d)) (fails_before_first (λ x. not (same x)) xs k d under),
      λ k d from under. false_from_ne_true (not (behind (get_or xs k d))) (λ passes.
          false≢true (sym (not-true (same (get_or xs end d)) (passes_at_first (λ x. not (same x)) xs d (omega arith))) ∙ sym (alike end d (omega arith)) ∙ parted end k d from under passes)),
    )

-- those from the first that is not less than a key up to the first of another key are those of the key
pub between_others : (key : List ℕ) (links rest : List KeyedLink) (start end : ℕ) → rest ≡ drop start links → start ≤ length links
    → IsPartitionPoint (λ (one : KeyedLink). is_lt (digest_cmp one.key key) ≡ true) (λ (one : KeyedLink). is_lt (digest_cmp one.key key) ≡ false) links start
    → IsSortedByKey (λ (one : KeyedLink). one.key) digest_cmp links → end ≡ position_or_len (λ (one : KeyedLink). not (bytes_eq key one.key)) rest
    → take end rest ≡ keyed_with key links
between_others key links rest start end is within first up at =
    let before : KeyedLink → Bool = λ one. is_lt (digest_cmp one.key key) in
    let behind : KeyedLink → Bool = λ one. is_gt (digest_cmp one.key key) in
    let passes : KeyedLink → Bool = λ one. bytes_eq key one.key in
    let tied : (one : KeyedLink) → bytes_eq key one.key ≡ true → digest_cmp one.key key ≡ Equal = λ one e. rw ((bytes_eq-Decides key one.key).0 e) (tied_itself nat_list_cmp_total one.key) in
    let same : (one : KeyedLink) → digest_cmp one.key key ≡ Equal → bytes_eq key one.key ≡ true = λ one e. (bytes_eq-Decides key one.key).1 (sym (text_cmp-IsAntisymmetric one.key key e)) in
    let not_less : (k : ℕ) (d : KeyedLink) → k < length rest → before (get_or rest k d) ≡ false = λ k d under.
    rw (is, get_or-drop start links k d) (first.1 (start + k) d (omega arith) (omega (arith, rw (is, length-drop start links) at under))) in
    let parted = parted_rest (λ (one : KeyedLink). not (behind one)) links rest start is (behind_last nat_list_cmp_total (λ (one : KeyedLink). one.key) links key up) in
    let point = ends_at_other passes behind rest parted (λ k d under. tied_or_greater _ _ (tied (get_or rest k d)) (same (get_or rest k d)) (not_less k d under)) in
    run_is before behind passes links rest start end is within first
    (subst (λ n. n ≤ length rest) (sym at) (prefix_len-le-length (λ (one : KeyedLink). not (not (passes one))) rest))
    (subst (IsPartitionPoint (λ (one : KeyedLink). not (behind one) ≡ true) (λ (one : KeyedLink). not (behind one) ≡ false) rest) (sym at) point)
    (λ one less. unlike_less _ _ (tied one) less) (λ one low high. alike_tied _ _ (same one) low high) (λ one greater. unlike_greater _ _ (tied one) greater)
