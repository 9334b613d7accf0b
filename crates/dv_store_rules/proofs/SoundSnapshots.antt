-- The heads of the snapshots of a state break no rule of form.
use Rattle.dv_store_rules.proofs.Vocabulary.{Contains, Contains-nil, Hashes, IsStrictlySortedBy, Less, List, Mapping, None, Option, SnapHead, Some, State, WindowHead, [], and_from, and_parts, ap, are_dates_valid, are_not_later, arith, ascends, eqb-true, head_of, heads_weight, in_order}
use Rattle.dv_store_rules.proofs.Vocabulary.{is_snapshot, last_load, last_or, last_sealed, le-leb, leb-true, length, length-append, length-map, lt-ltb, map, map-append, map-id, map-map, most_snapshot_weight, most_snapshots, nat_cmp, nat_le, nat_lt, nat_tests, not, option_map_or, passes_at}
use Rattle.dv_store_rules.proofs.Vocabulary.{ranked, refl, snapshot, snapshot_flaw, snapshot_rule, snapshots_weight, subst, suc, sum, sum-map, sum_by, sum_by-append, sum_by-cons, sym, true, ℕ, ◌++◌, ◌+◌, ◌<◌, ◌∙◌, ◌∷◌, ◌≡◌, ◌≤◌}
use Rattle.dv_store_rules.proofs.{Flawless.flawless, Splits.item_in, Splits.last_less, Splits.less_before}

-- a date that is not later than the last one
reached : (last : Option ℕ) (dates : List ℕ) (date : ℕ) → are_not_later last dates ≡ true → Contains dates date → not (option_map_or (λ last. nat_lt last date) last true) ≡ true
reached None [] date all has = Contains-nil date has
reached None (first ∷ dates) date all has = let none : suc (length dates) ≡ 0 = eqb-true (suc (length dates)) 0 all in absurd (omega (arith, none))
reached (Some last) dates date all has = let le = passes_at (λ d. nat_le d last) dates date all has in grind (arith, nat_tests, le)

-- what is made of items, weighed
pub weighed : {X : Type 0} (at : X → SnapHead) (xs : List X) → heads_weight (map at xs) ≡ sum_by (λ x. (at x).weight) xs
weighed at xs = sym (sum-map (λ (head : SnapHead). head.weight) (map at xs)) ∙ ap sum (map-map (λ (head : SnapHead). head.weight) at xs) ∙ sum-map (λ x. (at x).weight) xs

module _ (mapping : Mapping) (hashes : Hashes) (state : State) (valid : are_dates_valid mapping hashes state ≡ true) where
  abbrev at : ℕ → SnapHead
  at date = (snapshot mapping hashes state.sealed date).head

  abbrev date_of : SnapHead → ℕ
  date_of head = head.date

  -- the last sealed window's date, of its head and of itself
  last_same : last_sealed (map head_of state.sealed) ≡ last_load state.sealed
  last_same = ap (last_or None) (map-map (λ (head : WindowHead). head.load) head_of state.sealed)

  record Parts : Type 0 where
    ascending : ascends state.dates ≡ true
    not_later : are_not_later (last_load state.sealed) state.dates ≡ true
    few : length state.dates ≤ most_snapshots
    light : snapshots_weight mapping hashes state.sealed state.dates ≤ most_snapshot_weight

  the_parts : Parts
  the_parts =
      let (abc, d) = and_parts _ _ valid in
      let (ab, c) = and_parts _ _ abc in
      let (a, b) = and_parts (ascends state.dates) (are_not_later (last_load state.sealed) state.dates) ab in
      record { ascending = a; not_later = b; few = leb-true _ _ c; light = leb-true _ _ d }

  module _ (before : List SnapHead) (head : SnapHead) (after : List SnapHead) (e : map at state.dates ≡ before ++ head ∷ after) where
    dates_are : state.dates ≡ map date_of before ++ head.date ∷ map date_of after
    dates_are = sym (map-map date_of at state.dates ∙ map-id state.dates) ∙ ap (map date_of) e ∙ map-append date_of before (head ∷ after)

    earlier : (n : ℕ) → Contains (map date_of before) n → n < head.date
    earlier n has =
        ranked n head.date Less (sym (less_before nat_cmp (map date_of before) head.date (map date_of after)
        (subst (IsStrictlySortedBy nat_cmp) dates_are (in_order state.dates the_parts.ascending)) n has))

    light_so_far : heads_weight before + head.weight ≤ most_snapshot_weight
    light_so_far =
        let all : heads_weight (before ++ head ∷ after) ≡ snapshots_weight mapping hashes state.sealed state.dates = sym (ap heads_weight e) ∙ weighed at state.dates in
        let both = sum_by-append (λ (h : SnapHead). h.weight) before (head ∷ after) in
        let one = sum_by-cons (λ (h : SnapHead). h.weight) head after in
        let most = the_parts.light in
        omega (arith, all, both, one, most)

    few_before : length before < most_snapshots
    few_before =
        let count : length state.dates ≡ length before + length (head ∷ after) = sym (length-map state.dates at) ∙ ap length e ∙ length-append before (head ∷ after) in
        let some : length (head ∷ after) ≡ suc (length after) = refl in
        let few = the_parts.few in
        omega (arith, few, count, some)

    sound_snapshot : is_snapshot (map head_of state.sealed) before head ≡ true
    sound_snapshot =
        and_from _ _ (and_from _ _ (and_from _ _
        (last_less (map date_of before) head.date earlier)
        (rw last_same (reached (last_load state.sealed) state.dates head.date the_parts.not_later (subst (λ dates. Contains dates head.date) (sym dates_are) (item_in (map date_of before) head.date (map date_of after))))))
        (le-leb _ _ light_so_far)) (lt-ltb _ _ few_before)

  -- no snapshot of them breaks its rule
  pub sound_snapshots : snapshot_flaw (map head_of state.sealed) (map at state.dates) ≡ None
  sound_snapshots = flawless (snapshot_rule (map head_of state.sealed)) (map at state.dates) (λ before head after e. rw (sound_snapshot before head after e))
