-- The snapshots of a state stay what they are when a later window is sealed.
use Rattle.dv_window.proofs.Vocabulary.{Contains, Contains-nil, Hashes, List, Mapping, None, Option, Snap, Some, State, Window, [], all_pass, and_from, and_parts, ap, are_dates_valid, are_not_later, arith, ascends, eqb-true, heads_of_state, heads_weight, last_load, last_or, last_or_pushed}
use Rattle.dv_window.proofs.Vocabulary.{late_after, later_than_last, le-leb, length, list_all, ltb-true, map, map-append, map-map, most_snapshot_weight, most_snapshots, nat_le, nat_tests, passes_at, sealed_with, snapshot, snapshots_same, snapshots_weight, suc, sym, true, weighed, ℕ, ◌++◌, ◌<◌}
use Rattle.dv_window.proofs.Vocabulary.{◌∙◌, ◌∷◌, ◌≡◌}

-- a date that is not later than the last sealed window is earlier than a window behind it
earlier_date : (last : Option ℕ) (load : ℕ) (dates : List ℕ) → are_not_later last dates ≡ true → late_after last load ≡ None → (date : ℕ) → Contains dates date → date < load
earlier_date None load [] all late date has = Contains-nil date has
earlier_date None load (first ∷ dates) all late date has = let none : suc (length dates) ≡ 0 = eqb-true (suc (length dates)) 0 all in absurd (omega (arith, none))
earlier_date (Some last) load dates all late date has =
    let le = passes_at (λ d. nat_le d last) dates date all has in
    let less = ltb-true last load (later_than_last last load late) in
    grind (arith, nat_tests, le, less)

module _ (mapping : Mapping) (hashes : Hashes) (state : State) (window : Window) (late : late_after (last_load state.sealed) window.load ≡ None) (valid : are_dates_valid mapping hashes state ≡ true) where
  record Parts : Type 0 where
    ascending : ascends state.dates ≡ true
    not_later : are_not_later (last_load state.sealed) state.dates ≡ true
    few : nat_le (length state.dates) most_snapshots ≡ true
    light : nat_le (snapshots_weight mapping hashes state.sealed state.dates) most_snapshot_weight ≡ true

  the_parts : Parts
  the_parts =
      let (abc, d) = and_parts _ _ valid in
      let (ab, c) = and_parts _ _ abc in
      let (a, b) = and_parts (ascends state.dates) (are_not_later (last_load state.sealed) state.dates) ab in
      record { ascending = a; not_later = b; few = c; light = d }

  earlier : (date : ℕ) → Contains state.dates date → date < window.load
  earlier = earlier_date (last_load state.sealed) window.load state.dates the_parts.not_later late

  -- the stored snapshots
  pub stored_stay : map (snapshot mapping hashes (state.sealed ++ window ∷ [])) state.dates ≡ map (snapshot mapping hashes state.sealed) state.dates
  stored_stay = snapshots_same mapping hashes state.sealed window state.dates earlier

  -- and their heads
  pub stored_heads_stay : heads_of_state mapping hashes (sealed_with window state) ≡ heads_of_state mapping hashes state
  stored_heads_stay =
      sym (map-map (λ (snap : Snap). snap.head) (snapshot mapping hashes (state.sealed ++ window ∷ [])) state.dates)
      ∙ ap (map (λ (snap : Snap). snap.head)) stored_stay
      ∙ map-map (λ (snap : Snap). snap.head) (snapshot mapping hashes state.sealed) state.dates

  weight_stays : snapshots_weight mapping hashes (state.sealed ++ window ∷ []) state.dates ≡ snapshots_weight mapping hashes state.sealed state.dates
  weight_stays =
      sym (weighed (λ date. (snapshot mapping hashes (state.sealed ++ window ∷ []) date).head) state.dates)
      ∙ ap heads_weight stored_heads_stay
      ∙ weighed (λ date. (snapshot mapping hashes state.sealed date).head) state.dates

  last_is : last_load (state.sealed ++ window ∷ []) ≡ Some window.load
  last_is = ap (last_or None) (map-append (λ (w : Window). w.load) state.sealed (window ∷ [])) ∙ last_or_pushed None (map (λ (w : Window). w.load) state.sealed) window.load

  none_later : list_all (λ date. nat_le date window.load) state.dates ≡ true
  none_later = all_pass (λ date. nat_le date window.load) state.dates (λ date has. let less = earlier date has in le-leb date window.load (omega (arith, less)))

  -- the dates are valid with the window sealed
  pub dates_still_valid : are_dates_valid mapping hashes (sealed_with window state) ≡ true
  dates_still_valid =
      and_from _ _ (and_from _ _ (and_from _ _
      the_parts.ascending
      (ap (λ last. are_not_later last state.dates) last_is ∙ none_later))
      the_parts.few)
      (ap (λ weight. nat_le weight most_snapshot_weight) weight_stays ∙ the_parts.light)
