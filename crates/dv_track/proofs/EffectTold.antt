-- The periods that effectivity rows tell: of each run what its last row says.
use Rattle.dv_track.proofs.Vocabulary.{Bool, Contains, Contains-map, EffectRow, Equal, Equal-is, Greater, IsEquivalence, Less, List, None, Option, Ordering, Period, Some, [], ap, digest_cmp, eq-eqb, eq_by_cmp, eq_by_cmp_equiv, eqb-true, false, false_from_ne_true, false≢true, find, find-append}
use Rattle.dv_track.proofs.Vocabulary.{find_none, is_eq, is_eq-slice_cmp, is_of_one_run, last_of_runs, list_any, map, map_member, nat_cmp, nat_cmp-IsAntisymmetric, nat_cmp_total, none_found_at, none_passes, option_or, option_or-none, ordering_then, parent_period_cmp, parent_period_total}
use Rattle.dv_track.proofs.Vocabulary.{period_in, refl, reverse, reverse-append, reverse_member, same_answer, same_firsts, some_passes, sorted_by, sym, true, ℕ, ◌&&◌, ◌==◌, ◌∙◌, ◌∷◌, ◌≡◌}

-- ---- rows of one run tell periods that tie

both_tie : (r s : Ordering) → is_eq (ordering_then r s) ≡ (is_eq r && is_eq s)
both_tie Less s = refl
both_tie Equal s = refl
both_tie Greater s = refl

tied_numbers : (a b : ℕ) → is_eq (nat_cmp a b) ≡ (a == b)
tied_numbers a b =
    same_answer (is_eq (nat_cmp a b)) (a == b) (λ e. eq-eqb a b (nat_cmp-IsAntisymmetric a b ((Equal-is (nat_cmp a b)).0 e)))
    (λ e. ap (λ n. is_eq (nat_cmp a n)) (sym (eqb-true a b e)) ∙ (eq_by_cmp_equiv nat_cmp_total).refl a)

abbrev ties : Period → Period → Bool
ties = eq_by_cmp parent_period_cmp

one_run : (a b : EffectRow) → is_of_one_run a b ≡ ties (period_in a) (period_in b)
one_run a b =
    sym (both_tie (digest_cmp a.parent b.parent) (nat_cmp a.begin b.begin) ∙ (λ i. is_eq-slice_cmp a.parent b.parent i && tied_numbers a.begin b.begin i))

-- ---- of each run the newest row

module _ (z : Period) where
  abbrev p : EffectRow → Bool
  p row = ties z (period_in row)

  abbrev found : List EffectRow → Option Period
  found rows = find (ties z) (map period_in rows)

  same : IsEquivalence ties
  same = eq_by_cmp_equiv parent_period_total

  -- what a search for z finds first from the end on
  last_found : (row : EffectRow) (later : List EffectRow) → find (ties z) (reverse (map period_in (row ∷ later))) ≡ option_or (find (ties z) (reverse (map period_in later))) (find (ties z) (period_in row ∷ []))
  last_found row later = ap (find (ties z)) (reverse-append (period_in row ∷ []) (map period_in later)) ∙ find-append (ties z) (reverse (map period_in later)) (period_in row ∷ [])

  -- where a later row ties, the search ends before this one
  found_first : (first second wanted : Option Period) (rows : List EffectRow) → find (ties z) (reverse (map period_in rows)) ≡ first → (other : EffectRow) → Contains rows other → p other ≡ true
      → first ≡ wanted → option_or first second ≡ wanted
  found_first (Some x) second wanted rows e other member has is = is
  found_first None second wanted rows e other member has is =
      absurd
      (false≢true
      (sym (none_found_at (ties z) (reverse (map period_in rows)) (period_in other) e ((reverse_member (map period_in rows) (period_in other)).1 (Contains-map period_in rows other member))) ∙ has))

  same_found : (rows : List EffectRow) → find (ties z) (reverse (map period_in rows)) ≡ found (last_of_runs rows)
  same_found [] = refl
  same_found (row ∷ later) = last_found row later ∙ by (list_any (is_of_one_run row) later) (p row) refl refl (same_found later)
    where
      -- where no later row is of the run, none ties
      none_later : list_any (is_of_one_run row) later ≡ false → p row ≡ true → find (ties z) (reverse (map period_in later)) ≡ None
      none_later again tied =
          find_none (ties z) (reverse (map period_in later)) (λ period has.
          let (other, member, is) = map_member period_in later period ((reverse_member (map period_in later) period).0 has) in
          false_from_ne_true (ties z period) (λ passes.
          let one : ties (period_in row) (period_in other) ≡ true = sym (same.congr z (period_in row) (period_in other) tied) ∙ ap (ties z) is ∙ passes in
          false≢true (sym (none_passes (is_of_one_run row) later other again member) ∙ one_run row other ∙ one)))

      by : (again tied : Bool) → list_any (is_of_one_run row) later ≡ again → p row ≡ tied → find (ties z) (reverse (map period_in later)) ≡ found (last_of_runs later)
          → option_or (find (ties z) (reverse (map period_in later))) (find (ties z) (period_in row ∷ [])) ≡ found (last_of_runs (row ∷ later))
      -- a later row of the run is found, and stands for this one
      by true true again tied rest =
          let (other, member, one) = some_passes (is_of_one_run row) later again in
          let has : p other ≡ true = same.congr z (period_in row) (period_in other) tied ∙ sym (one_run row other) ∙ one in
          found_first (find (ties z) (reverse (map period_in later))) _ _ later refl other member has (rw again rest)
      by true false again tied rest = rw (tied, again) (option_or-none (find (ties z) (reverse (map period_in later))) ∙ rest)
      by false true again tied rest = rw (tied, again, tied, none_later again tied) refl
      by false false again tied rest = rw (tied, again, tied) (option_or-none (find (ties z) (reverse (map period_in later))) ∙ rest)

-- the newest of the periods that tie are those of the last rows of runs
pub newest_told : (rows : List EffectRow) → sorted_by parent_period_cmp (reverse (map period_in rows)) ≡ sorted_by parent_period_cmp (map period_in (last_of_runs rows))
newest_told rows = same_firsts parent_period_total (reverse (map period_in rows)) (map period_in (last_of_runs rows)) (λ z. same_found z rows)
