-- The rows of a period mart are the periods in which the content delivers a list.
use Rattle.dv_laws.proofs.Vocabulary.{Bool, Contains, Contains-all_refs, Contains-cons_here, Contains-flat_map, Extract, IsInLoadOrder, IsPeriod, IsStrictlySortedBy, Key, List, PeriodRow, Window, [], all_refs, ap, arith, ascending-sorted_by, common_steps, content, delivers, filter}
use Rattle.dv_laws.proofs.Vocabulary.{filtered_members, flat_map, flat_map_member, history, in_order, leb-true, mart_runs, nat_le, nat_tests, newest_rows, period_cmp, period_mart, period_total, periods_of, refl, reverse, rules, same_ascending, sym, true, up_to, ℕ, ◌↔◌, ◌∷◌, ◌≡◌, ◌≤◌}
use Rattle.dv_laws.proofs.RunTies.{is_run, never_both, present, runs_there}

-- ---- periods of tests that say the same up to a date

period-same : (p q : ℕ → Bool) (date b e : ℕ) → ((t : ℕ) → t ≤ date → p t ≡ q t) → IsPeriod p date b e → IsPeriod q date b e
period-same p q date b e h1 h2 = search (rules)

-- ---- the extracts up to a date

up_to_twice : (t date : ℕ) (all : List Extract) → t ≤ date → up_to t (up_to date all) ≡ up_to t all
up_to_twice t date [] le = refl
up_to_twice t date (x ∷ all) le = grind (arith, common_steps, nat_tests, up_to_twice t date all le)

module _ (feed : ℕ) (sealed : List Window) (date : ℕ) (order : IsInLoadOrder sealed) where
  abbrev extracts : List Extract
  extracts = up_to date (history feed (reverse sealed))

  reached : (x : Extract) → Contains extracts x → x.load ≤ date
  reached x has = leb-true x.load date ((filtered_members (λ (x : Extract). nat_le x.load date) (history feed (reverse sealed)) x).0 has).1

  -- they deliver at each date up to it what the content delivers, and afterwards what they deliver at it
  as_content : (refs : List Key) (t : ℕ) → t ≤ date → present extracts refs t ≡ delivers (content feed sealed t) refs
  as_content refs t le = ap (λ all. delivers (newest_rows all) refs) (up_to_twice t date (history feed (reverse sealed)) le)

  -- each row is a run of its list, and so a period
  pub row_period : (row : PeriodRow) → Contains (period_mart sealed feed date) row → IsPeriod (λ t. delivers (content feed sealed t) row.refs) date row.begin row.end
  row_period row has =
      let run = ((mart_runs feed sealed date order row).0 has).1 in
      let there = runs_there row.refs date extracts (in_order feed sealed date order) reached (record { begin = row.begin; end = row.end }) run in
      period-same (present extracts row.refs) (λ t. delivers (content feed sealed t) row.refs) date row.begin row.end (as_content row.refs) there

  -- a list that is in a run is one of the extracts' lists
  began : (p : ℕ → Bool) (b e : ℕ) → IsPeriod p date b e → p b ≡ true
  began p b e h1 = search (rules)

  listed : (all : List Extract) (refs : List Key) → delivers (newest_rows all) refs ≡ true → Contains (flat_map (λ (x : Extract). all_refs x.rows) all) refs
  listed all refs h1 = grind (arith, common_steps, never_both, Contains-flat_map, Contains-cons_here, Contains-all_refs)

  fewer : (all : List Extract) (p : Extract → Bool) (refs : List Key) → Contains (flat_map (λ (x : Extract). all_refs x.rows) (filter p all)) refs → Contains (flat_map (λ (x : Extract). all_refs x.rows) all) refs
  fewer all p refs has =
      let (x, member, within) = flat_map_member (λ (x : Extract). all_refs x.rows) (filter p all) refs has in
      Contains-flat_map (λ (x : Extract). all_refs x.rows) all x refs ((filtered_members p all x).0 member).0 within

  pub period_row : (row : PeriodRow) → IsPeriod (λ t. delivers (content feed sealed t) row.refs) date row.begin row.end → Contains (period_mart sealed feed date) row
  period_row row is =
      let a_run = period-same (λ t. delivers (content feed sealed t) row.refs) (present extracts row.refs) date row.begin row.end (λ t le. sym (as_content row.refs t le)) is in
      let run = is_run row.refs date extracts (in_order feed sealed date order) reached row.begin row.end a_run in
      let in_list : Contains (flat_map (λ (x : Extract). all_refs x.rows) extracts) row.refs =
      fewer extracts (λ (x : Extract). nat_le x.load row.begin) row.refs (listed (up_to row.begin extracts) row.refs (began (present extracts row.refs) row.begin row.end a_run)) in
      (mart_runs feed sealed date order row).1 (in_list, run)

pub periods_tied : (feed : ℕ) (sealed : List Window) (date : ℕ) (row : PeriodRow) → IsInLoadOrder sealed → Contains (period_mart sealed feed date) row ↔ IsPeriod (λ t. delivers (content feed sealed t) row.refs) date row.begin row.end
periods_tied feed sealed date row order = (row_period feed sealed date order row, period_row feed sealed date order row)

-- ---- the same contents

pub periods_decided : (feed date : ℕ) (a b : List Window) → IsInLoadOrder a → IsInLoadOrder b → ((t : ℕ) → t ≤ date → content feed a t ≡ content feed b t) → period_mart a feed date ≡ period_mart b feed date
periods_decided feed date a b a_order b_order same =
    same_ascending period_cmp period_total (period_mart a feed date) (period_mart b feed date) (ascends a) (ascends b)
    (moved a b a_order b_order same) (moved b a b_order a_order (λ t le. sym (same t le)))
  where
    moved : (a b : List Window) → IsInLoadOrder a → IsInLoadOrder b → ((t : ℕ) → t ≤ date → content feed a t ≡ content feed b t) → (row : PeriodRow) → Contains (period_mart a feed date) row → Contains (period_mart b feed date) row
    moved a b a_order b_order same row has =
        let told = λ (windows : List Window) (t : ℕ). delivers (content feed windows t) row.refs in
        period_row feed b date b_order row (period-same (told a) (told b) date row.begin row.end (λ t le. ap (λ rows. delivers rows row.refs) (same t le)) (row_period feed a date a_order row has))

    ascends : (windows : List Window) → IsStrictlySortedBy period_cmp (period_mart windows feed date)
    ascends windows = ascending-sorted_by period_cmp period_total (flat_map (periods_of (up_to date (history feed (reverse windows)))) (flat_map (λ (x : Extract). all_refs x.rows) (up_to date (history feed (reverse windows)))))
