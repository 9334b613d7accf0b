-- The periods that a feed's effectivity rows tell, and the rows of its period mart, are the runs of its extracts.
use Rattle.dv_records.proofs.Vocabulary.{Contains, Contains-flat_map, Contains-map, EffectRow, Equal, Extract, Hashes, IsApart, IsInLoadOrder, Key, List, Period, PeriodRow, Span, Window, all_refs, ap, appended, both_tied, delivered_refs, effect_batch, effect_periods, filter, flat_map}
use Rattle.dv_records.proofs.Vocabulary.{flat_map_member, history, last_of_runs, lists_of, map, map_member, member_after_sort, member_before_sort, nat_cmp-IsAntisymmetric, nat_le, parent_period_cmp, period_cmp, period_in, period_mart, periods_of, refs_exact, reverse, runs}
use Rattle.dv_records.proofs.Vocabulary.{slice_cmp-IsAntisymmetric, sorted_by, subst, sym, up_to, ℕ, ◌↔◌, ◌∙◌, ◌≡◌}
use Rattle.dv_records.proofs.{EffectRuns.all_runs, EffectRuns.only_runs, EffectRuns.rows_up_to, NewestRows.reached, Reversing.IsNewestFirst, Reversing.history-newest_first, Reversing.history_member, Reversing.newest_first-filter, RunOrder.one_run}

-- a row of a period mart is a run of one of the extracts' lists
abbrev pub IsRunOf : List Extract → PeriodRow → Type 0
IsRunOf all row = Contains (lists_of all) row.refs × Contains (runs all row.refs) (record { begin = row.begin; end = row.end })

-- and a period is one, by the hash key of the list
pub record IsRun (hashes : Hashes) (all : List Extract) (period : Period) : Type 0 where
  pub refs : List Key
  pub parent : period.parent ≡ hashes.hash refs
  pub run : IsRunOf all (record { refs = refs; begin = period.begin; end = period.end })

module _ (feed : ℕ) (sealed : List Window) (date : ℕ) (order : IsInLoadOrder sealed) where
  abbrev extracts : List Extract
  extracts = up_to date (history feed (reverse sealed))

  pub in_order : IsNewestFirst (λ (extract : Extract). extract.load) extracts
  in_order = newest_first-filter (λ (extract : Extract). extract.load) (λ (extract : Extract). nat_le extract.load date) (history feed (reverse sealed)) (history-newest_first feed sealed order)

  -- ---- the mart

  abbrev all_periods : List PeriodRow
  all_periods = flat_map (periods_of extracts) (lists_of extracts)

  run_of : (row : PeriodRow) → Contains all_periods row → IsRunOf extracts row
  run_of row has =
      let (refs, member, within) = flat_map_member (periods_of extracts) (lists_of extracts) row has in
      let (span, there, made) = map_member (λ (span : Span). record { refs = refs; begin = span.begin; end = span.end }) (runs extracts refs) row within in
      subst (IsRunOf extracts) made (member, there)

  -- and each such run has a row
  pub mart_runs : (row : PeriodRow) → Contains (period_mart sealed feed date) row ↔ IsRunOf extracts row
  mart_runs row = (
    λ has. run_of row (member_before_sort period_cmp all_periods row has),
    λ is.
        let made : Contains (periods_of extracts row.refs) row =
        Contains-map (λ (span : Span). record { refs = row.refs; begin = span.begin; end = span.end }) (runs extracts row.refs) (record { begin = row.begin; end = row.end }) is.1 in
        member_after_sort period_cmp all_periods row (λ other has tie. one_row other (run_of other has) is tie)
        (Contains-flat_map (periods_of extracts) (lists_of extracts) row.refs row is.0 made),
  )
    where
      one_row : (other : PeriodRow) → IsRunOf extracts other → IsRunOf extracts row → period_cmp other row ≡ Equal → other ≡ row
      one_row other theirs mine tie =
          let ties = both_tied _ _ tie in
          let refs : other.refs ≡ row.refs = refs_exact other.refs row.refs ties.0 in
          let begin : other.begin ≡ row.begin = nat_cmp-IsAntisymmetric other.begin row.begin ties.1 in
          let moved : Contains (runs extracts row.refs) (record { begin = other.begin; end = other.end }) = subst (λ r. Contains (runs extracts r) (record { begin = other.begin; end = other.end })) refs theirs.1 in
          let end : other.end ≡ row.end = one_run row.refs extracts in_order (record { begin = other.begin; end = other.end }) (record { begin = row.begin; end = row.end }) moved mine.1 begin in
          λ i. record { refs = refs i; begin = begin i; end = end i }

  -- ---- the rows

  module _ (hashes : Hashes) (apart : IsApart hashes (delivered_refs feed sealed)) where
    extracts_apart : IsApart hashes (lists_of extracts)
    extracts_apart a b a_in b_in = apart a b (delivered a a_in) (delivered b b_in)
      where
        delivered : (refs : List Key) → Contains (lists_of extracts) refs → Contains (delivered_refs feed sealed) refs
        delivered refs has =
            let (extract, member, within) = flat_map_member (λ (extract : Extract). all_refs extract.rows) extracts refs has in
            Contains-flat_map (λ (extract : Extract). all_refs extract.rows) (history feed sealed) extract refs ((history_member feed sealed extract).0 (reached feed sealed date extract member)) within

    -- runs of one hash key that begin at one date are one
    pub one_period : (a b : Period) → IsRun hashes extracts a → IsRun hashes extracts b → parent_period_cmp a b ≡ Equal → a ≡ b
    one_period a b mine theirs tie =
        let (parents, begins) = both_tied _ _ tie in
        let parent : a.parent ≡ b.parent = slice_cmp-IsAntisymmetric nat_cmp-IsAntisymmetric a.parent b.parent parents in
        let begin : a.begin ≡ b.begin = nat_cmp-IsAntisymmetric a.begin b.begin begins in
        let refs : mine.refs ≡ theirs.refs = extracts_apart mine.refs theirs.refs mine.run.0 theirs.run.0 (sym mine.parent ∙ parent ∙ theirs.parent) in
        let moved : Contains (runs extracts theirs.refs) (record { begin = a.begin; end = a.end }) = subst (λ r. Contains (runs extracts r) (record { begin = a.begin; end = a.end })) refs mine.run.1 in
        let end : a.end ≡ b.end = one_run theirs.refs extracts in_order (record { begin = a.begin; end = a.end }) (record { begin = b.begin; end = b.end }) moved theirs.run.1 begin in
        λ i. record { parent = parent i; begin = begin i; end = end i }

    module _ (source : List ℕ) where
      abbrev last_rows : List EffectRow
      last_rows = last_of_runs (appended (effect_batch hashes source) extracts)

      abbrev told : List Period
      told = map period_in last_rows

      told_only : (period : Period) → Contains told period → IsRun hashes extracts period
      told_only period has =
          let (row, member, is) = map_member period_in last_rows period has in
          let (refs, delivered, parent, run) = only_runs hashes source extracts in_order extracts_apart row member in
          subst (IsRun hashes extracts) is (record { refs = refs; parent = parent; run = (delivered, run) })

      told_each : (period : Period) → IsRun hashes extracts period → Contains told period
      told_each period is =
          let (row, member, parent, begin, end) =
          all_runs hashes source extracts in_order extracts_apart is.refs (λ other there same. extracts_apart other is.refs there is.run.0 same) (record { begin = period.begin; end = period.end }) is.run.1 in
          let same : period_in row ≡ period = λ i. record { parent = (parent ∙ sym is.parent) i; begin = begin i; end = end i } in
          subst (Contains told) same (Contains-map period_in last_rows row member)

      -- the periods that the rows tell are the runs
      pub periods_told : (rows : List EffectRow) → rows ≡ appended (effect_batch hashes source) (history feed (reverse sealed)) → (period : Period) → Contains (effect_periods rows date) period ↔ IsRun hashes extracts period
      periods_told rows made period = (
        λ has. told_only period (member_before_sort parent_period_cmp told period (subst (λ (periods : List Period). Contains periods period) are has)),
        λ is.
            subst (λ (periods : List Period). Contains periods period) (sym are)
            (member_after_sort parent_period_cmp told period (λ other there tie. one_period other period (told_only other there) is tie) (told_each period is)),
      )
        where
          early : filter (λ row. nat_le row.load date) rows ≡ appended (effect_batch hashes source) extracts
          early = ap (filter (λ (row : EffectRow). nat_le row.load date)) made ∙ rows_up_to hashes source date (history feed (reverse sealed)) (history-newest_first feed sealed order)

          are : effect_periods rows date ≡ sorted_by parent_period_cmp told
          are = ap (λ rows. sorted_by parent_period_cmp (map period_in (last_of_runs rows))) early
