-- The periods that effectivity rows tell are the rows of the period mart, by hash key, and what is in effect is in a run.
use Rattle.dv_laws.proofs.Vocabulary.{Contains, Contains-map, Effect, EffectRow, Effects, Extract, Hashes, IsApart, IsInLoadOrder, IsRun, Key, List, Mapping, Period, PeriodRow, Window, ap, apart-reversed, appended, ascending-sorted_by, backwards, by_hash_key, delivered_refs, effect_batch}
use Rattle.dv_laws.proofs.Vocabulary.{effect_periods, effect_rows, effects_say, feed_rows, filter, history, history-newest_first, in_effect_since, last_of_runs, map, map_member, mart_runs, member_after_sort, member_before_sort, nat_le, one_period, parent_period_cmp, parent_period_total}
use Rattle.dv_laws.proofs.Vocabulary.{period_in, period_mart, periods_told, refl, reverse, run_begin, same_ascending, sorted_by, source, subst, sym, table_after, up_to, ℕ, ◌↔◌, ◌∙◌, ◌≡◌}

module _ (mapping : Mapping) (hashes : Hashes) (feed : ℕ) (sealed : List Window) (rows : List EffectRow) (table : table_after mapping hashes (backwards sealed) (Effect feed) ≡ Effects rows)
    (order : IsInLoadOrder sealed) (apart : IsApart hashes (delivered_refs feed sealed)) where
  made : rows ≡ appended (effect_batch hashes (source mapping feed)) (history feed (reverse sealed))
  made = feed_rows feed (effect_batch hashes (source mapping feed)) (reverse sealed) rows (ap effect_rows table)

  module _ (date : ℕ) where
    abbrev extracts : List Extract
    extracts = up_to date (history feed (reverse sealed))

    abbrev by_key : List Period
    by_key = map (by_hash_key hashes) (period_mart sealed feed date)

    -- the rows of the mart are the runs
    mart_only : (period : Period) → Contains by_key period → IsRun hashes extracts period
    mart_only period has =
        let (row, member, is) = map_member (by_hash_key hashes) (period_mart sealed feed date) period has in
        subst (IsRun hashes extracts) is (record { refs = row.refs; parent = refl; run = (mart_runs feed sealed date order row).0 member })

    mart_each : (period : Period) → IsRun hashes extracts period → Contains by_key period
    mart_each period is =
        let row : PeriodRow = record { refs = is.refs; begin = period.begin; end = period.end } in
        let same : by_hash_key hashes row ≡ period = λ i. record { parent = sym is.parent i; begin = period.begin; end = period.end } in
        subst (Contains by_key) same (Contains-map (by_hash_key hashes) (period_mart sealed feed date) row ((mart_runs feed sealed date order row).1 is.run))

    -- and so are the periods that the table tells
    told : (period : Period) → Contains (effect_periods rows date) period ↔ IsRun hashes extracts period
    told = periods_told feed sealed date order hashes apart (source mapping feed) rows made

    pub effects_tell : effect_periods rows date ≡ sorted_by parent_period_cmp (map (by_hash_key hashes) (period_mart sealed feed date))
    effects_tell =
        same_ascending parent_period_cmp parent_period_total (effect_periods rows date) (sorted_by parent_period_cmp by_key)
        (ascending-sorted_by parent_period_cmp parent_period_total (map period_in (last_of_runs (filter (λ row. nat_le row.load date) rows)))) (ascending-sorted_by parent_period_cmp parent_period_total by_key)
        (λ period has.
        let is = (told period).0 has in
        member_after_sort parent_period_cmp by_key period (λ other there tie. one_period feed sealed date order hashes apart other period (mart_only other there) is tie) (mart_each period is))
        (λ period has. (told period).1 (mart_only period (member_before_sort parent_period_cmp by_key period has)))

  pub since_tells : (refs : List Key) → ((other : List Key) → Contains (delivered_refs feed sealed) other → hashes.hash other ≡ hashes.hash refs → other ≡ refs)
      → (date : ℕ) → in_effect_since rows (hashes.hash refs) date ≡ run_begin (up_to date (history feed (reverse sealed))) refs
  since_tells refs own date =
      let all = apart-reversed hashes feed sealed refs apart own in
      ap (λ (rows : List EffectRow). in_effect_since rows (hashes.hash refs) date) made
      ∙ effects_say hashes (source mapping feed) refs date (history feed (reverse sealed)) (history-newest_first feed sealed order) all.0 all.1
