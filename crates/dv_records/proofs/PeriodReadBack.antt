-- The period mart of a feed is read back from the tables of the vault.
use Rattle.dv_records.proofs.Vocabulary.{Contains, Effect, Extract, FeedDef, Hashes, IsApart, IsInLoadOrder, IsStrictlySortedBy, Key, List, Mapping, NRow, None, Option, Period, PeriodRow, Some, TableRows, Window, all_refs, ap, are_windows_valid, ascending-sorted_by, delivered_refs, effect_batch}
use Rattle.dv_records.proofs.Vocabulary.{effect_periods, effect_rows_in, filter_map, filter_map_member, flat_map, flat_map_member, history, is_valid, lists_of, map_member, member_after_sort, member_before_sort, member_of_filter_map, one_of_ties, option_map, period_cmp, period_mart, period_read}
use Rattle.dv_records.proofs.Vocabulary.{period_total, periods, periods_of, periods_read, periods_read_by, refl, refs_read, reverse, same_ascending, slice_get, sorted_by, source, subst, sym, tables, true, up_to, vault, ℕ, ◌↔◌, ◌∙◌, ◌≡◌}
use Rattle.dv_records.proofs.{FeedContents.feed_apart, FeedContents.rows_of_extract, FeedRefs.refs_told, FeedSteps.appended-history, NewestRows.reached, PeriodRuns.mart_runs, PeriodRuns.periods_told, PeriodRuns.IsRun, PeriodRuns.IsRunOf, Reversing.history_member, ValidWindows.load_order}
use Rattle.dv_records.proofs.{ValidWindows.no_history, VaultRows.vault_effect}

-- ---- a feed of the mapping

module _ (mapping : Mapping) (hashes : Hashes) (sealed : List Window) (feed : ℕ) (definition : FeedDef) (valid : is_valid mapping ≡ true)
    (windows_valid : are_windows_valid mapping hashes sealed ≡ true) (at : slice_get mapping.feeds feed ≡ Some definition) (has_table : Contains (tables mapping) (Effect feed)) (date : ℕ) where
  abbrev stored : List TableRows
  stored = vault mapping hashes sealed

  abbrev extracts : List Extract
  extracts = up_to date (history feed (reverse sealed))

  abbrev mart : List PeriodRow
  mart = period_mart sealed feed date

  abbrev told : List Period
  told = effect_periods (effect_rows_in feed stored) date

  abbrev read : Period → Option PeriodRow
  read = period_read mapping stored definition

  order : IsInLoadOrder sealed
  order = load_order mapping hashes sealed windows_valid

  apart : IsApart hashes (delivered_refs feed sealed)
  apart = feed_apart mapping hashes sealed feed definition valid windows_valid at

  -- the table's periods are the runs
  runs_told : (period : Period) → Contains told period ↔ IsRun hashes extracts period
  runs_told =
      periods_told feed sealed date order hashes apart (source mapping feed) (effect_rows_in feed stored)
      (vault_effect mapping hashes sealed feed has_table ∙ appended-history feed (effect_batch hashes (source mapping feed)) (reverse sealed))

  -- the references of an extract's list are read back
  refs_back : (refs : List Key) → Contains (lists_of extracts) refs → refs_read mapping stored definition.parent (hashes.hash refs) ≡ Some refs
  refs_back refs has =
      let (extract, member, within) = flat_map_member (λ (extract : Extract). all_refs extract.rows) extracts refs has in
      let (row, row_in, is) = map_member (λ (row : NRow). row.refs) extract.rows refs within in
      let extract_in = reached feed sealed date extract member in
      let form = (rows_of_extract mapping hashes sealed feed definition valid windows_valid at extract ((history_member feed sealed extract).0 extract_in)).forms row row_in in
      subst (λ refs. refs_read mapping stored definition.parent (hashes.hash refs) ≡ Some refs) is (refs_told mapping hashes sealed valid windows_valid feed definition at extract extract_in row row_in form)

  -- so a run's period gives its row
  run_read : (row : PeriodRow) → IsRunOf extracts row → (period : Period) → period.parent ≡ hashes.hash row.refs → period.begin ≡ row.begin → period.end ≡ row.end → read period ≡ Some row
  run_read row is period parent begin end =
      ap (λ digest. option_map (λ refs. record { refs = refs; begin = period.begin; end = period.end }) (refs_read mapping stored definition.parent digest)) parent
      ∙ ap (option_map (λ refs. record { refs = refs; begin = period.begin; end = period.end })) (refs_back row.refs is.0)
      ∙ (λ i. Some (record { refs = row.refs; begin = begin i; end = end i }))

  there : (row : PeriodRow) → Contains mart row → Contains (filter_map read told) row
  there row has =
      let is = (mart_runs feed sealed date order row).0 has in
      let period : Period = record { parent = hashes.hash row.refs; begin = row.begin; end = row.end } in
      member_of_filter_map read told period row ((runs_told period).1 (record { refs = row.refs; parent = refl; run = is })) (run_read row is period refl refl refl)

  back : (row : PeriodRow) → Contains (filter_map read told) row → Contains mart row
  back row has =
      let (period, member, reads) = filter_map_member read told row has in
      let is = (runs_told period).0 member in
      let found : PeriodRow = record { refs = is.refs; begin = period.begin; end = period.end } in
      let both : Some found ≡ Some row = sym (run_read found is.run period is.parent refl refl) ∙ reads in
      let one : found ≡ row = cc in
      subst (Contains mart) one ((mart_runs feed sealed date order found).1 is.run)

  ascends : IsStrictlySortedBy period_cmp mart
  ascends = ascending-sorted_by period_cmp period_total (flat_map (periods_of extracts) (lists_of extracts))

  read_back : sorted_by period_cmp (filter_map read told) ≡ mart
  read_back =
      same_ascending period_cmp period_total (sorted_by period_cmp (filter_map read told)) mart (ascending-sorted_by period_cmp period_total (filter_map read told)) ascends
      (λ row has. back row (member_before_sort period_cmp (filter_map read told) row has))
      (λ row has. member_after_sort period_cmp (filter_map read told) row (λ other member tie. one_of_ties period_total mart ascends other row (back other member) has tie) (there row has))

-- ---- any feed

pub periods_tell : (mapping : Mapping) (hashes : Hashes) (sealed : List Window) (feed : ℕ) → is_valid mapping ≡ true → are_windows_valid mapping hashes sealed ≡ true → Contains (tables mapping) (Effect feed)
    → (date : ℕ) → periods_read mapping (vault mapping hashes sealed) feed date ≡ period_mart sealed feed date
periods_tell mapping hashes sealed feed valid windows_valid has_table date = by (slice_get mapping.feeds feed) refl
  where
    by : (o : Option FeedDef) → slice_get mapping.feeds feed ≡ o → periods_read mapping (vault mapping hashes sealed) feed date ≡ period_mart sealed feed date
    by None at = ap (λ (o : Option FeedDef). periods_read_by mapping (vault mapping hashes sealed) o feed date) at ∙ sym (ap (λ (all : List Extract). periods (up_to date all)) (no_history mapping hashes sealed windows_valid feed at))
    by (Some definition) at = ap (λ (o : Option FeedDef). periods_read_by mapping (vault mapping hashes sealed) o feed date) at ∙ read_back mapping hashes sealed feed definition valid windows_valid at has_table date
