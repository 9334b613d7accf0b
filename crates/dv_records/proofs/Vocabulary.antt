-- What the proofs of this crate, and of those above it, take from elsewhere.
pub use Rattle.dv_catalog.proofs.Vocabulary.{Mapping, all_pass, all_pass_both, effect_tables, feed_tables, is_declared, is_hub, is_none, is_valid, list_any-map, map_member, nat_lt, none_from, or_none, parent_hubs, parts_of, position_or_len, sat_tables, tables}
pub use Rattle.dv_index.proofs.Vocabulary.{Bool, Contains, Contains-append_cases, Contains-append_left, Contains-append_right, Contains-cons_cases, Contains-cons_here, Contains-cons_there, Contains-nil, Contains-range, IsTotalOrder, List, None, Option, Place, Some, [], all_members}
pub use Rattle.dv_index.proofs.Vocabulary.{always_returns_same, and_from, and_parts, ap, append-nil, are_in_load_order, arith, ascending-sorted_by, bytes_eq, bytes_eq-Decides, drop, false, false≢true, filter_map, filter_map_member, find, find-append, found_member, get_or, get_or-map}
pub use Rattle.dv_index.proofs.Vocabulary.{get_or_from_slice_get, if◌then◌else◌, inl, inr, is_lt, le-leb, leb-true, length, list_all, map, map-append, member_after_sort, member_of_filter_map, nat_cmp, nat_le, nat_tests, none-some, not-false, not-true, option_map, option_or, ordering_then}
pub use Rattle.dv_index.proofs.Vocabulary.{passes_at, range_with_len, refl, reverse, reverse-append, rules, same_ascending, slice_get, sorted_by, subst, suc, sym, take, text_cmp-IsAntisymmetric, true, turned, zero, ℕ, ◌++◌, ◌+◌, ◌-◌, ◌<◌, ◌==◌, ◌∙◌, ◌∷◌, ◌≡◌, ◌≤◌, ◌⊎◌}
pub use Rattle.dv_text.proofs.Vocabulary.{All-contains, All-contains_itself, AllByRecursion, common_steps, cond, eqb-true, flat_map, insert_by, is_eq, is_some, key_cmp-IsAntisymmetric, list_any, lt-ltb, nat_cmp-IsAntisymmetric, nat_cmp_is, nat_list_cmp_total, not, open_end, pointwise, position}
pub use Rattle.dv_text.proofs.Vocabulary.{refs_cmp, refs_eq, row_cmp, row_eq, slice_cmp-IsAntisymmetric, slice_eq-Decides, texts_eq, ◌^◌, ◌||◌, ◌↔◌}
pub use Rattle.dv_catalog.proofs.{PlaceSteps.place_or_len, ValidReads.valid_feed, ValidReads.valid_link}
pub use Rattle.dv_catalog.specs.{Feeds.feed_hubs, Feeds.is_fed_by, Feeds.keys_at, Feeds.link_hubs, Feeds.source, Feeds.source as source_of, Records.are_rivals}
pub use Rattle.dv_catalog.specs.declared.{entries.FeedDef.FeedDef, entries.LinkDef.LinkDef, entries.Parent.Parent, entries.Parent.TheVariants.Hub, entries.Parent.TheVariants.Link, tables.TableId.TableId, tables.TableId.TheVariants.Effect, tables.TableId.TheVariants.Multi}
pub use Rattle.dv_catalog.specs.declared.{tables.TableId.TheVariants.Sat, tables.TableId.TheVariants.Status}
pub use Rattle.dv_index.proofs.Order.{loads_rise}
pub use Rattle.dv_records.specs.{Backwards.Backwards, Backwards.backwards, Backwards.with_newest, Batches.IsBatchOf, Batches.IsWholeBatch, Batches.appended, Batches.batch_of, Batches.digest_cmp, Collisions.IsApart, Collisions.IsLeastPair, Collisions.IsPairOf, Collisions.Pair}
pub use Rattle.dv_records.specs.{Collisions.collision, Collisions.collision_in, Collisions.first_collision, Collisions.hashed_refs, Collisions.least_pair, Collisions.missing_refs, Collisions.pair_cmp, Collisions.parents, Deliveries.deliveries, Deliveries.first_offer, Deliveries.is_known}
pub use Rattle.dv_records.specs.{Deliveries.is_offered, Deliveries.offered_refs, Deliveries.offers, Deliveries.offers_of, Deliveries.refs_from, Deliveries.table_of, EffectPeriods.effect_periods, EffectPeriods.in_effect_since, EffectPeriods.is_of_one_run, EffectPeriods.last_of_runs}
pub use Rattle.dv_records.specs.{EffectPeriods.opened_by, EffectPeriods.parent_period_cmp, EffectPeriods.period_in, Effects.IsEffectBatch, Effects.effect_batch, Effects.effect_cmp, Effects.effect_row, Effects.span_between, History.AreNewestFirst, History.Extract, History.IsInLoadOrder}
pub use Rattle.dv_records.specs.{History.all_refs, History.content, History.delivered_refs, History.delivers, History.extract_of, History.history, History.lists_of, History.newest_rows, History.up_to, Hubs.IsHubBatch, Hubs.IsLinkBatch, Hubs.each_hash, Hubs.hub_batch, Hubs.hub_row}
pub use Rattle.dv_records.specs.{Hubs.link_batch, Hubs.link_row, Hubs.only_key, Limits.most_field_bytes, Limits.most_records, Limits.most_snapshot_weight, Limits.most_snapshots, Limits.most_weight, Limits.most_window_records, Marts.hub_feeds, Marts.path_mart, Marts.path_rows_by, Marts.period_cmp}
pub use Rattle.dv_records.specs.{Marts.period_mart, Marts.periods, Marts.periods_of, Ranks.multi_total, Ranks.period_total, ReadBack.any_content_read, ReadBack.any_content_read_by, ReadBack.attrs_read, ReadBack.content_read, ReadBack.content_read_by, ReadBack.effect_rows, ReadBack.effect_rows_in}
pub use Rattle.dv_records.specs.{ReadBack.hub_row_by, ReadBack.hub_rows, ReadBack.hub_rows_in, ReadBack.key_read, ReadBack.keys_read, ReadBack.link_row_by, ReadBack.link_rows, ReadBack.link_rows_in, ReadBack.missing_key, ReadBack.multi_content_read, ReadBack.multi_content_read_by}
pub use Rattle.dv_records.specs.{ReadBack.multi_rows, ReadBack.multi_rows_in, ReadBack.period_read, ReadBack.periods_read, ReadBack.periods_read_by, ReadBack.present_parents, ReadBack.refs_read, ReadBack.row_read, ReadBack.rows_read, ReadBack.sat_rows, ReadBack.sat_rows_in, ReadBack.status_rows}
pub use Rattle.dv_records.specs.{ReadBack.status_rows_in, Reconstruction.HasOneRowEach, Reconstruction.HasOneRowPerSub, Reconstruction.all_valid_at, Reconstruction.described_row, Reconstruction.first_attrs, Reconstruction.is_appearance, Reconstruction.loaded_with, Reconstruction.present_at}
pub use Rattle.dv_records.specs.{Reconstruction.says_present, Reconstruction.valid_at, RowViews.AddsUp, RowViews.AreOfLoad, RowViews.are_of_one_kind, RowViews.are_up_to, RowViews.is_up_to, RowViews.loads_of, Runs.Span, Runs.ended, Runs.ended_runs, Runs.open_run, Runs.run_begin, Runs.runs}
pub use Rattle.dv_records.specs.{Satellites.IsMultiBatch, Satellites.IsOnePerList, Satellites.IsOnePerSub, Satellites.IsSatBatch, Satellites.is_changed, Satellites.last_rows, Satellites.multi_batch, Satellites.multi_cmp, Satellites.multi_row, Satellites.rows_of, Satellites.sat_batch}
pub use Rattle.dv_records.specs.{Satellites.sat_cmp, Satellites.sat_row, Snapshots.bridge, Snapshots.bridge_cmp, Snapshots.bridge_row, Snapshots.pit, Snapshots.pit_cmp, Snapshots.sat_load, Snapshots.snap_head, Snapshots.snap_tables, Snapshots.snapshot, Standing.Stands, Standing.TablesStand}
pub use Rattle.dv_records.specs.{States.State, States.all_windows, States.are_dates_valid, States.are_not_later, States.are_rows_of, States.are_windows_valid, States.ascends, States.fit_hubs, States.fits_hub, States.holds_of_each_two, States.is_field, States.is_key_part, States.is_keyed}
pub use Rattle.dv_records.specs.{States.is_one_partner, States.is_one_row, States.is_row_of, States.is_staged, States.is_valid_state, States.is_window, States.last_load, States.snapshots_weight, Statuses.IsStatusBatch, Statuses.code_between, Statuses.code_of, Statuses.status_batch}
pub use Rattle.dv_records.specs.{Statuses.status_cmp, Statuses.status_row, Steps.full_with, Steps.future, Steps.later_than, Steps.snapshot_refusal, Steps.snapshots_full, Steps.taken, Steps.with_date, Stores.appended_to, Stores.are_apart, Stores.are_snap_tables_apart}
pub use Rattle.dv_records.specs.{Stores.are_snapshots_in_order, Stores.has_kind, Stores.have_kinds, Stores.is_new_snapshot, Stores.is_of_kind, Stores.is_well_formed, Stores.no_rows, Stores.row_count, Stores.rows_in, Stores.rows_of_snap, Stores.rows_then, Stores.snap_cmp, Stores.snap_id_eq}
pub use Rattle.dv_records.specs.{PlannedFailures.without_first, Stores.snapshot_rows, Stores.table_eq, Stores.with_snapshot, Vault.HoldsTable, Vault.feed_batch, Vault.table_after, Vault.table_batch, Vault.table_entry, Vault.vault, Weights.rows_weight, Weights.tables_weight, Weights.vault_weight}
pub use Rattle.dv_records.specs.declared.{deliveries.Delivery.Delivery, mart_rows.Period.Period, mart_rows.PeriodRow.PeriodRow, raw_rows.Code.Code, raw_rows.EffectRow.EffectRow, raw_rows.HubRow.HubRow, raw_rows.LinkRow.LinkRow, raw_rows.MultiRow.MultiRow, raw_rows.SatRow.SatRow}
pub use Rattle.dv_records.specs.declared.{raw_rows.StatusRow.StatusRow, snapshots.Snap.Snap, snapshots.SnapId.SnapId, snapshots.SnapId.TheVariants.Bridge, snapshots.SnapId.TheVariants.Pit, snapshots.SnapTable.SnapTable, stores.Rows.Rows, stores.Rows.TheVariants.Bridges}
pub use Rattle.dv_records.specs.declared.{planned_failures.Fail.Fail, stores.Rows.TheVariants.Hubs, stores.Rows.TheVariants.Multis, stores.Rows.TheVariants.Pits, stores.Rows.TheVariants.Sats, stores.Rows.TheVariants.Statuses, stores.Store.Store, stores.TableRows.TableRows}
pub use Rattle.dv_text.proofs.{Deciding.any_refs, Deciding.refs_eq-Decides, Deciding.refs_exact, Deciding.refs_total, Deciding.row_eq-Decides, Deciding.row_total, Deciding.texts_eq-Decides, Members.Contains-flat_map, Members.Contains-map, Members.filtered_members, Members.flat_map_member}
pub use Rattle.dv_text.proofs.{Members.member_of_all, Members.reverse_member, Options.got_member, Options.made_of, Options.none_before_map, Options.one_value, Orderings.asymmetric, Orderings.equal_first, Orderings.irreflexive, Orderings.le_from_cmp, Orderings.less_first, Orderings.then_less}
pub use Rattle.dv_text.proofs.{Passing.all_pass_replicate, Passing.all_pass_weaker, Passing.filter-all, Passing.filter-none, Passing.find_same, Passing.finds, Passing.same_answer, Passing.some_passes, Passing.some_passes_at, Places.by_place, Places.is_placed, Places.none_placed}
pub use Rattle.dv_text.proofs.{Places.placed_within, SortedLists.ascending-append, SortedLists.ascending-same, SortedLists.length-sorted_by, SortedLists.member_before_sort, SortedLists.one_of_ties, SortedLists.sorted_by-members, SortedLists.sorted_by-sorted, StableSorts.firsts-sort_dedup}
pub use Rattle.dv_text.specs.{Exact.both_tied, Exact.row_cmp-IsAntisymmetric, Keys.Hashes, Keys.is_missing, Normal.norm_field, Normal.norm_key}
pub use Rattle.dv_text.specs.declared.{rows.Key.Key, rows.NRow.NRow, rows.Staged.Staged, rows.Window.Window}
pub use Rattle.std.proofs.{Common.eq-eqb, Common.ltb-true, Common.min, Common.slice_set, lemmas.Bool.lt-leb, lemmas.Bool.or_left, lemmas.Bool.or_parts, lemmas.Bool.or_right, lemmas.Fn.dedup_same, lemmas.List.nil_from_length, lemmas.List.Elements.All-cons, lemmas.List.Elements.All-head}
pub use Rattle.std.proofs.{lemmas.List.Elements.All-nil, lemmas.List.Elements.All-tail, lemmas.List.Elements.All-weaker, lemmas.List.Elements.filter-append, lemmas.List.Folds.list_any-append, lemmas.List.MinMax.ranks_by, lemmas.List.Sums.sum_by-append, lemmas.List.Sums.sum_by-cons}
pub use Rattle.std.specs.{Cmp.nat_cmp_total, Cmp.on_total, Cmp.ranked, Cmp.then_total, List.insert, List.remove, Option.option_map_or, Prelude.All, Prelude.filter, Prelude.option_and_then, Prelude.replicate, Prelude.sum_by, Prelude.◌&&◌}
pub use Rattle.std.specs.declared.{cmp.Ordering.Ordering, cmp.Ordering.TheVariants.Equal, cmp.Ordering.TheVariants.Greater, cmp.Ordering.TheVariants.Less}
unfoldable pub use Rattle.std.specs.List.Sorted.{IsStrictlySortedBy}
