-- What the proofs of this crate, and of those above it, take from elsewhere.
pub use Rattle.dv_hub_link.proofs.Vocabulary.{collision_tied}
pub use Rattle.dv_pit.proofs.Vocabulary.{apart-reversed, feed_rows, filter, history_member, multi_tied, sat_tied, status_tells, table_has, table_row}
pub use Rattle.dv_records.proofs.Vocabulary.{All, All-contains, All-contains_itself, All-weaker, Bool, Contains, Contains-append_cases, Contains-append_left, Contains-append_right, Contains-cons_cases, Contains-cons_here, Contains-cons_there, Contains-flat_map, Contains-map, Contains-nil}
pub use Rattle.dv_records.proofs.Vocabulary.{Extract, Hashes, IsApart, IsInLoadOrder, IsStrictlySortedBy, List, Mapping, None, Option, Some, Span, Stands, State, [], all_refs, and_from, ap, append-nil, appended, arith, ascending-sorted_by, backwards, code_between, collision_in, common_steps}
pub use Rattle.dv_records.proofs.Vocabulary.{content, delivered_refs, deliveries, delivers, effect_batch, effect_cmp, effect_periods, effect_row, effect_rows, ended, ended_runs, extract_of, false, false≢true, filter-all, filter-none, filter_map, filter_map_member, filtered_members, flat_map}
pub use Rattle.dv_records.proofs.Vocabulary.{flat_map_member, hashed_refs, history, hub_batch, hub_rows, in_effect_since, inl, inr, is_known, is_offered, keys_at, last_of_runs, le-leb, leb-true, link_rows, lt-leb, map, map_member, member_after_sort, member_before_sort, member_of_filter_map}
pub use Rattle.dv_records.proofs.Vocabulary.{multi_cmp, multi_row, multi_total, nat_cmp-IsAntisymmetric, nat_list_cmp_total, nat_tests, newest_rows, offered_refs, on_total, open_end, open_run, option_map, parent_hubs, parent_period_cmp, period_cmp, period_in, period_mart, period_total}
pub use Rattle.dv_records.proofs.Vocabulary.{periods_of, present_at, refl, refs_eq, refs_eq-Decides, reverse, reverse-append, reverse_member, row_cmp-IsAntisymmetric, row_count, row_total, rows_in, rows_then, rules, run_begin, runs, same_ascending, sat_cmp, sat_row, slice_cmp-IsAntisymmetric}
pub use Rattle.dv_records.proofs.Vocabulary.{slice_get, snapshot, some_passes, some_passes_at, sorted_by, sorted_by-members, source, span_between, status_batch, status_cmp, status_row, subst, sum_by, sym, table_after, table_batch, tables, true, up_to, vault, ℕ, ◌++◌, ◌+◌, ◌-◌, ◌<◌, ◌↔◌, ◌∙◌, ◌∷◌}
pub use Rattle.dv_records.proofs.Vocabulary.{◌≡◌, ◌≤◌, ◌⊎◌}
pub use Rattle.dv_store_rules.proofs.Vocabulary.{AllBefore, IsNewestFirst, batch_adds, batch_made, begins_before, collision_free, extract-load, history-newest_first, hub_cmp, hub_has, key_at_first, known_apart, link_cmp, link_has, none_collide, offers_apart, table_after-newest, unwrap_or}
pub use Rattle.dv_store_rules.proofs.Vocabulary.{weight-push}
pub use Rattle.dv_track.proofs.Vocabulary.{Contains-all_refs, effect_tied, effects_say, parent_period_total, status_tied}
pub use Rattle.dv_catalog.specs.declared.{entries.FeedDef.FeedDef, entries.Parent.Parent, entries.Parent.TheVariants.Hub, entries.Parent.TheVariants.Link, tables.TableId.TableId, tables.TableId.TheVariants.Effect, tables.TableId.TheVariants.Hub as HubTable}
pub use Rattle.dv_catalog.specs.declared.{tables.TableId.TheVariants.Link as LinkTable, tables.TableId.TheVariants.Status}
pub use Rattle.dv_hub_link.proofs.HubWindows.{next_batch, next_collides, next_free}
pub use Rattle.dv_laws.specs.{EffectPeriods.by_hash_key, Laws.Closes, Laws.ExtractBatchesAscend, Laws.HoldsKeys, Laws.HoldsLists, Laws.PartialEnds, Laws.SameAt, Laws.SameMarts, Laws.SameOfFeed, Laws.WindowBatchesAscend, Standing.StandsAtFirst, Ties.IsEndedPeriod, Ties.IsOpenPeriod, Ties.IsPeriod}
pub use Rattle.dv_pit.proofs.{CellLoads.multi_cells, CellLoads.sat_cells, PitTells.pit_tells}
pub use Rattle.dv_records.proofs.{HubTables.table_row as hub_row, HubTables.hub_tied, KnownLists.key_offered, LaterWindows.extracts_same, LaterWindows.snapshot_same, LinkTables.table_row as link_row, LinkTables.link_tied, MultiReadBack.vault_tells as all_tell, MultiReadBack.multi_feed_tells}
pub use Rattle.dv_records.proofs.{MultiReconstruct.multi_tells, NewestRows.content_ascends, NewestRows.content_extract, NoWindows.none_in, NoWindows.none_valid, PeriodReadBack.periods_tell, PeriodRuns.IsRun, PeriodRuns.in_order, PeriodRuns.mart_runs, PeriodRuns.one_period}
pub use Rattle.dv_records.proofs.{PeriodRuns.periods_told, ReadBack.feed_tells, SatReconstruct.sat_tells, SnapshotOrder.keeps_form, StatusReconstruct.delivered_tells, StoredSnapshots.snapshot_is_new, StoredSnapshots.snapshot_stands_for, VaultRows.vault_holds as the_law, VaultRows.vault_holds}
pub use Rattle.dv_records.proofs.{VaultSteps.grown, VaultSteps.rows_add_up, VaultSteps.vault-push}
pub use Rattle.dv_records.specs.{Loads.loaded, Reconstruction.HasKeysAlone, Reconstruction.key_row, Reconstruction.present_keys, Standing.IsFresh, States.beginning, Steps.InitBroke, Steps.InitStep, Steps.IsStored}
pub use Rattle.dv_records.specs.declared.{answers.InitAnswer.InitAnswer, mart_rows.Period.Period, mart_rows.PeriodRow.PeriodRow, raw_rows.Code.TheVariants.D, raw_rows.EffectRow.EffectRow, raw_rows.HubRow.HubRow, raw_rows.LinkRow.LinkRow, raw_rows.SatRow.SatRow, raw_rows.StatusRow.StatusRow}
pub use Rattle.dv_records.specs.declared.{stores.Rows.TheVariants.Effects, stores.Rows.TheVariants.Hubs, stores.Rows.TheVariants.Links, stores.Rows.TheVariants.Statuses, stores.Store.Store}
pub use Rattle.dv_sat.proofs.SatDeltaBatch.{delta_is_batch}
pub use Rattle.dv_store_rules.proofs.StandingStores.{undamaged}
pub use Rattle.dv_text.specs.declared.{rows.Key.Key, rows.NRow.NRow, rows.Window.Window}
pub use Rattle.std.proofs.lemmas.Bool.Decides.{leb_tells}
pub use Rattle.std.specs.Prelude.{nat_le, ◌≢◌}
