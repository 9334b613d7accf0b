-- What the proofs of this crate, and of those above it, take from elsewhere.
pub use Rattle.dv_board.proofs.Vocabulary.{IsSeatOf, length-range_with_len, set-get_or, take_more_set}
pub use Rattle.dv_catalog.proofs.Vocabulary.{is_table_of, map-range_with_len_more, position}
pub use Rattle.dv_hub_link.proofs.Vocabulary.{AreHubItems, AreLinkItems, Bor, HasNoClash, Hashed, HashedList, HubName, IfCollides, IfOk, IsClash, IsHubItem, IsItem, IsLeastClash, Result, TellLists, append_assoc, are_keys_of, brought, collision_free, cons_option, delivered, deliveries_member}
pub use Rattle.dv_hub_link.proofs.Vocabulary.{delta, err_from_is_err_and, false_from_ne_true, filter_map_more, filter_map_same, has_row_under, hashed_by, hashed_item, hashes_of, hub_delta, hub_hashed, hub_place, hub_row_of, hubs_by, hubs_of, key_named, key_with, le-leb, length-map, link_delta}
pub use Rattle.dv_hub_link.proofs.Vocabulary.{link_hashed, link_place, link_row, list_all-map, map-map, missing_in, new_row, none_found_at, none_pass, option_to_list, parent_eq, reverse-reverse, row_cmp, same_Some, stored, valid_parts, ◌&&◌, ◌||◌}
pub use Rattle.dv_index.proofs.Vocabulary.{All-append, nat_list_cmp_total, prefix_len}
pub use Rattle.dv_records.proofs.Vocabulary.{All, All-cons, All-contains, All-contains_itself, All-head, All-nil, All-tail, AllByRecursion, AreNewestFirst, AreOfLoad, Backwards, Bool, Contains, Contains-append_cases, Contains-append_left, Contains-append_right, Contains-cons_cases}
pub use Rattle.dv_records.proofs.Vocabulary.{Contains-cons_here, Contains-cons_there, Contains-map, Contains-nil, Contains-range, Extract, Hashes, IsApart, IsTotalOrder, List, Mapping, None, Option, Pair, Place, Some, [], all_pass, all_pass_both, all_pass_weaker, all_refs, and_from, and_parts}
pub use Rattle.dv_records.proofs.Vocabulary.{ap, append-nil, appended, appended_to, are_apart, are_up_to, are_windows_valid, arith, ascending-sorted_by, ascends, backwards, bytes_eq, collision, collision_in, cond, deliveries, drop, effect_batch, effect_rows, effect_tables, eq-eqb, eqb-true}
pub use Rattle.dv_records.proofs.Vocabulary.{extract_of, false, false≢true, feed_batch, feed_hubs, feed_tables, filter-append, filter_map, filter_map_member, filtered_members, find, find-append, first_collision, fit_hubs, fits_hub, flat_map, flat_map_member, found_member, get_or, history}
pub use Rattle.dv_records.proofs.Vocabulary.{hub_batch, hub_rows, hub_rows_in, if◌then◌else◌, inl, inr, is_declared, is_fed_by, is_missing, is_of_kind, is_staged, is_up_to, is_valid, is_window, last_load, length, link_hubs, link_rows, list_all, list_any, list_any-append, list_any-map, lists_of}
pub use Rattle.dv_records.proofs.Vocabulary.{lt-ltb, map, map-append, map_member, member_after_sort, member_before_sort, member_of_filter_map, multi_batch, multi_rows, nat_cmp, nat_cmp_is, nat_le, nat_lt, nat_tests, nil_from_length, no_rows, none_from, none_placed, not, not-true, on_total}
pub use Rattle.dv_records.proofs.Vocabulary.{option_map, option_map_or, option_or, parent_hubs, parents, passes_at, placed_within, position_or_len, range_with_len, refl, refs_cmp, refs_total, reverse, reverse-append, reverse_member, row_count, rows_in, rows_then, rows_weight, rules, same_answer}
pub use Rattle.dv_records.proofs.Vocabulary.{same_ascending, sat_batch, sat_rows, sat_tables, slice_get, slice_set, some_passes, some_passes_at, source, status_batch, status_rows, subst, suc, sum_by, sum_by-cons, sym, table_after, table_batch, table_entry, table_eq, table_of, tables}
pub use Rattle.dv_records.proofs.Vocabulary.{tables_weight, take, true, valid_feed, valid_link, vault, vault_weight, with_newest, zero, ℕ, ◌++◌, ◌+◌, ◌-◌, ◌<◌, ◌==◌, ◌∙◌, ◌∷◌, ◌≡◌, ◌≤◌, ◌⊎◌}
pub use Rattle.dv_sat.proofs.Vocabulary.{IsNewestFirst, IsPlain, IsTold, multi_delta, sat_delta, take-append-drop}
pub use Rattle.dv_text.proofs.Vocabulary.{is_none, last_or, position-Some}
pub use Rattle.dv_track.proofs.Vocabulary.{All-map, effect_delta, list_all-append, none_passes, option_or-none, status_delta, take_all}
pub use Rattle.dv_window_keys.proofs.Vocabulary.{All-push, AreDeliveriesOf, AreLeast, AreLeastOffered, AreResults, Contains-get_or, Err, HasForm, HasKeys, HaveAllOffered, IfOk-weaker, IsSync, Offerer, OffersMore, Ok, attrs_fit, cases_lt, crosses, drop_all, filter, flat_map_more}
pub use Rattle.dv_window_keys.proofs.Vocabulary.{get_or_append_left, got_from, item_of, keys_of, length-append, map-id, sendable, slice_get-get_or, slice_get-map, slice_get_within, staged_rows, take_more, tasks, window_parts, ⊎_elim, ◌*◌}
pub use Rattle.dv_catalog.proofs.TablesIn.{tables_in}
pub use Rattle.dv_catalog.specs.declared.{entries.FeedDef.FeedDef, entries.Parent.Parent, entries.Parent.TheVariants.Hub, entries.Parent.TheVariants.Link, rules.Rule.Rule, tables.TableId.TableId}
pub use Rattle.dv_digest.specs.declared.hashed_extracts.HashedExtract.{HashedExtract}
pub use Rattle.dv_hub_link.proofs.{Brought.brought_cases, Brought.item_in, Brought.missing_there, Brought.one_list, Clashes.same_digest, HubWindows.next_delta as hub_delta_is, HubWindows.next_least as hub_least, HubWindows.next_none as hub_none, HubWindows.hub_row_has, KeyDeltas.map_filter}
pub use Rattle.dv_hub_link.proofs.{LinkWindows.next_delta as link_delta_is, LinkWindows.next_least as link_least, LinkWindows.next_none as link_none}
pub use Rattle.dv_hub_link.specs.HubRows.{are_hub_rows}
pub use Rattle.dv_index.specs.Places.{Indexed}
pub use Rattle.dv_records.proofs.{CollisionTies.none_collide, Delivered.deliveries-apart, FeedSteps.appended-history, KnownLists.lists_apart, KnownLists.rows_valid, LastChange.lists_reversed, NoWindows.after_none, NoWindows.none_valid, Reversing.AllBefore, Reversing.history-newest_first}
pub use Rattle.dv_records.proofs.{RowViews.all_up_to-later, RowViews.all_up_to-none, RowViews.up_to-then, ValidWindows.hub_apart, VaultRows.has_hub, VaultRows.has_link, VaultRows.has_status, VaultRows.vault_hub, VaultSteps.rows_add_up, VaultSteps.table_after-newest, VaultSteps.vault-push}
pub use Rattle.dv_records.proofs.{VaultSteps.weight-push, WellFormedTables.same_table, WellFormedTables.table_eq-itself, WindowRows.in_order}
pub use Rattle.dv_records.specs.{Changes.Changes, Changes.changed, HubNames.is_named, Loads.loaded, Outcomes.full_at, Outcomes.late_after, RawTables.extract_added, RawTables.extract_at, Standing.HasTables, States.head_of, States.last_sealed, Stores.with_rows, Stores.with_seal, Stores.with_stage, Vault.batch_at}
pub use Rattle.dv_records.specs.{Vault.partial}
pub use Rattle.dv_records.specs.declared.{deliveries.Delivery.Delivery, deliveries.DeltaFault.DeltaFault, deliveries.DeltaFault.TheVariants.Collision, deliveries.DeltaFault.TheVariants.Memory, keepers.KeeperError.KeeperError, keepers.KeeperError.TheVariants.Failed, raw_rows.HubRow.HubRow}
pub use Rattle.dv_records.specs.declared.{raw_rows.LinkRow.LinkRow, stores.Rows.Rows, stores.Rows.TheVariants.Effects, stores.Rows.TheVariants.Hubs, stores.Rows.TheVariants.Links, stores.Rows.TheVariants.Multis, stores.Rows.TheVariants.Sats, stores.Rows.TheVariants.Statuses, stores.Store.Store}
pub use Rattle.dv_records.specs.declared.{stores.TableRows.TableRows}
pub use Rattle.dv_sat.proofs.{MultiHistories.next_is_batch as multi_delta_is, SatDeltaBatch.delta_is_batch as sat_delta_is}
pub use Rattle.dv_sat.specs.MultiFeedTables.{multis_added}
pub use Rattle.dv_text.proofs.{Deciding.refs-tie, Members.last_got, Places.found_at}
pub use Rattle.dv_text.specs.Told.{Told}
pub use Rattle.dv_text.specs.declared.{rows.Key.Key, rows.NRow.NRow, rows.Staged.Staged, rows.Window.Window, rows.WindowHead.WindowHead}
pub use Rattle.dv_track.proofs.{DeltaBatch.delta_is_batch as status_delta_is, EffectBatches.delta_is_batch as effect_delta_is}
pub use Rattle.dv_track.specs.{EffectFeedTables.effects_added, FeedTables.statuses_added}
pub use Rattle.dv_vault.specs.Additions.{AreApart, AreApartBy, ArePartsOf, Clashes, ClashesAt, Fits, FollowAll, IsAddition, IsBegunBehind, IsFirstClash, IsPartOf, all_added, fault_at, none_like, opened_in, part_lacking, parts_at, raw_with, rest_in, tables_there, tables_whole, taken_first}
pub use Rattle.dv_vault.specs.Additions.{taken_part, weight_with, whole_in, whole_part, window_batches}
pub use Rattle.dv_vault.specs.Keeping.{Became, BreaksParts, BreaksWindow, BrokeOff, HasLeft, HasRows, HasTaken, IsBegunIn, IsLeftOf, IsOpen, KeepsOthers, MayBeLeft, TakesWindow, TookRows, TookSome, TookWindow, with_batch, with_open}
pub use Rattle.dv_vault.specs.Results.{IsBatch, IsDelta, IsFound, IsResultAt, IsResultOf, batches_in}
pub use Rattle.dv_vault.specs.Vaults.{Follow, HasSealed, IsVaultOf, RawVault, added_to, are_empty, are_heads_of, are_rows_kept, entries_of, entries_with, entry_of, has_table, hashed_in, hub_names, hubs_in, is_effect, is_hub, is_link, is_multi, is_sat, is_status, names_of_hub}
pub use Rattle.dv_vault.specs.Vaults.{names_of_hubs, names_of_rows, rows_of_hubs, spare_of, staged_of}
pub use Rattle.dv_vault.specs.declared.{additions.AdditionFault.AdditionFault, begun.Begun.Begun, begun.Part.Part, breaks.Untaken.Untaken, results.TableBatch.TableBatch, results.TaskResult.TaskResult, tables.Table.Table}
pub use Rattle.dv_window_keys.proofs.{OfferedItems.none_offered, OfferedItems.task_offered, OfferedItems.whole_offered, SortedOffers.got_here, SortedOffers.link_declared, TaskFacts.of_results, TaskFacts.task_table, WindowFacts.IsDelivered, WindowFacts.key_parts, WindowFacts.staged_ascend}
pub use Rattle.dv_window_keys.proofs.{WindowFacts.staged_attrs_fit}
pub use Rattle.dv_window_keys.specs.{HashedWindows.IsHashedWindow, WindowItems.IsKept}
pub use Rattle.dv_window_keys.specs.declared.{hashed_windows.HashedWindow.HashedWindow, items.WindowItem.WindowItem, tasks.Task.Task, tasks.Task.TheVariants.Batch, tasks.Task.TheVariants.Keys}
pub use Rattle.std.proofs.{Common.add-one, Common.drop-cons, Math.ListN.get_or-map, Math.Seq.map-set_same, lemmas.Bool.ltb-true, lemmas.List.with_items_is, lemmas.List.Folds.fold-map, lemmas.List.FromFn.get_or-map-range_with_len, lemmas.List.FromFn.length-map-range_with_len}
pub use Rattle.std.proofs.{lemmas.Option.slice_get_past, lemmas.Slice.Zip.AllZip-long}
pub use Rattle.std.specs.{List.AllZip, List.enumerate_from, Prelude.IfErr, Prelude.IfNone, Prelude.IfSome, Prelude.IsSome, Prelude.OnOk, Prelude.Vec, Prelude.is_ok, Slice.IsItemAt, Vec.with_items}
pub use Rattle.std.specs.declared.cmp.Ordering.TheVariants.{Less}
unfoldable pub use Rattle.std.specs.List.Sorted.{IsStrictlySortedBy}
