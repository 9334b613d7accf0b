-- What the proofs of this crate, and of those above it, take from elsewhere.
pub use Rattle.dv_catalog.proofs.Vocabulary.{zero-add}
pub use Rattle.dv_hub_link.proofs.Vocabulary.{filter, hubs_in, is_some, key_eq, keys_under, missing_key, up_to_last}
pub use Rattle.dv_mapfile.proofs.Vocabulary.{read_mapping}
pub use Rattle.dv_records.proofs.Vocabulary.{are_of_one_kind, filter-all, filter-none, is_valid_state, loads_of, not-false}
pub use Rattle.dv_sat.proofs.Vocabulary.{batch_stamped, in_load_order}
pub use Rattle.dv_store_rules.proofs.Vocabulary.{AllBefore, AllByRecursion, Bool, Contains, Contains-append_cases, Contains-append_left, Contains-append_right, Contains-cons_cases, Contains-cons_here, Contains-cons_there, Contains-flat_map, Contains-map, Contains-nil, DigestFunction, Extract}
pub use Rattle.dv_store_rules.proofs.Vocabulary.{HasTables, Hashes, Indexed, IsApart, IsKnown, Known, List, Mapping, None, Option, Place, Some, Stands, State, TablesStand, TellsRows, Told, [], all_pass_weaker, all_refs, all_windows, and_from, and_parts, ap, append-nil, append_assoc, appended}
pub use Rattle.dv_store_rules.proofs.Vocabulary.{appended-history, are_apart, are_dates_valid, are_feeds, are_hub_rows, are_in_load_order, are_link_rows, are_parents_apart, are_placed_rows, are_windows_valid, arith, ascends, backwards, batch_adds, brought, bytes_eq, bytes_eq-Decides, cases_lt}
pub use Rattle.dv_store_rules.proofs.Vocabulary.{code_of, codes, collision, collision_free, collision_in, damage_at, damage_in, deliveries, delivers, delivery-offered, drop, effect_batch, effect_cmp, effect_order, effect_place, effect_row, effect_rule, eq-eqb, eqb-true, err_from_is_err_and}
pub use Rattle.dv_store_rules.proofs.Vocabulary.{extract-load, extract_of, false, false_from_ne_true, false≢true, feed_tables, find, first_along, first_flaw, first_of, flat_map, flaw_behind, flaw_in, form_damage, found_member, get_or, get_or_default, got_member, has_row_under, hashed_refs}
pub use Rattle.dv_store_rules.proofs.Vocabulary.{hashes_of, head_damage, head_flaw, head_of, head_rule, history, hub_apart, hub_batch, hub_cmp, hub_place, hub_rows, hub_rows_in, hub_rule, if_broken, if_not, if_so, inl, inr, irreflexive, is_changed, is_delivered, is_head, is_known, is_later}
pub use Rattle.dv_store_rules.proofs.Vocabulary.{is_loaded, is_missing, is_of_feed, is_of_kind, is_offered, is_stage, is_valid, is_window, known_before, known_hashed, last_load, last_sealed, leb-true, length, length-append, length-map, link_batch, link_cmp, link_place, link_rule}
pub use Rattle.dv_store_rules.proofs.Vocabulary.{list_all, list_any, load_order, lt-ltb, made_of, map-append, map-id, map-map, map_member, missing_refs, most_weight, most_windows, multi_batch, multi_cmp, multi_order, multi_place, multi_rule, nat_le, nat_lt, nat_tests, newest_first, newest_rows}
pub use Rattle.dv_store_rules.proofs.Vocabulary.{no_rows, none_before_map, none_collide, none_passes, not, not-true, not_from_false, offered_refs, only_key, option_map, option_map_or, option_or, option_to_list, or_none, parent_hubs, parents, partial, passes_at, range_with_len, raw_damage}
pub use Rattle.dv_store_rules.proofs.Vocabulary.{read_valid, refl, replicate, reverse, reverse-append, reverse_member, row_count, rows_in, rows_then, rows_weight, rules, run_begin, same_Some, same_table, sat_batch, sat_cmp, sat_order, sat_place, sat_row, sat_rule, slice_get, slice_get-get_or}
pub use Rattle.dv_store_rules.proofs.Vocabulary.{snapshot, snapshot_damage, snapshot_flaw, snapshot_heads, snapshot_rule, some_passes, some_passes_at, source, span_between, stage_damage, stage_damage_by, status_batch, status_cmp, status_order, status_place, status_row, status_rule}
pub use Rattle.dv_store_rules.proofs.Vocabulary.{stored_entries, subst, suc, sum_by, sum_by-cons, sum_by_push, sym, table_after, table_after-newest, table_entry, table_eq, table_eq-itself, table_name, table_of, tables, tables_weight, take, take-append-drop, take_all, true, vault, vault_weight}
pub use Rattle.dv_store_rules.proofs.Vocabulary.{with_newest, zero, zero_key, ℕ, ◌&&◌, ◌++◌, ◌+◌, ◌-◌, ◌<◌, ◌==◌, ◌∙◌, ◌∷◌, ◌≡◌, ◌≤◌, ◌⊎◌}
pub use Rattle.dv_vault.proofs.Vocabulary.{All, All-append, All-cons, All-contains, All-head, All-nil, All-push, All-tail, AllZip, AreOfLoad, ArePartsOf, Backwards, Bor, ClashesAt, Contains-get_or, Err, Fits, Follow, FollowAll, HasNoClash, HasSealed, Hashed, HubName, IfSome, IsBegunBehind}
pub use Rattle.dv_vault.proofs.Vocabulary.{IsVaultOf, RawVault, TellLists, add-one, added_to, all_pass_both, are_empty, are_rows_kept, are_up_to, batch_at, drop-cons, effect_delta, effect_tables, entries_of, entries_with, entry_of, extract_added, feed_batch, filter-append, full_at}
pub use Rattle.dv_vault.proofs.Vocabulary.{get_or-map-range_with_len, get_or_append_left, has_table, hashed_by, hashed_in, hub_hashed, hub_names, hubs_of, if◌then◌else◌, is_table_of, is_up_to, key_named, late_after, le-leb, length-map-range_with_len, length-range_with_len, link_hashed}
pub use Rattle.dv_vault.proofs.Vocabulary.{list_all-map, list_any-append, ltb-true, map, missing_in, multi_delta, nil_from_length, none_like, one_list, opened_in, parts_at, refs_cmp, refs_total, rest_in, reverse-reverse, rows_add_up, sat_delta, sat_tables, status_delta, stored, table_batch}
pub use Rattle.dv_vault.proofs.Vocabulary.{tables_there, tables_whole, take_more, weight_with, whole_in, window_batches, ◌||◌}
pub use Rattle.dv_catalog.proofs.TablesIn.{table_at}
pub use Rattle.dv_catalog.specs.declared.{entries.FeedDef.FeedDef, entries.Parent.Parent, entries.Parent.TheVariants.Hub, entries.Parent.TheVariants.Link, tables.TableId.TableId, tables.TableId.TheVariants.Effect, tables.TableId.TheVariants.Hub as HubId, tables.TableId.TheVariants.Link as LinkId}
pub use Rattle.dv_catalog.specs.declared.{tables.TableId.TheVariants.Multi, tables.TableId.TheVariants.Sat, tables.TableId.TheVariants.Status}
pub use Rattle.dv_hub_link.proofs.{Hashables.all_missing, Hashables.missing_table, HubWindows.held_delta as hub_held, LinkWindows.held_delta as link_held, Placed.some_found, ToldLists.list_told, WindowLists.delivery_kept}
pub use Rattle.dv_hub_link.specs.{HubDeltas.stored as stored_keys, HubRows.key_with}
pub use Rattle.dv_records.proofs.{HubTables.table_row as hub_row, KnownRefs.known_there, LinkTables.table_row as link_row}
pub use Rattle.dv_records.specs.declared.{answers.Damage.Damage, deliveries.Delivery.Delivery, raw_rows.EffectRow.EffectRow, raw_rows.HubRow.HubRow, raw_rows.LinkRow.LinkRow, raw_rows.MultiRow.MultiRow, raw_rows.SatRow.SatRow, raw_rows.StatusRow.StatusRow, snapshots.Snap.Snap}
pub use Rattle.dv_records.specs.declared.{snapshots.SnapHead.SnapHead, stores.Rows.Rows, stores.Rows.TheVariants.Bridges, stores.Rows.TheVariants.Effects, stores.Rows.TheVariants.Hubs, stores.Rows.TheVariants.Links, stores.Rows.TheVariants.Multis, stores.Rows.TheVariants.Pits}
pub use Rattle.dv_records.specs.declared.{stores.Rows.TheVariants.Sats, stores.Rows.TheVariants.Statuses, stores.Store.Store, stores.TableRows.TableRows}
pub use Rattle.dv_restore.specs.{Begins.AreAllApart, Begins.AreNamed, Begins.HasMisnamed, Begins.HasPlace, Begins.HaveNoZeroLinks, Begins.IsMisnamed, Begins.broken_window, Begins.compared_in, Completions.IsBegunAs, Completions.IsBegunOf, Completions.IsOpenBehind, Completions.MayGoOn}
pub use Rattle.dv_restore.specs.{Completions.rows_there, Damages.BreaksRule, Damages.IsBesideTables, Damages.IsFormRule, Damages.IsInForm, Damages.IsNamed, Damages.IsNotRead, Damages.IsReadAs, Damages.KeepsF15, PartedRows.ArePartedRows, PartedRows.is_of_load, PartedRows.is_of_other, Parts.AreParted}
pub use Rattle.dv_restore.specs.{Parts.EndsAt, Parts.IsParted, Parts.are_loaded, Parts.entry_before, Parts.rows_at, Parts.rows_before, Readings.AreCounted, Readings.AreGathered, Readings.AreInForm, Readings.AreRead, Readings.HasHeads, Readings.HasPut, Readings.IsKnownBy, Readings.IsPut}
pub use Rattle.dv_restore.specs.{Readings.IsRawDamage, Readings.TellsKnown, Readings.entries_in, Readings.flaw_read, Readings.hub_entries, Readings.known_first, Readings.link_entries, Restored.IsOfState, Restored.are_in_order, Restored.heads_of_state, Sealed.rows_loaded, Sealed.sealed_entry}
pub use Rattle.dv_restore.specs.{Sealed.sealed_of, Sealed.sealed_rows, Sealed.sealed_vault, Sealed.stored_vault, Sealed.vault_of}
pub use Rattle.dv_restore.specs.declared.{faults.StoreFault.StoreFault, faults.StoreFault.TheVariants.Damaged, gathered.Gathered.Gathered}
pub use Rattle.dv_sat.proofs.MultiDeltaBatch.{row_load as multi_stamped}
pub use Rattle.dv_store_rules.proofs.{BatchRows.earlier_rows, FewerWindows.fewer_valid, FewerWindows.parts_of_valid, Flawless.none_along, Fronts.clear_whole, Fronts.read_tells, KnownSteps.feed_known, KnownSteps.hub_known, KnownSteps.link_known}
pub use Rattle.dv_store_rules.proofs.{LightSnapshots.keep_limits, RuleParts.held, Splits.item_in, Splits.last_in, Splits.no_split, Splits.split_append, Undamaged.undamaged_if_valid}
pub use Rattle.dv_store_rules.specs.Pages.{IsOfTable}
pub use Rattle.dv_store_rules.specs.declared.{flaws.Checked.Checked, flaws.Flaw.Flaw, known.Known.Known as KnownTables, pages.Read.Read, pages.Read.TheVariants.Rows as AllRows, pages.Read.TheVariants.OtherKind}
pub use Rattle.dv_text.proofs.Deciding.{key_eq-Decides}
pub use Rattle.dv_text.specs.declared.{rows.Key.Key, rows.NRow.NRow, rows.Window.Window, rows.WindowHead.WindowHead}
pub use Rattle.dv_vault.proofs.{AddedBatches.effect_is, AddedBatches.free_at, AddedBatches.grown, AddedBatches.multi_is, AddedBatches.sat_is, AddedBatches.status_is, AddedBatches.table_added, Afterwards.loaded_batches, Afterwards.loads_ascend, Afterwards.vault_with}
pub use Rattle.dv_vault.proofs.{Afterwards.weight_with_batches, BatchSteps.entry_here, BegunParts.all_lacking, BegunParts.at_whole, BegunParts.same_parts, FeedLists.reversed_whole, FeedTables.OfFeed, FeedTables.of_feeds, NamedHubs.names_told, NewWindows.first_one, Parts.then_none}
pub use Rattle.dv_vault.proofs.{Parts.there_whole, Stamped.all_from_members, TablesApart.vault_apart, Taken.last_pushed, Taken.weight_grows, VaultCollisions.parents_first, VaultCollisions.sealed_told, VaultCollisions.turned_back, VaultFacts.kind_of}
pub use Rattle.dv_vault.specs.Vaults.{added}
pub use Rattle.dv_vault.specs.declared.{begun.Begun.Begun, begun.Part.Part, tables.Table.Table}
pub use Rattle.std.proofs.{Common.IfOk, lemmas.List.get_or-append_right}
pub use Rattle.std.specs.{Prelude.◌↔◌, Result.IsErrAnd, Result.IsErrOf}
pub use Rattle.std.specs.declared.{cmp.Ordering.Ordering, cmp.Ordering.TheVariants.Less, result.Result.Result, result.Result.TheVariants.Ok}
unfoldable pub use Rattle.std.specs.List.Sorted.{IsStrictlySortedBy}
