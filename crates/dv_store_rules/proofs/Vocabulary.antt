-- What the proofs of this crate, and of those above it, take from elsewhere.
pub use Rattle.dv_digest.proofs.Vocabulary.{joined}
pub use Rattle.dv_hub_link.proofs.Vocabulary.{append_assoc, are_parents_apart, are_placed_rows, batch_made, brought, collision_free, deliveries_member, delivery-offered, err_from_is_err_and, false_from_ne_true, find_none, first_offer-member, has_row_under, hashes_of, hub_place, is_offered-member}
pub use Rattle.dv_hub_link.proofs.Vocabulary.{key_at_first, length-map, length-replicate, link_place, map-map, nat_cmp_total, none_found_at, none_pass, option_to_list, parent_eq, refs_fit, refs_text, refs_text_fits, same_Some, zip}
pub use Rattle.dv_hub_link.proofs.{Hashables.all_missing}
pub use Rattle.dv_index.proofs.Vocabulary.{IsSorted, cases_eq, cases_lt, drop_more, get_or-take, get_or_default, last_of, length-drop, length-take, length-take-le, min, not_from_false, ranks_by, slice_get-get_or, slice_get_within, sorted_far, take-append-drop, take-take, take_all, then_total}
pub use Rattle.dv_records.proofs.Vocabulary.{All-weaker, AllByRecursion, Bool, Contains, Contains-append_cases, Contains-append_left, Contains-append_right, Contains-cons_cases, Contains-cons_here, Contains-cons_there, Contains-flat_map, Contains-map, Contains-nil, Contains-range, Extract}
pub use Rattle.dv_records.proofs.Vocabulary.{Hashes, IsApart, IsTotalOrder, List, Mapping, None, Option, Place, Some, Span, Stands, State, TablesStand, [], all_pass, all_pass_weaker, all_refs, all_windows, and_from, and_parts, ap, append-nil, appended, are_apart}
pub use Rattle.dv_records.proofs.Vocabulary.{are_dates_valid, are_in_load_order, are_not_later, are_snapshots_in_order, are_windows_valid, arith, ascending-sorted_by, ascends, backwards, batch_of, bytes_eq, bytes_eq-Decides, code_between, code_of, collision, collision_in, cond, deliveries}
pub use Rattle.dv_records.proofs.Vocabulary.{delivers, digest_cmp, drop, each_hash, effect_batch, effect_cmp, effect_row, eq-eqb, eqb-true, equal_first, extract_of, false, false≢true, feed_hubs, feed_tables, filter_map, filter_map_member, filtered_members, find, find-append, find_same, fit_hubs}
pub use Rattle.dv_records.proofs.Vocabulary.{fits_hub, flat_map, flat_map_member, found_member, get_or, get_or_from_slice_get, got_member, has_kind, hashed_refs, have_kinds, history, hub_batch, hub_row, hub_rows, hub_rows_in, inl, inr, irreflexive, is_appearance, is_changed, is_declared}
pub use Rattle.dv_records.proofs.Vocabulary.{is_fed_by, is_field, is_hub, is_key_part, is_known, is_lt, is_missing, is_none, is_of_kind, is_offered, is_staged, is_valid, is_well_formed, is_window, keys_at, last_load, le-leb, le_from_cmp, leb-true, length, less_first, link_batch, link_hubs}
pub use Rattle.dv_records.proofs.Vocabulary.{link_row, link_rows, link_rows_in, list_all, list_any, list_any-map, lists_of, lt-ltb, ltb-true, made_of, map-append, map_member, member_of_all, missing_refs, most_field_bytes, most_snapshot_weight, most_snapshots, most_weight, multi_batch, multi_cmp}
pub use Rattle.dv_records.proofs.Vocabulary.{multi_row, multi_total, nat_cmp, nat_le, nat_list_cmp_total, nat_lt, nat_tests, newest_rows, no_rows, none_before_map, none_from, not, not-true, offered_refs, offers, offers_of, on_total, only_key, open_end, option_map, option_map_or, option_or}
pub use Rattle.dv_records.proofs.Vocabulary.{or_left, or_none, or_parts, or_right, ordering_then, parent_hubs, parents, parts_of, passes_at, range_with_len, ranked, refl, refs_from, replicate, reverse, reverse-append, reverse_member, row_count, rows_in, rows_then, rows_weight, rules, run_begin}
pub use Rattle.dv_records.proofs.Vocabulary.{sat_batch, sat_cmp, sat_row, says_present, slice_get, snapshot, snapshots_weight, some_passes, some_passes_at, source, span_between, status_batch, status_cmp, status_row, subst, suc, sum_by, sum_by-append, sum_by-cons, sym, table_after, table_entry}
pub use Rattle.dv_records.proofs.Vocabulary.{table_eq, table_of, tables, tables_weight, take, true, up_to, valid_feed, valid_link, vault, vault_weight, with_newest, zero, ℕ, ◌&&◌, ◌++◌, ◌+◌, ◌-◌, ◌<◌, ◌==◌, ◌||◌, ◌∙◌, ◌∷◌, ◌≡◌, ◌≤◌, ◌⊎◌}
pub use Rattle.dv_sat.proofs.Vocabulary.{IsNewestFirst, attrs_fit, attrs_text_fits, multi_order, multi_place, sat_place}
pub use Rattle.dv_text.proofs.Vocabulary.{codes, last_or, list_any_at}
pub use Rattle.dv_track.proofs.Vocabulary.{all_up_to, both_lists, effect_order, effect_place, none_passes, status_order, status_place, tells}
pub use Rattle.dv_window_rules.proofs.Vocabulary.{HasForm, first_of, is_less, list_any-IsPermutation, texts_total, ◌*◌}
pub use Rattle.dv_catalog.proofs.ValidReads.{valid_hub}
pub use Rattle.dv_catalog.specs.{Feeds.source_by, FirstOf.first_along, Mappings.has_number, Tables.table_name}
pub use Rattle.dv_catalog.specs.declared.{entries.FeedDef.FeedDef, entries.HubDef.HubDef, entries.LinkDef.LinkDef, entries.Parent.Parent, entries.Parent.TheVariants.Hub, entries.Parent.TheVariants.Link, tables.TableId.TableId, tables.TableId.TheVariants.Effect}
pub use Rattle.dv_catalog.specs.declared.{tables.TableId.TheVariants.Hub as HubTable, tables.TableId.TheVariants.Link as LinkTable, tables.TableId.TheVariants.Multi, tables.TableId.TheVariants.Sat, tables.TableId.TheVariants.Status}
pub use Rattle.dv_hub_link.specs.{HubRows.are_hub_rows, LinkRows.are_link_rows}
pub use Rattle.dv_index.proofs.Order.{le_from_not_lt}
pub use Rattle.dv_index.specs.Places.{Indexed}
pub use Rattle.dv_mapfile.proofs.ReadMappings.{read_valid}
pub use Rattle.dv_records.proofs.{CollisionTies.none_collide, DatedRows.dated, EffectTies.begins_before, FeedContents.feed_apart, FeedRefs.as_many, FeedRefs.key_at_later, FeedSteps.appended-history, HubTables.table_has as hub_has, HubTables.the_only, KnownLists.row_known, KnownRefs.known_apart}
pub use Rattle.dv_records.proofs.{KnownRefs.known_hashed, KnownRefs.offers_apart, LastChange.lists_reversed, LinkTables.table_has as link_has, Reversing.AllBefore, Reversing.extract-load, Reversing.history-newest_first, Reversing.newest_first, ValidWindows.hub_apart, ValidWindows.link_apart}
pub use Rattle.dv_records.proofs.{ValidWindows.load_order, ValidWindows.whole, VaultRows.has_hub, VaultRows.has_link, VaultRows.rows_in-entries, VaultSteps.batch_adds, VaultSteps.table_after-newest, VaultSteps.weight-push, WellFormedTables.same_table, WellFormedTables.table_eq-itself}
pub use Rattle.dv_records.proofs.{WindowRows.field_text, WindowRows.in_order, WindowRows.key_form, WindowRows.key_part, WindowRows.one_key, WindowRows.rows_at, WindowRows.staged_at, WindowRows.staged_of, WindowRows.staged_rows, WindowRows.window_parts}
pub use Rattle.dv_records.specs.{Hubs.hub_cmp, Hubs.link_cmp, Limits.most_windows, Standing.HasTables, States.head_of, States.last_sealed, Stores.page, Vault.partial, Weights.text_weight, Weights.texts_weight}
pub use Rattle.dv_records.specs.declared.{deliveries.Delivery.Delivery, raw_rows.Code.Code, raw_rows.EffectRow.EffectRow, raw_rows.HubRow.HubRow, raw_rows.LinkRow.LinkRow, raw_rows.MultiRow.MultiRow, raw_rows.SatRow.SatRow, raw_rows.StatusRow.StatusRow, snapshots.Snap.Snap}
pub use Rattle.dv_records.specs.declared.{snapshots.SnapHead.SnapHead, stores.Rows.Rows, stores.Rows.TheVariants.Effects, stores.Rows.TheVariants.Hubs, stores.Rows.TheVariants.Links, stores.Rows.TheVariants.Multis, stores.Rows.TheVariants.Sats, stores.Rows.TheVariants.Statuses}
pub use Rattle.dv_records.specs.declared.{stores.Store.Store, stores.TableRows.TableRows}
pub use Rattle.dv_sat.proofs.SatFollowing.{if_not, if_so}
pub use Rattle.dv_sat.specs.SatRows.{sat_order}
pub use Rattle.dv_store_rules.specs.{Damages.damage_at, Damages.damage_in, Damages.form_damage, Damages.head_damage, Damages.known_before, Damages.raw_damage, Damages.snapshot_damage, Damages.stage_damage, Damages.stage_damage_by, Damages.stored_entries, Flaws.first_flaw, Flaws.flaw_behind}
pub use Rattle.dv_store_rules.specs.{Flaws.if_broken, FormRules.Known, FormRules.are_references, FormRules.are_texts, FormRules.attr_count, FormRules.follows, FormRules.has_key_hash, FormRules.has_parent, FormRules.is_behind, FormRules.is_delivered, FormRules.is_diff_of, FormRules.is_digest}
pub use Rattle.dv_store_rules.specs.{FormRules.is_hub_row, FormRules.is_in_hub, FormRules.is_in_link, FormRules.is_in_parent, FormRules.is_light, FormRules.is_link_row, FormRules.is_loaded, FormRules.is_multi_row, FormRules.is_new_digest, FormRules.is_reference, FormRules.is_sat_row}
pub use Rattle.dv_store_rules.specs.{FormRules.is_source, FormRules.is_span, FormRules.last_code, FormRules.sub_count, FormRules.takes_turn, FormRules.zero_key, KnownTables.IsKnown, KnownTables.is_of_feed, KnownTables.is_under, OwnRules.are_named, OwnRules.effect_early, OwnRules.effect_late}
pub use Rattle.dv_store_rules.specs.{OwnRules.first_stands, OwnRules.hub_early, OwnRules.hub_late, OwnRules.is_among, OwnRules.link_early, OwnRules.link_form, OwnRules.link_late, OwnRules.multi_early, OwnRules.multi_form, OwnRules.multi_hashed, OwnRules.multi_late, OwnRules.none_asked}
pub use Rattle.dv_store_rules.specs.{OwnRules.sat_early, OwnRules.sat_form, OwnRules.sat_hashed, OwnRules.sat_late, OwnRules.status_early, OwnRules.status_late, OwnRules.turns, OwnRules.unbroken, Pages.AreFirst, Pages.IsGrown, Pages.IsHeavyFront, Pages.TellsPage, Pages.TellsRows}
pub use Rattle.dv_store_rules.specs.{RowWalks.AreClear, RowWalks.Breaks, RowWalks.IsFirst, RowWalks.TellsFlaw, RowWalks.own_of, RowWalks.own_rule, RowWalks.plain_rule, RowWalks.turn_rule, RowWalks.turning_rule, RowWalks.weight_rule, SnapshotHeads.KeepLimits, SnapshotHeads.heads_weight}
pub use Rattle.dv_store_rules.specs.{SnapshotHeads.is_after, SnapshotHeads.is_snapshot, SnapshotHeads.snapshot_flaw, SnapshotHeads.snapshot_heads, SnapshotHeads.snapshot_rule, StoredHeads.are_feeds, StoredHeads.head_flaw, StoredHeads.head_rule, StoredHeads.is_head, StoredHeads.is_later}
pub use Rattle.dv_store_rules.specs.{StoredHeads.is_stage, StoredRows.effect_rule, StoredRows.flaw_in, StoredRows.hub_rule, StoredRows.link_rule, StoredRows.multi_rule, StoredRows.of_other_kind, StoredRows.sat_rule, StoredRows.status_rule}
pub use Rattle.dv_store_rules.specs.declared.{flaws.Fault.Fault, flaws.Flaw.Flaw, known.Known.Known as KnownTables, pages.Page.TheVariants.Foreign, pages.Page.TheVariants.Last, pages.Page.TheVariants.More, pages.Read.Read, pages.Read.TheVariants.Rows as AllRows, pages.Read.TheVariants.OtherKind}
pub use Rattle.dv_text.proofs.{Members.last_got, Options.take_got}
pub use Rattle.dv_text.specs.{Keys.DigestFunction, Told.Told}
pub use Rattle.dv_text.specs.declared.{rows.Key.Key, rows.NRow.NRow, rows.Staged.Staged, rows.Window.Window, rows.WindowHead.WindowHead}
pub use Rattle.std.proofs.{Math.Seq.take-nil, lemmas.Bool.leb-false, lemmas.List.length-append, lemmas.List.map-id, lemmas.List.take_min, lemmas.List.Sorted.searched, lemmas.List.Sums.sum-map, lemmas.List.Sums.sum_by_more, lemmas.List.Sums.sum_by_push}
pub use Rattle.std.specs.{Bool.if◌then◌else◌, List.sum, List.Sorted.IsBinarySearchResult, Option.IfNone, Option.IfSome, Option.unwrap_or, Prelude.IsTrue, Prelude.map, Result.MatchResult, Result.is_ok}
pub use Rattle.std.specs.declared.{cmp.Ordering.Ordering, cmp.Ordering.TheVariants.Less, result.Result.Result, result.Result.TheVariants.Err, result.Result.TheVariants.Ok}
unfoldable pub use Rattle.std.specs.List.Sorted.{IsStrictlySortedBy}
