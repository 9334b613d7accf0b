-- What the proofs of this crate, and of those above it, take from elsewhere.
pub use Rattle.dv_bridge.proofs.Vocabulary.{HasZeroKeys, agrees, as_many, choices, contents, drop, is_path_too_large, is_too_large, most_references, position-cons, valid_path, whole_refs}
pub use Rattle.dv_catalog.proofs.Vocabulary.{Decides-and}
pub use Rattle.dv_contents.proofs.Vocabulary.{absent_rows}
pub use Rattle.dv_pit.proofs.Vocabulary.{history_member, keys_up_to, pit_row}
pub use Rattle.dv_records.proofs.Vocabulary.{Stands, State, TablesStand, all_windows, any_content_read, are_dates_valid, are_not_later, are_snap_tables_apart, bridge, bridge_cmp, bridge_row, by_place, content, each_hash, full_with, future, hub_feeds, insert, insert_by, is_new_snapshot, is_none}
pub use Rattle.dv_records.proofs.Vocabulary.{is_placed, is_some, is_valid_state, le-leb, made_of, min, most_snapshot_weight, most_snapshots, newest_rows, none_before_map, or_none, path_rows_by, pit, pit_cmp, place_or_len, pointwise, row_eq, row_eq-Decides, rows_of_snap, slice_eq-Decides}
pub use Rattle.dv_records.proofs.Vocabulary.{snap_cmp, snap_head, snap_id_eq, snap_tables, snapshot, snapshot_refusal, snapshot_rows, snapshots_full, snapshots_weight, sum_by-append, taken, up_to, with_date, with_snapshot, ◌^◌}
pub use Rattle.dv_restore.proofs.Vocabulary.{BreaksRule, IsInForm, IsNotRead, IsOfState, IsOpenBehind, IsReadAs, are_in_order, heads_of_state, read_mapping, rows_there, table_name}
pub use Rattle.dv_stage.proofs.Vocabulary.{Ok, empty_key, field_long, not_utf8, ragged, two_rows, unplaced}
pub use Rattle.dv_store_rules.proofs.Vocabulary.{heads_weight, page, unwrap_or, whole}
pub use Rattle.dv_vault.proofs.Vocabulary.{AreApart, ArePartsOf, Became, Bool, Bor, BrokeOff, Changes, Contains-append_right, Contains-cons_cases, Contains-cons_here, Contains-cons_there, Contains-nil, Err, Fits, HasLeft, HasRows, HasSealed, HasTables, Hashes, IfOk-weaker, IfSome}
pub use Rattle.dv_vault.proofs.Vocabulary.{IsAddition, IsBegunBehind, IsLeftOf, IsOpen, IsSync, IsVaultOf, KeepsOthers, List, Mapping, MayBeLeft, None, Option, RawVault, Result, Some, TakesWindow, Told, TookWindow, [], all_pass, all_refs, and_from, and_parts, ap, append-nil, append_assoc}
pub use Rattle.dv_vault.proofs.Vocabulary.{are_heads_of, are_windows_valid, arith, ascends, backwards, changed, collision, cond, crosses, entries_with, enumerate_from, eq-eqb, eqb-true, err_from_is_err_and, false, feed_hubs, filtered_members, flat_map, flat_map_member, found_member, full_at}
pub use Rattle.dv_vault.proofs.Vocabulary.{has_table, hashes_of, head_of, hubs_by, if◌then◌else◌, inl, inr, is_fed_by, is_missing, is_of_kind, is_valid, is_window, last_load, last_or, last_sealed, late_after, length, length-append, length-map, link_hubs, list_all, list_any, list_any-map, loaded}
pub use Rattle.dv_vault.proofs.Vocabulary.{ltb-true, map, map-append, map-id, map-map, map-range_with_len_more, map_member, member_before_sort, nat_cmp, nat_le, nat_lt, nat_tests, no_rows, none_from, none_valid, not, opened_in, option_map, option_map_or, option_or, option_or-none, option_to_list}
pub use Rattle.dv_vault.proofs.Vocabulary.{parent_hubs, partial, passes_at, position, position_or_len, range_with_len, raw_with, refl, row_count, rows_in, rows_then, rows_valid, rows_weight, rules, same_Some, same_table, sendable, slice_get, subst, suc, sum_by, sum_by-cons, sym, table_entry}
pub use Rattle.dv_vault.proofs.Vocabulary.{table_eq, tables, tables_there, tables_whole, take, take-append-drop, taken_first, true, valid_link, valid_parts, vault, vault_weight, whole_in, with_newest, zero, ℕ, ◌&&◌, ◌*◌, ◌++◌, ◌+◌, ◌-◌, ◌<◌, ◌==◌, ◌∙◌, ◌∷◌, ◌≡◌, ◌≤◌, ◌⊎◌}
pub use Rattle.dv_window_rules.proofs.Vocabulary.{PlacedExtract, Taken, extract_at, extract_records, first_of, header_names, header_rule, no_extracts, read_at, read_by, reads, record_rule, records_read, records_rule, room_after, row_of, rule_or_rows, taken_count, two_drivers, unknown_feed}
pub use Rattle.dv_window_rules.proofs.Vocabulary.{window_of, window_rule}
pub use Rattle.dv_catalog.specs.declared.{entries.FeedDef.FeedDef, entries.LinkDef.LinkDef, entries.Parent.Parent, entries.Parent.TheVariants.Hub, entries.Parent.TheVariants.Link, entries.PathDef.PathDef, rules.Rule.Rule, rules.Rule.TheVariants.Collision, rules.Rule.TheVariants.OpenOther}
pub use Rattle.dv_catalog.specs.declared.{rules.Rule.TheVariants.TooManyRows, tables.TableId.TableId, windows.ExtractIn.ExtractIn, windows.WindowIn.WindowIn}
pub use Rattle.dv_contents.proofs.SealedContents.{sealed_rows}
pub use Rattle.dv_print.specs.TableTexts.{rows_behind}
pub use Rattle.dv_records.proofs.{LaterWindows.snapshots_same, NewestRows.content_extract, SnapshotOrder.in_place, StoredSnapshots.IsFree, StoredSnapshots.dates_are, StoredSnapshots.insert-map, StoredSnapshots.is_free, StoredSnapshots.snapshot_stands_for, StoredSnapshots.tables_apart}
pub use Rattle.dv_records.proofs.{StoredSnapshots.with_date_valid, ValidWindows.no_history}
pub use Rattle.dv_records.specs.{Collisions.Collision as Found, Outcomes.accepted, Outcomes.collides, Outcomes.differs, Outcomes.differs_from, Outcomes.feed_twice, Outcomes.has_same_extracts, Outcomes.if_new, Outcomes.late, Outcomes.open_other, Outcomes.outcome, Outcomes.refusal}
pub use Rattle.dv_records.specs.{Outcomes.staged_eq, Outcomes.too_long, Outcomes.vault_full, Outcomes.window_at, Standing.IsMappedBy, States.beginning, Steps.LoadBroke, Steps.opened, Steps.sealed_with, Steps.too_large, Stores.no_snap_rows}
pub use Rattle.dv_records.specs.declared.{answers.Damage.Damage, answers.Outcome.Outcome, answers.ResumeAnswer.TheVariants.NothingOpen, answers.SnapAnswer.SnapAnswer, answers.SnapAnswer.TheVariants.Repeated, answers.SnapAnswer.TheVariants.TooLarge, keepers.KeeperError.KeeperError}
pub use Rattle.dv_records.specs.declared.{keepers.KeeperError.TheVariants.Failed, keepers.KeeperError.TheVariants.Memory, mart_rows.PathRow.PathRow, snapshots.BridgeRow.BridgeRow, snapshots.PitRow.PitRow, snapshots.Snap.Snap, snapshots.SnapHead.SnapHead, snapshots.SnapId.SnapId}
pub use Rattle.dv_records.specs.declared.{snapshots.SnapId.TheVariants.Bridge, snapshots.SnapId.TheVariants.Pit, snapshots.SnapTable.SnapTable, stores.Rows.Rows, stores.Rows.TheVariants.Bridges, stores.Rows.TheVariants.Pits, stores.Store.Store, stores.TableRows.TableRows}
pub use Rattle.dv_restore.proofs.{HeadsInOrder.later_ascends, HeadsInOrder.one_later, StandingStores.never_unread, StandingStores.same_mapping}
pub use Rattle.dv_restore.specs.{Damages.IsMappedAs, Restored.HasKept}
pub use Rattle.dv_restore.specs.declared.faults.StoreFault.{StoreFault}
pub use Rattle.dv_stage.specs.declared.stages.Staged2.{Staged2}
pub use Rattle.dv_store_rules.proofs.{RowPages.page_count, RowPages.page_exact, RowPages.then_page, RowPages.whole_page, SoundSnapshots.weighed}
pub use Rattle.dv_text.specs.declared.{rows.Key.Key, rows.NRow.NRow, rows.Staged.Staged, rows.Window.Window, rows.WindowHead.WindowHead}
pub use Rattle.dv_vault.proofs.{AddedWindows.added_behind, AddedWindows.last_same, AddedWindows.left_behind, AddedWindows.not_full, AddedWindows.sealed_after, AddedWindows.taken_partly, AddedWindows.valid_with, Afterwards.later_than_last, NoWindows.none_sealed, OtherTables.has_all, Taken.last_or_pushed}
pub use Rattle.dv_vault.proofs.{OtherTables.same_tables, OtherTables.with_has, Parts.fits_left, Parts.none_opened, VaultCollisions.apart_is_free, VaultCollisions.clash_collides, VaultFacts.vault_has}
pub use Rattle.dv_vault.specs.declared.{begun.Begun.Begun, begun.Part.Part}
pub use Rattle.dv_window.specs.{Offices.Agrees, Offices.AgreesUnlessStale, Offices.CompletesTo, Offices.Held, Offices.IsDamageFor, Offices.IsIn, Offices.IsLeftIn, Offices.IsOther, Offices.IsOtherMapping, Offices.LeavesOffice, Offices.StaleAfter, Offices.StandsFor, Offices.StepsTo, Offices.staged}
pub use Rattle.dv_window.specs.{Pages.AreAlike, Pages.AreFirst, Pages.TellsPage, Pages.TellsRows, Pages.joined, Plans.Collides, Plans.IsAgain, Plans.IsNewWindow, Plans.IsOpenAgain, Plans.IsPlan, Plans.IsPlanned, Plans.IsTooMuch, Plans.Stops, Plans.early_rule, Plans.given_rules, Plans.head_at}
pub use Rattle.dv_window.specs.{Plans.held_broken, Plans.held_with, Plans.late_by, Plans.window_read, RowForms.bridge_form, RowForms.bridges_in, RowForms.hub_count, RowForms.is_sound_bridge, RowForms.is_sound_pit, RowForms.pit_form, RowForms.pits_in, SnapshotPlans.IsOf}
pub use Rattle.dv_window.specs.{SnapshotRefusals.early_refusal, SnapshotRefusals.late_refusal, SnapshotRefusals.taken_among, SnapshotTables.bridge_ids, SnapshotTables.bridge_table, SnapshotTables.first_large, SnapshotTables.ids_of, SnapshotTables.pit_ids, SnapshotTables.pit_table}
pub use Rattle.dv_window.specs.{Snapshots.IsSnapshotIn, Snapshots.KeepsTo, Snapshots.MayKeep, Snapshots.head_cmp, Stagings.AreTried, Stagings.IsTried, Stopping.answer_of, Stopping.is_failed, Stopping.load_answer, Stopping.resume_answer, Stopping.unrefreshed, Stopping.unresumed}
pub use Rattle.dv_window.specs.{StoredRows.asked_of, StoredRows.first_flaw, StoredRows.first_place, StoredRows.flaw_in, StoredRows.flaw_place, StoredRows.has_width, StoredRows.own_rows, StoredRows.read_rows, StoredRows.stored_rows, StoredTexts.HasTable, StoredTexts.IsDamageOf}
pub use Rattle.dv_window.specs.{StoredTexts.IsRowOf, StoredTexts.IsStoredDamage, StoredTexts.IsStoredText, StoredTexts.IsTextOf, StoredTexts.flawed_row, StoredTexts.rows_text, StoredTexts.table_text, TakenWindows.BrokeAt, TakenWindows.CompletesAs, TakenWindows.TookOrBroke}
pub use Rattle.dv_window.specs.declared.{snapshot_queries.SnapshotQuery.SnapshotQuery, pages.Read.Read, pages.Read.TheVariants.Rows as AllRows, pages.Read.TheVariants.Flawed, stops.Stop.Stop, stored.StoredFault.StoredFault}
pub use Rattle.dv_window_rules.proofs.{FeedSteps.fault_told, FeedSteps.feed_absent, FeedSteps.feed_read, FeedSteps.rows_from, FeedSteps.rows_taken, FeedSteps.rule_from, ReadWindows.window_of-is_window}
pub use Rattle.std.proofs.lemmas.List.Sums.{length-filter}
pub use Rattle.std.specs.{List.Contains, Prelude.Decides, Prelude.IsErrOf, Prelude.count_by}
pub use denote.Param.Send.{IsSend}
pub use denote.RattleType.{RattleType}
