-- What the proofs of this crate, and of those above it, take from elsewhere.
pub use Rattle.dv_hub_link.proofs.Vocabulary.{is_offered-member, offered_key, offered_member, sorted_by-map, table_has, table_row}
pub use Rattle.dv_print.proofs.Vocabulary.{told}
pub use Rattle.dv_records.proofs.Vocabulary.{Bool, Contains, Contains-append_left, Contains-cons_cases, Contains-cons_here, Contains-cons_there, Contains-flat_map, Contains-map, Contains-nil, Extract, HasOneRowEach, HasOneRowPerSub, Hashes, IsApart, IsBatchOf, IsInLoadOrder, IsMultiBatch}
pub use Rattle.dv_records.proofs.Vocabulary.{IsOnePerList, IsOnePerSub, IsSatBatch, List, Mapping, None, Option, Some, [], all_refs, all_valid_at, and_from, and_parts, ap, append-nil, appended, are_windows_valid, arith, ascending-sorted_by, backwards, bytes_eq, content, delivered_refs}
pub use Rattle.dv_records.proofs.Vocabulary.{deliveries, delivers, digest_cmp, eq-eqb, eqb-true, false, false≢true, filter-all, filter-append, filter-none, filtered_members, find, flat_map, flat_map_member, found_member, get_or, hashed_refs, history, hub_batch, hub_feeds, hub_row, hub_rows_in}
pub use Rattle.dv_records.proofs.Vocabulary.{if◌then◌else◌, inl, inr, is_changed, is_fed_by, is_known, is_offered, is_valid, le-leb, leb-true, length, lists_of, loaded_with, made_of, map-append, map_member, member_after_sort, member_before_sort, multi_batch, multi_cmp, multi_rows, multi_rows_in}
pub use Rattle.dv_records.proofs.Vocabulary.{nat_le, nat_list_cmp_total, nil_from_length, offered_refs, only_key, option_map, pit, pit_cmp, present_at, refl, refs_eq, refs_eq-Decides, reverse, reverse_member, sat_batch, sat_cmp, sat_rows, sat_rows_in, slice_get, some_passes, some_passes_at}
pub use Rattle.dv_records.proofs.Vocabulary.{sorted_by, sorted_by-members, source, status_rows_in, subst, suc, sym, table_after, text_cmp-IsAntisymmetric, true, up_to, valid_at, vault, ℕ, ◌&&◌, ◌++◌, ◌+◌, ◌<◌, ◌==◌, ◌↔◌, ◌∙◌, ◌∷◌, ◌≤◌}
pub use Rattle.dv_vault.proofs.Vocabulary.{IsNewestFirst, append_assoc, enumerate_from, filter, history-newest_first, hub_apart, parent_eq, take_more, vault_hub}
pub use Rattle.dv_catalog.specs.declared.{entries.FeedDef.FeedDef, entries.Parent.Parent, entries.Parent.TheVariants.Hub, entries.Parent.TheVariants.Link, tables.TableId.TheVariants.Multi, tables.TableId.TheVariants.Sat}
pub use Rattle.dv_pit.specs.{PitCells.with_cells, PitRows.bare_cell, PitRows.bare_row, PitRows.known_keys, PitRows.multi_cell, PitRows.plain_cell, PitRows.with_cell, PitTables.cell_read, PitTables.pit_read, PitTables.row_read}
pub use Rattle.dv_print.specs.declared.hub_feeds.HubFeed.{HubFeed}
pub use Rattle.dv_records.proofs.{BatchTies.batch_made as made_in_batch, FeedContents.feed_apart, FeedContents.rows_of_extract, FeedSteps.feed_rows, KnownLists.delivered_known, KnownRefs.known_apart, KnownRefs.offers_apart, LastChange.AreApart, LastChange.Changes, LastChange.IsStep}
pub use Rattle.dv_records.proofs.{LastChange.Tells, LastChange.apart-older, LastChange.apart-reversed, LastChange.last_change, Reversing.history_member, Reversing.newest_first, SatelliteTies.multi_tied, SatelliteTies.sat_tied, StatusReconstruct.status_tells, ValidWindows.load_order}
pub use Rattle.dv_records.proofs.{ValidWindows.whole, VaultRows.has_multi, VaultRows.has_sat, VaultRows.vault_multi, VaultRows.vault_sat, VaultRows.vault_status}
pub use Rattle.dv_records.specs.{Hubs.hub_cmp, Snapshots.changed_at, Snapshots.keys_up_to, Snapshots.pit_cell, Snapshots.pit_row}
pub use Rattle.dv_records.specs.declared.{deliveries.Delivery.Delivery, raw_rows.HubRow.HubRow, raw_rows.MultiRow.MultiRow, raw_rows.SatRow.SatRow, snapshots.PitCell.PitCell, snapshots.PitRow.PitRow, stores.Rows.TheVariants.Multis, stores.Rows.TheVariants.Sats, stores.Rows.TheVariants.Statuses}
pub use Rattle.dv_records.specs.declared.{stores.TableRows.TableRows}
pub use Rattle.dv_text.specs.declared.{rows.Key.Key, rows.NRow.NRow, rows.Window.Window}
pub use Rattle.std.specs.Prelude.{map, take, ◌≡◌}
pub use Rattle.std.specs.declared.cmp.Ordering.{Ordering}
