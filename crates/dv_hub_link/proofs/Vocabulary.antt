-- What the proofs of this crate, and of those above it, take from elsewhere.
pub use Rattle.dv_catalog.proofs.Vocabulary.{has_name_form, is_valid_hub, is_within, passes_got, zip}
pub use Rattle.dv_digest.proofs.Vocabulary.{hashes_of, le-leb, leb-true, refs_fit, refs_text, texts_fit}
pub use Rattle.dv_index.proofs.Vocabulary.{latest_at, list_all-map, not}
pub use Rattle.dv_records.proofs.Vocabulary.{AllByRecursion, Bool, Contains, Contains-append_cases, Contains-append_left, Contains-append_right, Contains-cons_cases, Contains-cons_here, Contains-cons_there, Contains-flat_map, Contains-map, Contains-nil, Hashes, IsApart, IsPairOf, IsTotalOrder}
pub use Rattle.dv_records.proofs.Vocabulary.{List, Mapping, None, Option, Pair, Place, Some, [], all_pass, all_pass_replicate, all_refs, and_from, and_parts, ap, append-nil, appended, are_in_load_order, are_rows_of, arith, ascending-sorted_by, asymmetric, batch_of, bytes_eq, bytes_eq-Decides}
pub use Rattle.dv_records.proofs.Vocabulary.{collision_in, deliveries, digest_cmp, drop, each_hash, false, false≢true, feed_hubs, filter, filter_map, filter_map_member, filtered_members, find, find_same, finds, first_offer, fit_hubs, fits_hub, flat_map, flat_map_member, found_member, got_member}
pub use Rattle.dv_records.proofs.Vocabulary.{hashed_refs, hub_batch, if◌then◌else◌, inl, inr, irreflexive, is_declared, is_fed_by, is_hub, is_known, is_missing, is_offered, is_row_of, is_staged, is_valid, is_window, keys_at, length, link_batch, list_all, list_any, list_any-map, ltb-true, made_of}
pub use Rattle.dv_records.proofs.Vocabulary.{map, map_member, member_after_sort, member_before_sort, member_of_all, member_of_filter_map, missing_key, missing_refs, nat_cmp-IsAntisymmetric, nat_le, nat_list_cmp_total, nat_lt, not-true, offered_refs, offers, offers_of, on_total, only_key, or_parts}
pub use Rattle.dv_records.proofs.Vocabulary.{parent_hubs, parts_of, passes_at, refl, refs_cmp, refs_eq, refs_eq-Decides, refs_exact, refs_from, refs_total, reverse, reverse_member, same_answer, slice_cmp-IsAntisymmetric, slice_get, some_passes, some_passes_at, sorted_by, sorted_by-members}
pub use Rattle.dv_records.proofs.Vocabulary.{source, subst, suc, sym, table_of, take, texts_eq, then_less, then_total, true, turned, valid_link, ℕ, ◌++◌, ◌-◌, ◌<◌, ◌==◌, ◌∙◌, ◌∷◌, ◌≡◌, ◌≤◌, ◌⊎◌}
pub use Rattle.dv_text.proofs.Vocabulary.{append_assoc, false_from_ne_true, key_eq, length-map, nat_cmp_total, option_to_list, recursion_from_All, replicate, same_Some, tied_itself, ◌&&◌}
pub use Rattle.dv_catalog.proofs.ValidReads.{valid_parts}
pub use Rattle.dv_catalog.specs.Feeds.{hubs_by, parent_eq}
pub use Rattle.dv_catalog.specs.declared.{entries.FeedDef.FeedDef, entries.HubDef.HubDef, entries.LinkDef.LinkDef, entries.Parent.Parent, entries.Parent.TheVariants.Hub, entries.Parent.TheVariants.Link}
pub use Rattle.dv_digest.proofs.Lengths.{refs_text_fits}
pub use Rattle.dv_digest.specs.declared.rooms.TheConstants.{ROOM_SIZE}
pub use Rattle.dv_hub_link.specs.{HashedLists.HashedList, HashedLists.brought_lists, HashedLists.hashed_cmp, HashedLists.hashed_item, HashedLists.hashed_list, HashedLists.hashed_lists, HashedLists.list_beside, HashedLists.missing_of, HashedLists.told, HashedLists.with_missing}
pub use Rattle.dv_hub_link.specs.{HashedOrder.hashed_cmp-IsAntisymmetric, HashedOrder.lent_cmp, HashedOrder.rivals_cmp-IsAntisymmetric, HeldLists.are_held_apart, HeldLists.beside, HeldLists.is_held, HeldLists.list_under, HeldLists.standing, HubDeltas.AreHubItems, HubDeltas.IsHeld}
pub use Rattle.dv_hub_link.specs.{HubDeltas.IsHubItem, HubDeltas.IsNext, HubDeltas.hub_delta, HubDeltas.hub_hashed, Items.AreItems, Items.IsItem, Items.are_keys_of, Items.is_key_of, Items.is_parent_table, KeyDeltas.delta, KeyDeltas.lists_of, KeyDeltas.new_row, KeyDeltas.row_cmp}
pub use Rattle.dv_hub_link.specs.{LinkDeltas.AreLinkItems, LinkDeltas.TellLists, LinkDeltas.key_with, LinkDeltas.link_delta, LinkDeltas.link_hashed, LinkLists.are_of_links, LinkLists.hubs_in, LinkLists.hubs_of, LinkLists.is_of_link, LinkLists.key_or, LinkLists.key_under, LinkLists.keys_under}
pub use Rattle.dv_hub_link.specs.{LinkLists.stored, NewLists.all_hashed, NewLists.is_new, NewLists.is_new_beside, NewLists.kept, NewLists.new_beside, NewLists.new_item, NewLists.new_lists, NewRows.hub_row_of, NewRows.link_row, PlacedRows.are_parents_apart, PlacedRows.are_placed_rows}
pub use Rattle.dv_hub_link.specs.{PlacedRows.has_row_under, PlacedRows.row_under, Rivalries.all_neighbours, Rivalries.all_rivals, Rivalries.clash, Rivalries.has_clash, Rivalries.held_rival, Rivalries.is_other, Rivalries.least_rivals, Rivalries.neighbours, Rivalries.rivals_cmp, Rivalries.rivals_of}
pub use Rattle.dv_hub_link.specs.declared.{hashed_lists.LentList.LentList, holds_lists.Standing.Standing, holds_lists.Standing.TheVariants.Held, holds_lists.Standing.TheVariants.Other, rivals.Rivals.Rivals}
pub use Rattle.dv_records.proofs.{BatchTies.batch_made, BatchTies.tied_by_digest, CollisionTies.collision_free, CollisionTies.collision_tied, DatedRows.up_to_last, Delivered.deliveries_member, Delivered.delivery-offered, Delivered.first_offer-member, Delivered.first_offer-refs}
pub use Rattle.dv_records.proofs.{Delivered.has_first_offer, Delivered.is_offered-member, Delivered.offered_member, HubTables.offered_key, HubTables.table_has, HubTables.table_row, KnownLists.key_at_first, KnownRefs.key_found, KnownRefs.missing_unfound, KnownRefs.the_missing}
pub use Rattle.dv_records.specs.{Deltas.Answers, Deltas.AreHashed, Deltas.HasNoClash, Deltas.Hashed, Deltas.IfCollides, Deltas.IsClash, Deltas.IsLeastClash, Deltas.brought, Deltas.delivered, Deltas.delivery_of, Deltas.hashed_by, Deltas.missing_in, HubNames.HubName, HubNames.key_named}
pub use Rattle.dv_records.specs.{HubPlaces.hub_place, LinkPlaces.link_place}
pub use Rattle.dv_records.specs.declared.{deliveries.Delivery.Delivery, deliveries.DeltaFault.DeltaFault, deliveries.DeltaFault.TheVariants.Collision, deliveries.DeltaFault.TheVariants.Memory, deliveries.HashedDelivery.HashedDelivery, raw_rows.HubRow.HubRow, raw_rows.LinkRow.LinkRow}
pub use Rattle.dv_text.proofs.{Members.filter_map_more, Members.filter_map_same, Passing.find_none, Passing.none_found_at, Passing.none_pass, StableSorts.sorted_by-map}
pub use Rattle.dv_text.specs.declared.{rows.Key.Key, rows.NRow.NRow, rows.Staged.Staged, rows.Window.Window}
pub use Rattle.std.proofs.{Common.Bor, Common.Err, Common.Ok, Common.eqb-true, Common.is_some, Common.lt-ltb, Common.option_map, lemmas.Bool.eq-eqb, lemmas.List.length-replicate, lemmas.List.reverse-reverse, lemmas.List.Kept.IsStrictlySortedBy-filter, lemmas.Result.err_from_is_err_and}
pub use Rattle.std.proofs.{lemmas.Simd.map-map, lemmas.Slice.Zip.length-zip}
pub use Rattle.std.specs.{List.cons_option, Prelude.IfOk, Prelude.Result, Prelude.◌||◌}
pub use Rattle.std.specs.declared.{cmp.Ordering.Ordering, cmp.Ordering.TheVariants.Equal, cmp.Ordering.TheVariants.Greater, cmp.Ordering.TheVariants.Less}
unfoldable pub use Rattle.std.specs.List.Sorted.{IsStrictlySortedBy}
