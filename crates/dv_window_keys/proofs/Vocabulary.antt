-- What the proofs of this crate, and of those above it, take from elsewhere.
pub use Rattle.dv_board.proofs.Vocabulary.{AreLeastOffered, Offerer}
pub use Rattle.dv_crew.proofs.Vocabulary.{All-push, AreResults, IsSync, cases_eq, cases_lt, crosses, get_or-append_seam, get_or_append_left, length-append, ne_eqb, sendable, slice_get-get_or, slice_get_within, times, times_last, ⊎_elim, ◌*◌}
pub use Rattle.dv_digest.proofs.Vocabulary.{attrs_fit, hashes_of, le-leb, refs_fit, texts_fit}
pub use Rattle.dv_index.proofs.Vocabulary.{drop_all, ext_get_or}
pub use Rattle.dv_records.proofs.Vocabulary.{All, All-contains, All-nil, AllByRecursion, Bool, Contains, Contains-append_left, Contains-append_right, Contains-cons_cases, Contains-cons_here, Contains-cons_there, Contains-map, Contains-nil, Hashes, List, Mapping, None, Option, Some, [], all_pass}
pub use Rattle.dv_records.proofs.Vocabulary.{all_pass_weaker, all_refs, and_from, and_parts, ap, append-nil, arith, ascends, cond, deliveries, drop, effect_tables, eq-eqb, eqb-true, false, false≢true, feed_hubs, feed_tables, filter-append, filter_map, filter_map_member, filtered_members, find}
pub use Rattle.dv_records.proofs.Vocabulary.{first_offer, fit_hubs, fits_hub, flat_map, flat_map_member, found_member, get_or, get_or_from_slice_get, if◌then◌else◌, inl, inr, irreflexive, is_declared, is_fed_by, is_field, is_key_part, is_missing, is_staged, is_valid, is_window, keys_at, length}
pub use Rattle.dv_records.proofs.Vocabulary.{link_hubs, list_all, map, map-append, map_member, member_of_all, member_of_filter_map, nat_cmp, nat_le, nat_lt, nat_tests, nil_from_length, not, offers, offers_of, option_map, option_map_or, parent_hubs, parts_of, passes_at, position_or_len}
pub use Rattle.dv_records.proofs.Vocabulary.{range_with_len, refl, refs_eq, refs_eq-Decides, refs_from, row_cmp, same_answer, sat_tables, slice_get, subst, suc, sum_by, sum_by-cons, sym, table_of, tables, take, true, valid_feed, valid_link, zero, ℕ, ◌++◌, ◌+◌, ◌<◌, ◌==◌, ◌∙◌, ◌∷◌, ◌≡◌, ◌≤◌}
pub use Rattle.dv_text.proofs.Vocabulary.{All-from_recursion, Contains-get_or, IfOk-weaker, append_assoc, filter, length-map, nat_cmp_total, option_to_list, same_Some, slice_get-map, take_more, ◌&&◌}
pub use Rattle.dv_board.proofs.{KeyMoves.times_miss, Sums.times-append}
pub use Rattle.dv_catalog.proofs.ValidReads.{valid_hub, valid_parts}
pub use Rattle.dv_catalog.specs.Feeds.{hubs_by, parent_eq}
pub use Rattle.dv_catalog.specs.declared.{entries.FeedDef.FeedDef, entries.HubDef.HubDef, entries.LinkDef.LinkDef, entries.Parent.Parent, entries.Parent.TheVariants.Hub, entries.Parent.TheVariants.Link, tables.TableId.TableId}
pub use Rattle.dv_digest.specs.HashedExtracts.{HasKeys}
pub use Rattle.dv_digest.specs.declared.hashed_extracts.HashedExtract.{HashedExtract}
pub use Rattle.dv_records.proofs.{Delivered.deliveries_member, Delivered.first_offer-member, WindowRows.AreRows, WindowRows.HasForm, WindowRows.field_text, WindowRows.key_form, WindowRows.key_part, WindowRows.staged_rows, WindowRows.window_parts}
pub use Rattle.dv_records.specs.Deltas.{AreHashed, delivered}
pub use Rattle.dv_records.specs.declared.{deliveries.Delivery.Delivery, deliveries.HashedDelivery.HashedDelivery}
pub use Rattle.dv_text.proofs.{Members.filter_map_more, Members.filter_map_same, Options.drop_got, Options.got_from, Options.none_behind}
pub use Rattle.dv_text.specs.declared.{rows.Key.Key, rows.NRow.NRow, rows.Staged.Staged, rows.Window.Window}
pub use Rattle.dv_window_keys.specs.{DeliverySets.AreDeliveriesOf, HashedWindows.IsHashedAt, ItemClasses.class_at, ItemClasses.first_got, ItemClasses.first_le, ItemClasses.home_at, ItemClasses.is_itself, ItemClasses.item_is, ItemClasses.keys_length, ItemClasses.parent_itself}
pub use Rattle.dv_window_keys.specs.{ItemClasses.same_class, ItemClasses.same_first, ItemClasses.same_parent, Offered.IsKeyOf, Offered.Keyed, Offered.delivery_to, Offered.hashed_as, Offered.keyed, Offered.offered_by, Offered.told_by, Tasks.feed_block, Tasks.feed_tasks, Tasks.tables_of_feed}
pub use Rattle.dv_window_keys.specs.{Tasks.tasks, WindowItems.AreLeast, WindowItems.AreOffered, WindowItems.AreRanges, WindowItems.AreTold, WindowItems.AreUpTo, WindowItems.HaveAllOffered, WindowItems.HaveOffered, WindowItems.IsFullAt, WindowItems.IsOfTask, WindowItems.Item}
pub use Rattle.dv_window_keys.specs.{WindowItems.OffersMore, WindowItems.chosen, WindowItems.first_same, WindowItems.hub_items, WindowItems.is_of, WindowItems.item_of, WindowItems.items_of, WindowItems.keys_of, WindowItems.link_by, WindowItems.link_in, WindowItems.link_items}
pub use Rattle.dv_window_keys.specs.{WindowItems.offer_for, WindowItems.offers_with, WindowItems.row_items, WindowItems.window_items}
pub use Rattle.dv_window_keys.specs.declared.{items.Mixing.Mixing, items.WindowItem.WindowItem, offered_items.ItemRange.ItemRange, offers.Offer.Offer, tasks.Task.Task, tasks.Task.TheVariants.Batch, tasks.Task.TheVariants.Keys}
pub use Rattle.std.proofs.{lemmas.List.flat_map_more, lemmas.List.map-id, lemmas.List.Folds.find_at, lemmas.Nat.mul-le, lemmas.Simd.map-map, Common.◌-◌}
pub use Rattle.std.specs.{List.cons_option, Prelude.Err, Prelude.IfOk, Prelude.Ok, Prelude.Result}
pub use Rattle.std.specs.declared.cmp.Ordering.TheVariants.{Less}
unfoldable pub use Rattle.std.specs.List.Sorted.{IsStrictlySortedBy}
