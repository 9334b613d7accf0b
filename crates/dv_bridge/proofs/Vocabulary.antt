-- What the proofs of this crate, and of those above it, take from elsewhere.
pub use Rattle.dv_catalog.proofs.Vocabulary.{again_after, are_joined_by, is_link_feed, most_references, number_twice, passes_got, position_or_len, prefix_len-le-length}
pub use Rattle.dv_hub_link.proofs.Vocabulary.{key_at_first, length-replicate, refs_text}
pub use Rattle.dv_print.proofs.Vocabulary.{flat_map-append}
pub use Rattle.dv_records.proofs.Vocabulary.{Bool, Contains, Contains-append_left, Contains-append_right, Contains-cons_cases, Contains-cons_here, Contains-cons_there, Contains-flat_map, Contains-map, Contains-nil, Hashes, IsApart, IsTotalOrder, List, Mapping, None, Option, Some, [], all_members}
pub use Rattle.dv_records.proofs.Vocabulary.{all_pass_replicate, all_refs, always_returns_same, and_from, and_parts, ap, append-nil, are_windows_valid, arith, ascending-append, ascending-sorted_by, bridge, bridge_cmp, bridge_row, bytes_eq, bytes_eq-Decides, cond, content, delivered_refs}
pub use Rattle.dv_records.proofs.Vocabulary.{digest_cmp, each_hash, eq-eqb, eqb-true, false, false≢true, feed_hubs, filter-append, filter_map, filter_map_member, filtered_members, fit_hubs, fits_hub, flat_map, flat_map_member, found_member, get_or, got_member, hashed_refs, if◌then◌else◌, inl}
pub use Rattle.dv_records.proofs.Vocabulary.{inr, insert_by, irreflexive, is_declared, is_hub, is_known, is_lt, is_missing, is_valid, keys_at, length, link_hubs, link_row_by, link_rows_in, list_all, list_any, lt-ltb, ltb-true, made_of, map, map-append, map_member, member_after_sort}
pub use Rattle.dv_records.proofs.Vocabulary.{member_before_sort, member_of_all, member_of_filter_map, missing_key, missing_refs, nat_list_cmp_total, nat_lt, nil_from_length, none_placed, not, not-true, on_total, one_value, option_map, option_map_or, or_none, ordering_then, parent_hubs, parts_of}
pub use Rattle.dv_records.proofs.Vocabulary.{passes_at, path_rows_by, pointwise, position, present_at, present_parents, range_with_len, ranks_by, refl, refs_cmp, refs_exact, refs_total, replicate, reverse, rules, same_answer, slice_cmp-IsAntisymmetric, slice_get, some_passes, some_passes_at}
pub use Rattle.dv_records.proofs.Vocabulary.{sorted_by, sorted_by-members, status_rows_in, subst, suc, sym, take, text_cmp-IsAntisymmetric, then_total, true, valid_feed, valid_link, vault, zero, ℕ, ◌++◌, ◌+◌, ◌<◌, ◌==◌, ◌||◌, ◌∙◌, ◌∷◌, ◌≡◌, ◌≤◌}
pub use Rattle.dv_sat.proofs.Vocabulary.{Bor, IsPartitionPoint, IsPartitionPoint-from_clause, IsPartitionedBy, IsStrictlySortedBy-filter, get_or-drop, is_gt, length-drop, take_rest}
pub use Rattle.dv_text.proofs.Vocabulary.{IsAntisymmetric, IsPermutation, drop, drop_more, fails_before_first, get_or-range_with_len, key_eq, le-ltb, lists_total, nat_eq, slice_cmp, texts_ties, tied_itself, ties}
pub use Rattle.dv_track.proofs.Vocabulary.{IsStrictlySortedBy-filter_map}
pub use Rattle.dv_vault.proofs.Vocabulary.{Err, HasForm, HasSealed, IfOk, Ok, RawVault, Result, append_assoc, cases_lt, cons_option, err_from_is_err_and, false_from_ne_true, filter, filter_map_more, got_here, hashes_of, hub_apart, hubs_by, length-append, length-map, length-range_with_len}
pub use Rattle.dv_vault.proofs.Vocabulary.{link_declared, list_all-append, map-map, none_pass, none_passes, option_to_list, position-Some, slice_get-get_or, slice_get-map, slice_get_within, take_more, ◌&&◌}
pub use Rattle.dv_bridge.specs.{BridgeRows.first_row, BridgeRows.is_same_key, BridgeRows.is_whole, BridgeRows.links_at, BridgeRows.longer_row, BridgeRows.meets, BridgeRows.next_rows, BridgeTables.are_linked, BridgeTables.bridge_read, BridgeTables.feed_links, BridgeTables.links_by}
pub use Rattle.dv_bridge.specs.{BridgeTables.parent_links, BridgeTables.place_of, BridgeTables.row_over, BridgeTables.share, FirstWays.AreFirstWays, FirstWays.HasTooManyWays, FirstWays.first_ways, Joins.joined_rows, Joins.keyed_at, Joins.keyed_met, Joins.keyed_row, Joins.keyed_with}
pub use Rattle.dv_bridge.specs.{Joins.row_with, Joins.told_row, Joins.with_key, KeyedRows.KeyedRow, KeyedRows.bare, KeyedRows.key_of, KeyedRows.met_by, Paths.is_path_too_large, Ways.end_of, Ways.ends_from, Ways.last_key, Ways.links_met, Ways.longer_ways, Ways.row_along, Ways.ways_behind}
pub use Rattle.dv_bridge.specs.{Ways.ways_by, Ways.ways_of, ZeroKeys.HasZeroKeys, ZeroKeys.is_zero}
pub use Rattle.dv_bridge.specs.declared.{fault.BridgeFault.BridgeFault, fault.BridgeFault.TheVariants.TooLarge, keyed_links.KeyedLink.KeyedLink, ways.Joint.Joint}
pub use Rattle.dv_catalog.proofs.{PlaceSteps.place_or_len, ValidReads.ValidPath, ValidReads.valid_path}
pub use Rattle.dv_catalog.specs.{Lookups.again, Mappings.has_number, Mappings.is_of_link, Mappings.is_place_of_step, Mappings.link_places, Mappings.step_places}
pub use Rattle.dv_catalog.specs.declared.{entries.FeedDef.FeedDef, entries.LinkDef.LinkDef, entries.Parent.Parent, entries.Parent.TheVariants.Hub, entries.Parent.TheVariants.Link, entries.PathDef.PathDef}
pub use Rattle.dv_records.proofs.{FeedContents.content_delivered, FeedContents.content_row, FeedContents.feed_apart, FeedContents.present_has, FeedContents.row_form, FeedContents.row_present, FeedRefs.as_many, FeedRefs.key_at_later, KnownLists.key_known, KnownLists.row_known}
pub use Rattle.dv_records.proofs.{KnownRefs.known_apart, KnownRefs.known_hashed, KnownRefs.known_there, KnownRefs.list_found, ValidWindows.link_apart, VaultRows.vault_link}
pub use Rattle.dv_records.specs.{Hubs.link_cmp, Limits.most_path_rows, Marts.agrees, Marts.choices, Marts.contents, Marts.path_rows, Marts.prefix_rows, Marts.whole_refs, Steps.is_too_large}
pub use Rattle.dv_records.specs.declared.{mart_rows.PathRow.PathRow, raw_rows.LinkRow.LinkRow, raw_rows.StatusRow.StatusRow, snapshots.BridgeRow.BridgeRow, stores.TableRows.TableRows}
pub use Rattle.dv_sat.proofs.Together.{alike_tied, before_first, behind_last, parted_rest, run_is, unlike_greater, unlike_less}
pub use Rattle.dv_text.proofs.{Deciding.key_eq-Decides, Options.take_got, Places.position-cons, SortedLists.few_ascend, StableSorts.alike}
pub use Rattle.dv_text.specs.Keys.{DigestFunction}
pub use Rattle.dv_text.specs.declared.{rows.Key.Key, rows.NRow.NRow, rows.Window.Window}
pub use Rattle.std.proofs.{Common.length-take-le, Common.take-append-drop, Math.Seq.take-length, lemmas.List.take-map, lemmas.List.Concat.flat_map_single, lemmas.List.Folds.flat_map-map, lemmas.List.Folds.length-flat_map-take, lemmas.List.Sorted.length_permutation}
pub use Rattle.std.proofs.lemmas.List.Sums.{passes_at_first}
pub use Rattle.std.proofs.{lemmas.Option.unwrap_or-slice_get}
pub use Rattle.std.specs.Prelude.{unwrap_or, ◌-◌}
pub use Rattle.std.specs.declared.{cmp.Ordering.Ordering, cmp.Ordering.TheVariants.Equal, cmp.Ordering.TheVariants.Greater, cmp.Ordering.TheVariants.Less}
unfoldable pub use Rattle.std.specs.List.Sorted.{IsStrictlySortedBy}
