-- What the proofs of this crate, and of those above it, take from elsewhere.
pub use Rattle.dv_bridge.proofs.Vocabulary.{AreFirstWays, Bor, Contains, Contains-append_left, Contains-append_right, Contains-cons_here, Contains-cons_there, Contains-map, Err, HasSealed, HasTooManyWays, HasZeroKeys, Hashes, IsAntisymmetric, IsStrictlySortedBy-filter, IsTotalOrder, KeyedRow}
pub use Rattle.dv_bridge.proofs.Vocabulary.{List, Mapping, None, Ok, Option, RawVault, Result, [], agrees, all_refs, ap, append_assoc, are_joined_by, are_linked, are_windows_valid, arith, ascending-sorted_by, bare, bytes_eq, choices, content, content_row, contents, digest_cmp, drop_more}
pub use Rattle.dv_bridge.proofs.Vocabulary.{each_hash, err_from_is_err_and, false≢true, feed_hubs, feed_links, few_ascend, filter_map, filtered_members, first_ways, flat_map-map, found_member, get_or, got_member, if◌then◌else◌, inl, inr, is_declared, is_known, is_link_feed, is_lt, is_missing}
pub use Rattle.dv_bridge.proofs.Vocabulary.{is_path_too_large, is_too_large, is_valid, length, length-map, link_apart, link_row_by, link_rows_in, list_all, list_any, list_found, lists_total, ltb-true, map, map-append, map-map, map_member, member_after_sort, member_before_sort, member_of_all}
pub use Rattle.dv_bridge.proofs.Vocabulary.{missing_key, nat_list_cmp_total, nat_lt, not, on_total, one_value, option_map_or, ordering_then, parent_hubs, passes_at, path_rows, path_rows_by, position, position-cons, prefix_rows, present_parents, range_with_len, refl, refs_cmp, refs_exact}
pub use Rattle.dv_bridge.proofs.Vocabulary.{refs_total, replicate, reverse, row_form, row_known, slice_cmp, slice_cmp-IsAntisymmetric, slice_get, slice_get-map, sorted_by, sorted_by-members, status_rows_in, subst, suc, sym, take, take-length, take-map, take_more, tied_itself, true, valid_feed}
pub use Rattle.dv_bridge.proofs.Vocabulary.{valid_path, vault, vault_link, whole_refs, zero, ℕ, ◌++◌, ◌+◌, ◌<◌, ◌==◌, ◌∙◌, ◌∷◌, ◌≡◌, ◌≤◌}
pub use Rattle.dv_catalog.proofs.Vocabulary.{first_of}
pub use Rattle.dv_contents.proofs.Vocabulary.{is_table_of, key_cmp, lex_map, ordering_reverse, tables_in, vault_tells}
pub use Rattle.dv_hub_link.proofs.Vocabulary.{find_none, option_map}
pub use Rattle.dv_print.proofs.Vocabulary.{All-push, Appends, IfOk-weaker, IsBetweenRecords, all_parts, append-nil, codes, csv_text, enumerate_from, flat_map, text_written, told, yes_or_no}
pub use Rattle.dv_records.proofs.Vocabulary.{Backwards, any_content_read, any_content_read_by, backwards, content_read, content_read_by, drop, effect_rows, effect_tables, feed_tables, filter, find, hub_feeds, hub_row_by, hub_rows_in, is_eq, is_of_kind, keys_read, link_rows, multi_content_read}
pub use Rattle.dv_records.proofs.Vocabulary.{multi_content_read_by, multi_rows, nat_cmp, nat_tests, one_of_ties, option_and_then, path_mart, position_or_len, refs_eq, refs_read, row_cmp, row_read, row_total, rows_in, rows_read, rows_then, sat_rows, sat_tables, status_rows, table_after, tables}
pub use Rattle.dv_records.proofs.Vocabulary.{turned, ◌-◌}
pub use Rattle.dv_text.proofs.Vocabulary.{Agrees, length-drop, text_cmp}
pub use Rattle.dv_vault.proofs.Vocabulary.{IfSome, OnOk, drop_all, refs-tie}
pub use Rattle.dv_bridge.proofs.{BridgesTell.first_path, Choices.AreAlike, Choices.alike_choice, Choices.alike_turned, Choices.ascending-choices, Choices.ascending-map, Choices.more, Choices.none, FeedLinks.LinkFeed, FeedLinks.feed_links_tell, FeedLinks.feeds_apart, FeedLinks.link_feed}
pub use Rattle.dv_bridge.proofs.{LinkedFeeds.AreLinksOf, LinkedFeeds.IsRowOf, LongerWays.map_same, MatchingRows.AreHubsApart, MatchingRows.AreMatching, MatchingRows.IsMatch, MatchingRows.linked_alike, PathBridges.ways_fit, PathBridges.ways_too_many, PathBridges.whole_ways, PathFeeds.link_feed_at}
pub use Rattle.dv_bridge.proofs.{PathFeeds.named_within}
pub use Rattle.dv_bridge.specs.Paths.{name_of_path}
pub use Rattle.dv_bridge.specs.declared.fault.BridgeFault.{BridgeFault}
pub use Rattle.dv_catalog.specs.Tables.{table_name}
pub use Rattle.dv_catalog.specs.declared.{entries.FeedDef.FeedDef, entries.Parent.Parent, entries.PathDef.PathDef, tables.TableId.TableId, tables.TableId.TheVariants.Effect, tables.TableId.TheVariants.Hub, tables.TableId.TheVariants.Link, tables.TableId.TheVariants.Multi}
pub use Rattle.dv_catalog.specs.declared.{tables.TableId.TheVariants.Sat, tables.TableId.TheVariants.Status}
pub use Rattle.dv_contents.proofs.{ContentFacts.made_or, ContentFacts.missing_at, ContentFacts.missing_count, ContentFacts.no_keys, PeriodFacts.effect_within}
pub use Rattle.dv_hub_link.proofs.Placed.{some_found}
pub use Rattle.dv_hub_link.specs.HubRows.{key_with}
pub use Rattle.dv_mart.specs.{HubContents.AreInOrder, HubContents.cell_at, HubContents.cell_of, HubContents.column_of, HubContents.column_told, HubContents.keys_of, HubContents.lent_row, HubContents.lent_rows, HubContents.not_before, HubContents.row_at, HubContents.row_of, HubContents.rows_of}
pub use Rattle.dv_mart.specs.{HubContents.shown_attrs, HubContents.told_rows, KeyOrder.key_total, KeyOrder.keyed_total, MartTexts.HasKind, MartTexts.if_not_too_large, MartTexts.mart_text, MartTexts.path_name, MartTexts.path_text_by, MartTexts.raw_text, OfferedMarts.IsOffered, PathTables.fault_of}
pub use Rattle.dv_mart.specs.{PathTables.keyed_cmp, PathTables.keyed_links, PathTables.keyed_row, PathTables.path_row, PathTables.steps_along, PathTables.way_record, Whats.bridge_word, Whats.driver_feed_place, Whats.feed_place, Whats.feed_word, Whats.has_driver, Whats.hub_place, Whats.hub_word}
pub use Rattle.dv_mart.specs.{Whats.if_driver, Whats.if_mart, Whats.offered_mart, Whats.path_place, Whats.path_word, Whats.period_word, Whats.pit_word, Whats.table_named, Whats.table_word, Whats.what_of}
pub use Rattle.dv_mart.specs.declared.{hub_columns.HubColumn.HubColumn, hub_contents.FeedRows.FeedRows, mart_faults.MartFault.MartFault, whats.What.What, whats.What.TheVariants.Bridge, whats.What.TheVariants.Feed, whats.What.TheVariants.Path, whats.What.TheVariants.Period}
pub use Rattle.dv_mart.specs.declared.{whats.What.TheVariants.Pit, whats.What.TheVariants.Table}
pub use Rattle.dv_pit.proofs.PitTells.{map_alike}
pub use Rattle.dv_print.proofs.WrittenTexts.{text_of_parts}
pub use Rattle.dv_print.specs.{TableTexts.raw_records, TableTexts.rows_behind, TableTexts.table_header, TableTexts.table_text, Texts.feed_record, Texts.hub_header, Texts.hub_record, Texts.path_header, Texts.path_record, Texts.path_text, Words.behind}
pub use Rattle.dv_print.specs.declared.{hub_feeds.HubFeed.HubFeed, query_rules.QueryRule.QueryRule, query_rules.QueryRule.TheVariants.TooLarge}
pub use Rattle.dv_records.proofs.{FeedContents.row_refs, VaultRows.vault_holds}
pub use Rattle.dv_records.specs.{Marts.attrs_or_blanks, Marts.hub_cell, Marts.hub_rows, Vault.rows_up_to}
pub use Rattle.dv_records.specs.declared.{mart_rows.HubMartRow.HubMartRow, mart_rows.PathRow.PathRow, raw_rows.HubRow.HubRow, raw_rows.LinkRow.LinkRow, stores.Rows.Rows, stores.Rows.TheVariants.Effects, stores.Rows.TheVariants.Hubs, stores.Rows.TheVariants.Links, stores.Rows.TheVariants.Multis}
pub use Rattle.dv_records.specs.declared.{stores.Rows.TheVariants.Sats, stores.Rows.TheVariants.Statuses, stores.TableRows.TableRows}
pub use Rattle.dv_text.specs.PrefixLaws.{first_agrees, key_agrees}
pub use Rattle.dv_text.specs.declared.{rows.Key.Key, rows.NRow.NRow, rows.Window.Window}
pub use Rattle.std.specs.{Option.is_some, Prelude.Bool, Prelude.Some, Prelude.cond, Prelude.false}
pub use Rattle.std.specs.declared.{cmp.Ordering.Ordering, cmp.Ordering.TheVariants.Equal, cmp.Ordering.TheVariants.Greater, cmp.Ordering.TheVariants.Less}
unfoldable pub use Rattle.std.specs.List.Sorted.{IsStrictlySortedBy}
