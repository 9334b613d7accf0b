-- What the proofs of this crate, and of those above it, take from elsewhere.
pub use Rattle.dv_app.proofs.Vocabulary.{IsMappedBy, IsStored, codes, read_mapping, ⊎_elim}
pub use Rattle.dv_bridge.proofs.Vocabulary.{ValidPath, again, unwrap_or}
pub use Rattle.dv_checks.proofs.Vocabulary.{Bool, Contains, Contains-append_cases, Contains-cons_cases, Contains-cons_here, Contains-cons_there, Contains-map, Contains-nil, List, None, Option, Some, [], again_after, all_pass, and_from, and_parts, ap, are_joined_by, are_some_places, arith}
pub use Rattle.dv_checks.proofs.Vocabulary.{bytes_eq, bytes_eq-Decides, eq-eqb, eqb-true, false, feed_def, feed_place, filter_map, find, first_of, flat_map, found_member, get_or, has_column_form, has_name_form, has_number, has_shape, hub_def, hub_place, inl, inr, is_among, is_declared, is_hub}
pub use Rattle.dv_checks.proofs.Vocabulary.{is_link, is_link_feed, is_none, is_of_link, is_place_of_step, is_some, is_valid, is_within, length, length-map, link_def, link_place, list_all, list_any, list_any-map, map, map-append, map-map, map_member, mapping_of, most_columns, most_ignored}
pub use Rattle.dv_checks.proofs.Vocabulary.{most_parts, most_references, most_steps, nat_eq, nat_le, nat_lt, nat_tests, none_from, not, not-true, number_twice, option_map_or, option_or, or_none, parent_def, passes_at, path_def, position_or_len, range_with_len, reference_place, refl, slice_get}
pub use Rattle.dv_checks.proofs.Vocabulary.{some_passes, some_passes_at, subst, sym, take, text_twice, true, ℕ, ◌&&◌, ◌++◌, ◌+◌, ◌<◌, ◌==◌, ◌||◌, ◌∙◌, ◌∷◌, ◌≡◌, ◌≤◌}
pub use Rattle.dv_mapfile.proofs.Vocabulary.{document_of, mapping_document, mapping_valid}
pub use Rattle.dv_mart.proofs.Vocabulary.{Err, Ok, Result, cond, if_not_too_large, if◌then◌else◌, is_too_large, option_and_then, path_text_by, row_cmp, valid_path}
pub use Rattle.dv_records.proofs.Vocabulary.{IsInLoadOrder, list_any-append}
pub use Rattle.dv_store_rules.proofs.Vocabulary.{AllByRecursion, Extract, HasTables, Hashes, Mapping, State, append-nil, append_assoc, cases_lt, filter_map_member, find_none, flat_map_member, history, is_missing, le-leb, length-append, list_any_at, none_pass, option_map, option_to_list, or_parts}
pub use Rattle.dv_store_rules.proofs.Vocabulary.{partial, row_count, rules, snapshots_weight, suc, sum_by-append, valid_feed, valid_hub, valid_link, vault, zero, ◌⊎◌}
pub use Rattle.dv_text.proofs.Vocabulary.{All-contains, All-from_recursion, Contains-get_or, common_steps, get_or-range_with_len, length-range_with_len}
pub use Rattle.dv_catalog.proofs.ValidReads.{ValidFeed, ValidHub, ValidLink, valid_parts}
pub use Rattle.dv_catalog.specs.Records.{record_rule, records_rule, row_of}
pub use Rattle.dv_catalog.specs.declared.{entries.FeedDef.FeedDef, entries.PathDef.PathDef, map_error.MapError.MapError, outlines.FeedOutline.FeedOutline, outlines.HubOutline.HubOutline, outlines.LinkOutline.LinkOutline, outlines.Outline.Outline, outlines.ParentName.ParentName}
pub use Rattle.dv_catalog.specs.declared.{outlines.ParentName.TheVariants.Hub, outlines.ParentName.TheVariants.Link, outlines.PathOutline.PathOutline, rules.Rule.TheVariants.NoExtracts, tables.TableId.TheVariants.Status}
pub use Rattle.dv_checks.proofs.{Apart.passes_at_place, Apart.place_under, Apart.same_place, Resolved.columns_fit, Resolved.hubs_of_parent, Resolved.is_step, Resolved.places_of_step}
pub use Rattle.dv_mapfile.specs.Manifests.{manifest_in, manifest_or_text}
pub use Rattle.dv_mart.specs.MartTexts.{bridge_text_by}
pub use Rattle.dv_print.specs.declared.{query_rules.QueryRule.TheVariants.TooLarge}
pub use Rattle.dv_records.specs.{Loads.loaded, MemoryKeepers.empty_store, Reconstruction.key_row, Steps.BothRead}
pub use Rattle.dv_records.specs.declared.{answers.Outcome.TheVariants.Load, answers.Outcome.TheVariants.Refused, answers.Outcome.TheVariants.Repeated, answers.SnapAnswer.TheVariants.Future, keepers.KeeperError.TheVariants.Failed, keepers.KeeperError.TheVariants.Memory}
pub use Rattle.dv_records.specs.declared.{stores.Rows.TheVariants.Hubs, stores.Rows.TheVariants.Statuses, stores.Store.Store}
pub use Rattle.dv_shown.specs.{Answered.first_loaded, CatalogLaws.IsAtLeast, CatalogLaws.rule_at, Limited.weight_with, Mappings.bare, Mappings.with_customers_and_sites, Mappings.with_names, Mappings.with_sites_and_customers, PathLimits.PathLimitsHold, PathLimits.PathQuery, Stepped.bare_file}
pub use Rattle.dv_shown.specs.{Stepped.feed_first, Stepped.mapped as holding, Stepped.hub_first, Stepped.mapped, Stepped.next_staged, Stepped.no_mapping_file, Stepped.other_file, Stepped.renamed, Stepped.status_first, Stepped.two_present, Stepped.two_staged, Windows.keys_come_and_go}
pub use Rattle.dv_shown.specs.{Windows.next_keys, Windows.two_keys, Windows.two_keys_window, Words.bare_row, Words.day, Words.key, Words.plain}
pub use Rattle.dv_text.specs.declared.{rows.Key.Key, rows.NRow.NRow, rows.Window.Window}
pub use Rattle.std.proofs.{Common.slice_index, Math.Bool.and-false, Math.Bool.false-and, Math.Bool.or-true, lemmas.Bool.ltb-true, lemmas.List.length_push, lemmas.Option.slice_get_read}
pub use Rattle.std.specs.Prelude.{⊤}
unfoldable pub use Rattle.csv.proofs.OnLiterals.{csv_on_literals}
unfoldable pub use Rattle.csv.specs.Writing.{fields_text, is_blank}
unfoldable pub use Rattle.dv_app.specs.Exercised.{exercised, state_behind}
unfoldable pub use Rattle.dv_text.specs.Prefixes.{spelt}
unfoldable pub use Rattle.dv_text.specs.Stamps.{has_digits, has_form, has_marks, month_from, seconds_if, stamp_in, stamp_text, year_from}
unfoldable pub use Rattle.hex.proofs.OnLiterals.{hex_on_literals}
unfoldable pub use Rattle.jiff_core.specs.Calendar.{day_count, days_from_civil, days_of_months, days_of_years}
unfoldable pub use Rattle.md5.specs.Md5.{block_words, compress, digest_bytes, hash_after, md5, rounds}
unfoldable pub use Rattle.std.specs.{Char.encode_utf8, Fmt.digits, List.Sorted.IsStrictlySortedBy, Str.chars, Str.is_utf8}
unfoldable pub use Rattle.toml.proofs.OnLiterals.{toml_on_literals}
