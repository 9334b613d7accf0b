-- What the proofs of this crate, and of those above it, take from elsewhere.
pub use Rattle.dv_catalog.proofs.Vocabulary.{again_after, drop, map-append, map_member, nat_lt, text_twice, ◌==◌}
pub use Rattle.dv_text.proofs.Vocabulary.{Bool, Contains, Contains-append_left, Contains-append_right, Contains-get_or, IfOk-weaker, IsAntisymmetric, IsTotalOrder, Less-from_sorted, List, None, Option, Some, [], and_parts, ap, arith, cases_order, cond, false, false_from_ne_true, get_or}
pub use Rattle.dv_text.proofs.Vocabulary.{get_or_default, inl, inr, is_eq, is_some, le-ltb, length, length-map, list_all, list_any, map, nat_cmp, not, not-false, option_or, ordering_reverse, ordering_then, position, refl, refs_cmp, refs_eq, row_cmp, same_Some, slice_cmp, sorted_by, subst, suc}
pub use Rattle.dv_text.proofs.Vocabulary.{sym, take, text_cmp, texts_eq, tied_itself, true, zero, ℕ, ◌&&◌, ◌++◌, ◌+◌, ◌-◌, ◌<◌, ◌||◌, ◌↔◌, ◌∙◌, ◌∷◌, ◌≡◌, ◌≤◌, ◌⊎◌}
pub use Rattle.csv.proofs.ReadFacts.{rows-end, rows-more}
pub use Rattle.csv.specs.{Machine.Read, Machine.after_end, Machine.carriage_return, Machine.ends_at_end, Machine.ends_with, Machine.field_after, Machine.fields_after, Machine.in_field, Machine.is_byte, Machine.is_end, Machine.line_feed, Machine.start_field, Machine.start_record, Machine.step}
pub use Rattle.csv.specs.{Reading.ReadRecord, Reading.default_config, Reading.records_next, Reading.source_of, Records.fields_of}
pub use Rattle.csv.specs.declared.{parser.Action.Action, parser.Config.Config, parser.State.State, parser.Terminator.Terminator, reader.Reader.Reader}
pub use Rattle.dv_catalog.specs.{Headers.header_names, Headers.header_rule, Headers.known_columns, Headers.mapped_columns, Limits.most_field_bytes, Lookups.is_among, Readings.behind_header, Readings.part_ways, Readings.shared_drivers, Readings.two_drivers, Readings.Read.Taken, Records.are_rivals}
pub use Rattle.dv_catalog.specs.{Records.driver_keys, Records.empty_key, Records.field_long, Records.fields_under, Records.key_under, Records.not_utf8, Records.place_of, Records.ragged, Records.record_rule, Records.records_rule, Records.row_of, Records.too_many_rows, Records.two_rows}
pub use Rattle.dv_catalog.specs.declared.{entries.FeedDef.FeedDef, rules.Rule.Rule}
pub use Rattle.dv_stage.specs.{Checks.own_rule, Layouts.IsLayoutOf, Layouts.fields_at, Layouts.key_at, Layouts.places_of, Layouts.row_at, Neighbours.first_neighbour, Partners.first_pair, Partners.partner_cmp, Partners.partner_of, Partners.share_driver, Remaining.IsExtractReader}
pub use Rattle.dv_stage.specs.{Remaining.bytes_left, Remaining.records_left, Remaining.rest_records, Rivals.HasNoRivals, Rivals.IsFirsts, Rivals.IsTakenRows, Rivals.is_named, Rivals.name_cmp, Rivals.name_of, Rivals.repeats_name, Rivals.share_name}
pub use Rattle.dv_stage.specs.declared.{layouts.Layout.Layout, partners.Partner.Partner, taken_rows.RowName.RowName, taken_rows.TakenRows.TakenRows}
pub use Rattle.dv_text.proofs.{Deciding.refs-tie, Deciding.refs_eq-Decides, Deciding.refs_exact, Deciding.refs_total, Deciding.texts-tie, Deciding.texts_eq-Decides, Deciding.texts_exact, Deciding.texts_total, Members.Contains-cons_cases, Members.Contains-cons_here, Members.Contains-map}
pub use Rattle.dv_text.proofs.{Members.filter_map_more, Members.filtered_members, Members.member_of_all, Options.drop_got, Options.made_of, Options.none_before_map, Options.option_or-none, Options.take_got, Orderings.asymmetric, Orderings.greater_equal, Orderings.less_equal}
pub use Rattle.dv_text.proofs.{Orderings.less_greater, Orderings.then_less, Passing.filter-none, Passing.some_passes, Passing.some_passes_at, Places.found_at, Places.none_placed, Places.placed_narrower, Places.placed_within, Places.position-last, Places.unplaced, SortedLists.ascending-sorted_by}
pub use Rattle.dv_text.proofs.{SortedLists.member_after_sort, SortedLists.member_before_sort}
pub use Rattle.dv_text.specs.{Keys.is_missing, Normal.norm_field, Normal.norm_key}
pub use Rattle.dv_text.specs.declared.{rows.Key.Key, rows.NRow.NRow}
pub use Rattle.std.proofs.{Common.Bor, Common.Err, Common.MatchResult, Common.Ok, Common.Result, Common.if◌then◌else◌, Common.length-append, Common.length-drop, Common.vec_len, lemmas.Bool.both_ways, lemmas.Bool.cases_eq, lemmas.Bool.not-true, lemmas.List.append-nil, lemmas.List.append_assoc}
pub use Rattle.std.proofs.{lemmas.List.Elements.Contains-push_cases, lemmas.List.Folds.find-append, lemmas.List.Folds.list_any-append, lemmas.Map.Text.is_eq-slice_cmp, lemmas.Option.none-some, lemmas.Option.slice_get_read, lemmas.Str.IsUtf8-from_is_utf8, lemmas.Str.is_utf8-from_IsUtf8}
pub use Rattle.std.specs.{BTreeMap.BTreeMap, BTreeMap.Updates, BTreeMap.get, BTreeSet.BTreeSet, BTreeSet.contains, Cmp.tied_back, Cmp.tied_then, List.cons_option, List.slice_get, Option.option_map_or, Prelude.IsSome, Prelude.IsUtf8, Prelude.bytes_eq, Prelude.filter, Prelude.filter_map}
pub use Rattle.std.specs.{Prelude.find, Prelude.flat_map, Prelude.option_and_then, Prelude.option_to_list, Result.is_ok, Str.is_utf8}
pub use Rattle.std.specs.declared.{cmp.Ordering.Ordering, cmp.Ordering.TheVariants.Equal, cmp.Ordering.TheVariants.Greater, cmp.Ordering.TheVariants.Less}
unfoldable pub use Rattle.csv.specs.{Machine.next_record, Reading.Reached, Reading.records_from, Records.field_at}
unfoldable pub use Rattle.std.specs.List.Sorted.{IsStrictlySortedBy}
