-- What the proofs of this crate, and of those above it, take from elsewhere.
pub use Rattle.dv_catalog.proofs.Vocabulary.{first_of, prefix_len-le-length, zip}
pub use Rattle.dv_records.proofs.Vocabulary.{AllByRecursion, Bool, Contains, Contains-append_left, Contains-append_right, Contains-cons_cases, Contains-cons_here, Contains-cons_there, Contains-flat_map, Contains-map, Contains-nil, Contains-range, IsTotalOrder, List, Mapping, None, Option, Some}
pub use Rattle.dv_records.proofs.Vocabulary.{[], all_members, all_pass, all_pass_weaker, always_returns_same, and_from, and_parts, ap, are_rivals, are_rows_of, arith, ascending-sorted_by, ascends, bytes_eq, bytes_eq-Decides, common_steps, cond, drop, eq-eqb, eqb-true, false, false≢true}
pub use Rattle.dv_records.proofs.Vocabulary.{filter-none, filter_map, filter_map_member, filtered_members, finds, fit_hubs, fits_hub, get_or, got_member, holds_of_each_two, if◌then◌else◌, inl, inr, is_field, is_key_part, is_keyed, is_lt, is_missing, is_one_partner, is_one_row, is_placed, is_some}
pub use Rattle.dv_records.proofs.Vocabulary.{is_staged, is_valid, is_window, key_cmp-IsAntisymmetric, length, length-sorted_by, list_all, list_any, list_any-map, map, map-append, map_member, member_after_sort, member_before_sort, member_of_all, member_of_filter_map, most_field_bytes}
pub use Rattle.dv_records.proofs.Vocabulary.{most_records, most_window_records, nat_cmp, nat_le, nat_lt, nat_tests, nil_from_length, none_before_map, none_from, norm_field, norm_key, not, not-true, one_of_ties, option_map_or, or_none, or_right, ordering_then, parts_of, passes_at, placed_within}
pub use Rattle.dv_records.proofs.Vocabulary.{pointwise, position, range_with_len, refl, refs_cmp, refs_exact, refs_total, reverse-append, row_cmp, row_eq, row_eq-Decides, row_total, rules, same_answer, slice_cmp-IsAntisymmetric, slice_eq-Decides, slice_get, some_passes_at, sorted_by}
pub use Rattle.dv_records.proofs.Vocabulary.{sorted_by-sorted, subst, suc, sum_by, sym, take, texts_eq, texts_eq-Decides, then_less, true, valid_feed, zero, ℕ, ◌++◌, ◌+◌, ◌-◌, ◌<◌, ◌==◌, ◌^◌, ◌||◌, ◌↔◌, ◌∙◌, ◌∷◌, ◌≡◌, ◌≤◌, ◌⊎◌}
pub use Rattle.dv_stage.proofs.Vocabulary.{HasNoRivals, Less-from_sorted, Taken, append-nil, cons_option, driver_keys, false_from_ne_true, fields_under, found_at, header_names, header_rule, is_among, key_under, length-map, mapped_columns, part_ways, place_of, record_rule, records_rule, row_of}
pub use Rattle.dv_stage.proofs.Vocabulary.{shared_drivers, slice_cmp, text_cmp, texts_exact, texts_total, tied_itself, two_drivers, ◌&&◌}
pub use Rattle.dv_text.proofs.Vocabulary.{IsPermutation-reverse, append_assoc, drop_more, filter, find, is_none, length-drop, min, nat_cmp_total, on_total, sorted_from_all_adjacent, take_more, then_total, ◌*◌}
pub use Rattle.dv_catalog.proofs.ValidReads.{ValidFeed}
pub use Rattle.dv_catalog.specs.{Extracts.extract_records, Headers.missing_column, Readings.Read, Readings.broken_rule, Readings.read_by, Readings.reads, Readings.records_read, Readings.rule_or_rows, Readings.taken_count, Readings.Read.Broken, Windows.PlacedExtract, Windows.ReadExtract}
pub use Rattle.dv_catalog.specs.{Windows.extract_at, Windows.given_for, Windows.placed_extracts, Windows.reads_after, Windows.room_after, Windows.staged_from, Windows.window_of, Windows.window_rule}
pub use Rattle.dv_catalog.specs.declared.{entries.FeedDef.FeedDef, rules.Rule.Rule, rules.Rule.TheVariants.NoExtracts, rules.Rule.TheVariants.TooLong, rules.Rule.TheVariants.UnknownFeed, windows.ExtractIn.ExtractIn, windows.WindowIn.WindowIn}
pub use Rattle.dv_records.proofs.WindowRows.{HasForm, of_each_two, rows_hold, same_text, window_holds}
pub use Rattle.dv_records.specs.{Limits.most_window_bytes, Outcomes.is_feed, Outcomes.no_extracts, Outcomes.repeated_name, Outcomes.too_long_behind, Outcomes.unknown_feed}
pub use Rattle.dv_stage.proofs.RivalFacts.{apart_more, no_rival_of_itself, rival_from, rival_parts}
pub use Rattle.dv_stage.specs.Faults.{TellsRule}
pub use Rattle.dv_stage.specs.declared.faults.StageFault.{StageFault}
pub use Rattle.dv_text.proofs.{Members.all_more, Options.got_from, Options.none_behind, Orderings.is_less, Passing.none_pass, Passing.none_passes, Passing.passes_where_none_fails}
pub use Rattle.dv_text.specs.Normal.{is_blank, without_leading, without_trailing}
pub use Rattle.dv_text.specs.declared.{rows.Key.Key, rows.NRow.NRow, rows.Staged.Staged}
pub use Rattle.dv_window_rules.specs.{Forms.row_name_cmp, Lengths.first_long, Staging.TellsFeed, Staging.read_at}
pub use Rattle.std.proofs.{Common.le-leb, Common.ltb-false, Common.one-add, Math.Seq.take-length, lemmas.List.drop-map, lemmas.List.get_or-reverse, lemmas.List.length-reverse, lemmas.List.length-take, lemmas.List.take-map, lemmas.List.Sorted.list_any-IsPermutation}
pub use Rattle.std.proofs.{lemmas.List.Sums.prefix_len_stops, lemmas.List.Sums.suffix_len-le-length, lemmas.List.Sums.suffix_len-take_no, lemmas.Result.err_from_is_err_and}
pub use Rattle.std.specs.{Char.to_ascii_uppercase, List.IsAllAdjacentAnswer, List.prefix_len, List.suffix_len, Option.option_and_then, Prelude.option_map, Prelude.reverse}
pub use Rattle.std.specs.declared.{cmp.Ordering.Ordering, cmp.Ordering.TheVariants.Equal, cmp.Ordering.TheVariants.Less}
pub use mathlib.Core.List.{reverse_aux}
unfoldable pub use Rattle.std.specs.List.Sorted.{IsStrictlySortedBy}
