-- What the proofs of this crate, and of those above it, take from elsewhere.
pub use Rattle.dv_text.specs.{Digests.IsDigest, Digests.IsShort, Digests.digest_prefix, Exact.key_cmp-IsAntisymmetric, Exact.text_cmp-IsAntisymmetric, Keys.key_eq, Keys.refs_eq, Keys.row_eq, Keys.texts_eq, Orders.key_cmp, Orders.refs_cmp, Orders.row_cmp, Orders.text_cmp, Prefixes.Agrees}
pub use Rattle.dv_text.specs.{Prefixes.fronted, Sorting.insert_by, Sorting.sorted_by, Stamps.are_two_at, Stamps.days_since_1900, Stamps.is_there, Stamps.open_end, Stamps.seconds_of, Stamps.text_of}
pub use Rattle.dv_text.specs.declared.{prefixes.Fronted.Fronted, rows.Key.Key, rows.NRow.NRow}
pub use Rattle.jiff_core.proofs.{CalendarLemmas.day_count-day_of_year, CalendarLemmas.day_count-later_year, CalendarLemmas.day_count-lt_year, CalendarLemmas.day_count-next_year, CalendarLemmas.day_of_year_bound, CalendarLemmas.days_from_civil-day_count, CalendarLemmas.days_in_month_bounds}
pub use Rattle.jiff_core.proofs.{CalendarLemmas.days_of_months-zero, CalendarLemmas.days_of_months_mono, CalendarLemmas.days_of_months_more, DateLemmas.civil, DateTimeLemmas.civil_nanos-civil_seconds, SignedLemmas.back_small, SignedLemmas.one_part, SignedLemmas.signed_arith}
pub use Rattle.jiff_core.proofs.{SignedLemmas.unsigned_abs-parts}
pub use Rattle.jiff_core.specs.{Calendar.IsCivilDate, Calendar.day_of_year, Calendar.days_from_civil, Calendar.days_in_month, Calendar.days_in_year, Date.epoch_day, DateTime.civil_nanos, Time.time_seconds, Timestamp.IsTimestampNanos}
pub use Rattle.jiff_core.specs.declared.{civil.date.Date.Date, civil.datetime.DateTime.DateTime}
pub use Rattle.std.proofs.{Common.Bool, Common.List, Common.None, Common.Option, Common.Some, Common.[], Common.ap, Common.append_assoc, Common.arith, Common.codes, Common.cond, Common.false, Common.filter, Common.find, Common.get_or, Common.inl, Common.inr, Common.length, Common.map}
pub use Rattle.std.proofs.{Common.neg_ℤ, Common.not, Common.of_z, Common.pos, Common.refl, Common.replicate, Common.reverse, Common.rules, Common.subst, Common.suc, Common.sym, Common.take, Common.to_z, Common.true, Common.w64, Common.zero, Common.zero-add, Common.ℕ, Common.ℤ, Common.◌%◌}
pub use Rattle.std.proofs.{Common.◌&&◌, Common.◌*ℤ◌, Common.◌*◌, Common.◌++◌, Common.◌+ℤ◌, Common.◌+◌, Common.◌-ℤ◌, Common.◌-◌, Common.◌/◌, Common.◌<ℤ◌, Common.◌<◌, Common.◌^◌, Common.◌||◌, Common.◌↔◌, Common.◌∙◌, Common.◌∷◌, Common.◌≡◌, Common.◌≤ℤ◌, Common.◌≤◌, Common.◌⊎◌}
pub use Rattle.std.proofs.{Math.Nat.pow-le-pow_right, Math.Nat.pow-suc, lemmas.Bool.and_from, lemmas.Bool.and_parts, lemmas.Bool.cases_order, lemmas.Bool.eqb-true, lemmas.Bool.false_from_ne_true, lemmas.Bool.false≢true, lemmas.Bool.le-ltb, lemmas.Bool.lt-ltb, lemmas.Bool.not-false}
pub use Rattle.std.proofs.{lemmas.Bool.Decides.Decides-and, lemmas.Bool.Decides.Decides-by_and, lemmas.Bool.Decides.nat_tests, lemmas.Bool.Decides.same_from_decides, lemmas.Cmp.eq_by_cmp_equiv, lemmas.Cmp.nat_cmp_total, lemmas.Cmp.on_total, lemmas.Cmp.ranked, lemmas.Cmp.then_total}
pub use Rattle.std.proofs.{lemmas.Grind.common_steps, lemmas.Int.by_lt_z, lemmas.Int.ints, lemmas.List.drop_more, lemmas.List.get_or-map, lemmas.List.get_or_default, lemmas.List.length-drop, lemmas.List.length-map, lemmas.List.take_more, lemmas.List.Elements.All-contains}
pub use Rattle.std.proofs.{lemmas.List.Elements.All-contains_itself, lemmas.List.Elements.All-drop, lemmas.List.Elements.All-filter, lemmas.List.Elements.All-from_recursion, lemmas.List.Elements.All-replicate, lemmas.List.Elements.Contains-append_cases, lemmas.List.Elements.Contains-append_left}
pub use Rattle.std.proofs.{lemmas.List.Elements.Contains-append_right, lemmas.List.Elements.Contains-get_or, lemmas.List.Elements.filter_map-append, lemmas.List.Elements.filter_passes, lemmas.List.Elements.recursion_from_All, lemmas.List.Filters.dedup_is, lemmas.List.Folds.Any-from_list_any}
pub use Rattle.std.proofs.{lemmas.List.Folds.list_all-append, lemmas.List.Folds.list_any_at, lemmas.List.FromFn.get_or-range_with_len, lemmas.List.FromFn.length-range_with_len, lemmas.List.Kept.Contains-dedup, lemmas.List.Kept.Contains-from_dedup, lemmas.List.Kept.IsStrictlySortedBy-dedup}
pub use Rattle.std.proofs.{lemmas.List.Quantifiers.position-Some, lemmas.List.Sorted.Contains-permutation, lemmas.List.Sorted.IsPermutation-reverse, lemmas.List.Sorted.IsPermutation-sym, lemmas.List.Sums.fails_before_first, lemmas.List.Sums.position_or_len_is, lemmas.Map.Keys.Less-from_sorted}
pub use Rattle.std.proofs.{lemmas.Map.Keys.sorted_from_all_adjacent, lemmas.Option.get_or_from_slice_get, lemmas.Option.same_Some, lemmas.Option.slice_get-get_or, lemmas.Option.slice_get-map, lemmas.Option.slice_get_cases, lemmas.Option.slice_get_within, lemmas.Result.IfOk-weaker}
pub use Rattle.std.proofs.{lemmas.Slice.Eq.bytes_eq-Decides, lemmas.Slice.Eq.slice_eq-Decides}
pub use Rattle.std.specs.{Bool.Decides, Char.is_ascii_digit, Cmp.Equal-is, Cmp.IsEquivalence, Cmp.IsTotalOrder, Cmp.both_tied, Cmp.nat_cmp_is, Cmp.tied_itself, Cmp.unsigned_tied, Cmp.Lexicographic.lists_ties, Cmp.Lexicographic.lists_total, Cmp.Lexicographic.nat_list_cmp_total}
pub use Rattle.std.specs.{Cmp.Lexicographic.pointwise, Cmp.Lexicographic.slice_cmp, Cmp.Lexicographic.texts_ties, FinMap.IsAntisymmetric, FinMap.nat_cmp-IsAntisymmetric, FinMap.slice_cmp-IsAntisymmetric, List.All, List.AllByRecursion, List.dedup, List.dedup_from, List.filter_map, List.flat_map}
pub use Rattle.std.specs.{List.join_with_byte, List.last_or, List.list_all, List.list_any, List.range_with_len, List.Retain.DiffersFromLast, List.Retain.IsFiltered, List.Sorted.IsPermutation, List.Sorted.IsSorted, List.Sorted.IsStable, List.Sorted.ties, Option.is_none, Option.option_map}
pub use Rattle.std.specs.{Option.option_or, Option.option_to_list, Ordering.eq_by_cmp, Ordering.is_eq, Ordering.is_lt, Ordering.nat_cmp, Ordering.ordering_reverse, Ordering.ordering_then, Prelude.Contains, Prelude.drop, Prelude.int_div, Prelude.is_some, Prelude.min, Prelude.nat_eq}
pub use Rattle.std.specs.{Prelude.position, Prelude.slice_get, Prelude.unsigned_abs, Slice.Scan.big_endian}
pub use Rattle.std.specs.declared.{cmp.Ordering.Ordering, cmp.Ordering.TheVariants.Equal, cmp.Ordering.TheVariants.Greater, cmp.Ordering.TheVariants.Less}
unfoldable pub use Rattle.dv_text.specs.{Prefixes.spelt, Stamps.has_digits, Stamps.has_form, Stamps.has_marks, Stamps.month_from, Stamps.seconds_if, Stamps.stamp_in, Stamps.stamp_text, Stamps.year_from}
unfoldable pub use Rattle.jiff_core.specs.{Calendar.day_count, Calendar.days_of_months, Calendar.days_of_years, DateTime.civil_seconds}
unfoldable pub use Rattle.std.specs.List.Sorted.{IsStrictlySortedBy}
