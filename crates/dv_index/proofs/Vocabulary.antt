-- What the proofs of this crate, and of those above it, take from elsewhere.
pub use Rattle.dv_text.proofs.Vocabulary.{All, Bool, Contains, Contains-append_cases, Contains-append_left, Contains-append_right, Contains-get_or, Contains-permutation, IsDigest, IsPermutation, IsPermutation-sym, IsSorted, IsTotalOrder, List, None, Option, Some, [], and_from, and_parts, ap}
pub use Rattle.dv_text.proofs.Vocabulary.{append_assoc, arith, bytes_eq-Decides, digest_prefix, drop_more, false, false_from_ne_true, false≢true, filter_map, filter_map-append, get_or, get_or-map, get_or-range_with_len, get_or_default, get_or_from_slice_get, inl, inr, is_lt, length, length-drop}
pub use Rattle.dv_text.proofs.Vocabulary.{length-map, length-range_with_len, list_all, list_all-append, map, min, nat_cmp, nat_cmp_total, nat_tests, not-false, on_total, option_map, option_or, option_to_list, ordering_then, range_with_len, refl, reverse, rules, same_Some, slice_get}
pub use Rattle.dv_text.proofs.Vocabulary.{slice_get-get_or, slice_get_within, sorted_by, subst, suc, sym, take, take_more, text_cmp, text_cmp-IsAntisymmetric, then_total, true, zero, ℕ, ◌&&◌, ◌++◌, ◌+◌, ◌-◌, ◌<◌, ◌∙◌, ◌∷◌, ◌≡◌, ◌≤◌, ◌⊎◌}
pub use Rattle.dv_index.specs.Numbers.{AreEntries, AreRuns, IsEntry, IsIndex, IsReachedPoint, entry_at, entry_cmp, is_entry_reached, is_last, is_reached, is_reached_by, is_reached_if, last_row, load_at, loads_of, number_cmp, numbers_of, parent_at, parents_of, row_before}
pub use Rattle.dv_index.specs.Places.{Place, are_in_load_order, fits_at, last_of, latest_at, latest_of_each}
pub use Rattle.dv_index.specs.declared.entries.Entry.{Entry}
pub use Rattle.dv_text.proofs.{BigEndian.prefix_first, Members.Contains-cons_cases, Members.Contains-cons_here, Members.Contains-cons_there, Members.Contains-nil, Members.Contains-range, Members.IsStrictlySortedBy-filter_map, Members.all_members, Members.filter_map_member}
pub use Rattle.dv_text.proofs.{Members.member_of_filter_map, Orderings.turned, Passing.found_member, Passing.passes_at, SortedLists.ascending-sorted_by, SortedLists.member_after_sort, SortedLists.same_ascending}
pub use Rattle.std.proofs.{Common.append-nil, Common.drop, Common.length-append, Common.nat_le, Common.set, Common.◌==◌, Math.Seq.paste, Math.Seq.take-append-add, lemmas.Bool.cases_eq, lemmas.Bool.cases_lt, lemmas.Bool.le-leb, lemmas.Bool.leb-true, lemmas.Bool.not-true}
pub use Rattle.std.proofs.{lemmas.Bool.not_from_false, lemmas.Bool.Decides.Decides-eqb, lemmas.Cmp.nat_list_cmp_total, lemmas.Cmp.tied_itself, lemmas.Fn.always_returns_same, lemmas.List.drop-append-le, lemmas.List.drop-set, lemmas.List.drop-take, lemmas.List.drop_all, lemmas.List.drop_at}
pub use Rattle.std.proofs.{lemmas.List.ext_get_or, lemmas.List.get_or-append-add, lemmas.List.get_or-drop, lemmas.List.get_or-set_other, lemmas.List.get_or-set_same, lemmas.List.get_or-take, lemmas.List.get_or_append_left, lemmas.List.length-set, lemmas.List.length-take}
pub use Rattle.std.proofs.{lemmas.List.length-take-le, lemmas.List.map-append, lemmas.List.map_push, lemmas.List.reverse-append, lemmas.List.take-append-drop, lemmas.List.take-append-le, lemmas.List.take-map, lemmas.List.take-take, lemmas.List.take_all, lemmas.List.take_at}
pub use Rattle.std.proofs.{lemmas.List.Edits.length-paste, lemmas.List.Elements.All-append, lemmas.List.Elements.All-from_get_or, lemmas.List.Elements.All-get_or, lemmas.List.Elements.All-push, lemmas.List.Folds.find-append, lemmas.List.Folds.list_all-map, lemmas.List.Kept.AllPairs-cons}
pub use Rattle.std.proofs.{lemmas.List.Sorted.All-permutation, lemmas.List.Sorted.IsPartitionPoint-from_clause, lemmas.List.Sorted.IsPermutation-append_left, lemmas.List.Sorted.IsPermutation-append_right, lemmas.List.Sorted.IsPermutation-cons, lemmas.List.Sorted.IsPermutation-map}
pub use Rattle.std.proofs.{lemmas.List.Sorted.IsPermutation-middle, lemmas.List.Sorted.IsPermutation-refl, lemmas.List.Sorted.IsPermutation-trans, lemmas.List.Sorted.length_permutation, lemmas.List.Sorted.ranks_by, lemmas.List.Sorted.sorted_far, lemmas.List.Sums.prefix_len-le-length}
pub use Rattle.std.proofs.{lemmas.List.Sums.prefix_len_passes, lemmas.List.Sums.prefix_len_stops, lemmas.Map.Keys.IsDistinct-IsPermutation, lemmas.Map.Made.AllPairs-from_IsDistinct, lemmas.Map.Made.IsDistinct-from_AllPairs, lemmas.Option.none-some}
pub use Rattle.std.specs.{Cmp.IsStrictWeakOrder, List.AllPairs, List.prefix_len, List.Sorted.IsPartitionPoint, List.Sorted.IsPartitionedBy, List.Sorted.IsSortedBy, Prelude.find, Prelude.if◌then◌else◌, Prelude.not, Prelude.vec_capacity, Str.bytes_eq}
pub use Rattle.std.specs.declared.{cmp.Ordering.Ordering, cmp.Ordering.TheVariants.Equal, cmp.Ordering.TheVariants.Greater, cmp.Ordering.TheVariants.Less}
unfoldable pub use Rattle.std.specs.List.Sorted.{IsStrictlySortedBy}
