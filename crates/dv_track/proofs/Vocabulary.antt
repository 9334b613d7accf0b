-- What the proofs of this crate, and of those above it, take from elsewhere.
pub use Rattle.dv_index.proofs.Vocabulary.{All, AllPairs-from_IsDistinct, Contains-permutation, IsDistinct-IsPermutation, IsPartitionPoint, IsPartitionPoint-from_clause, IsPermutation, IsPermutation-sym, IsSorted, IsSortedBy, IsStrictWeakOrder, IsStrictlySortedBy-filter_map, append_assoc}
pub use Rattle.dv_index.proofs.Vocabulary.{drop_all, drop_more, false_from_ne_true, latest_at, latest_of_each, length-drop, length-map, length-take-le, list_all-append, list_all-map, nat_cmp_total, option_to_list, parents_of, paste, ranks_by, same_Some, take_all, take_at, tied_itself}
pub use Rattle.dv_index.proofs.Vocabulary.{vec_capacity, ◌&&◌}
pub use Rattle.dv_records.proofs.Vocabulary.{AreNewestFirst, Bool, Contains, Contains-append_cases, Contains-append_left, Contains-append_right, Contains-cons_cases, Contains-cons_here, Contains-cons_there, Contains-map, Contains-nil, Extract, Hashes, IsApart, IsEffectBatch, IsStatusBatch}
pub use Rattle.dv_records.proofs.Vocabulary.{IsTotalOrder, List, None, Option, Place, Some, Span, [], all_members, all_pass, all_refs, and_parts, ap, appended, arith, ascending-sorted_by, asymmetric, bytes_eq, bytes_eq-Decides, code_between, code_of, delivers, digest_cmp, drop, effect_batch}
pub use Rattle.dv_records.proofs.Vocabulary.{effect_cmp, effect_row, eqb-true, false, false≢true, filter-all, filter-none, filter_map, filter_map_member, filtered_members, find, find-append, find_same, found_member, get_or, if◌then◌else◌, in_effect_since, inl, inr, irreflexive, is_eq, is_lt}
pub use Rattle.dv_records.proofs.Vocabulary.{is_of_one_run, is_some, last_of_runs, le-leb, length, list_any, list_any-append, lists_of, made_of, map, map_member, member_after_sort, member_before_sort, member_of_all, member_of_filter_map, nat_cmp, nat_cmp-IsAntisymmetric, nat_le}
pub use Rattle.dv_records.proofs.Vocabulary.{nat_list_cmp_total, newest_rows, none-some, not, option_map, option_or, ordering_then, parent_period_cmp, passes_at, period_in, present_at, refl, reverse, reverse-append, reverse_member, rules, run_begin, same_answer, same_ascending, says_present}
pub use Rattle.dv_records.proofs.Vocabulary.{slice_cmp-IsAntisymmetric, some_passes, some_passes_at, sorted_by, sorted_by-members, source, span_between, status_batch, status_cmp, status_row, subst, suc, sym, take, true, turned, zero, ℕ, ◌++◌, ◌+◌, ◌-◌, ◌<◌, ◌||◌, ◌∙◌, ◌∷◌, ◌≡◌, ◌≤◌}
pub use Rattle.dv_text.proofs.Vocabulary.{Decides, Equal-is, IsEquivalence, Less-from_sorted, eq_by_cmp, filter, ordering_reverse, sorted_from_all_adjacent, texts_ties}
pub use Rattle.dv_index.proofs.Merging.{IsMerging, begins, ends, goes_on, up_to_first}
pub use Rattle.dv_index.specs.Places.{has_load, none_later}
pub use Rattle.dv_records.proofs.{BatchTies.given, DatedRows.delta_follows, DatedRows.delta_stamped, DatedRows.in_load_order, DatedRows.last_load, DatedRows.newest_first, DatedRows.none_loaded, DatedRows.up_to_last, Deciding.Contains-all_refs, Deciding.delivers-from_Contains}
pub use Rattle.dv_records.proofs.{EffectReconstruct.effects_say, EffectTies.effect_parent, EffectTies.effect_stands, EffectTies.effect_tied, LastChange.all_up_to, StatusReconstruct.both_lists, StatusReconstruct.tells, StatusTies.status_parent, StatusTies.status_stands, StatusTies.status_tied}
pub use Rattle.dv_records.specs.{EffectPlaces.effect_place, Ranks.parent_period_total, StatusPlaces.status_place}
pub use Rattle.dv_records.specs.declared.{mart_rows.Period.Period, raw_rows.Code.Code, raw_rows.EffectRow.EffectRow, raw_rows.StatusRow.StatusRow}
pub use Rattle.dv_text.proofs.{Distinct.ascending-sort_dedup, Distinct.members-sort_dedup, Members.filter_map_same, Options.option_or-none, Passing.find_none, Passing.none_found_at, Passing.none_passes, StableSorts.same_firsts}
pub use Rattle.dv_text.specs.declared.{rows.Key.Key, rows.NRow.NRow}
pub use Rattle.dv_track.specs.EffectRows.{effect_between, effect_change, effect_changes, effect_delta, effect_order, effect_turn, effect_turns, keys_delta, says_in_effect}
pub use Rattle.dv_track.specs.Presences.{AreThere, before, behind, change_between, changes_between, least, lesser, missing_in, parents_there, there_at, updated}
pub use Rattle.dv_track.specs.Tracks.{hashes_in, is_among, present_parents, status_change, status_changes, status_delta, status_order}
pub use Rattle.dv_track.specs.declared.heads.Head.{Head}
pub use Rattle.std.proofs.{Math.Bool.and-false, Math.Bool.and-true, Math.Bool.or-false, Math.Bool.or-true, Math.Seq.take-add, lemmas.Bool.eq-eqb, lemmas.Cmp.nat_list_eq_equiv, lemmas.Fn.filter_same, lemmas.List.drop-drop, lemmas.List.Edits.drop-paste, lemmas.List.Elements.All-map}
pub use Rattle.std.proofs.{lemmas.List.Kept.IsStrictlySortedBy-filter, lemmas.List.Sorted.searchable_from_sorted, lemmas.Map.Text.is_eq-slice_cmp, lemmas.Map.Views.any-filter_same, lemmas.Simd.map-map}
pub use Rattle.std.specs.{Cmp.eq_by_cmp_equiv, Prelude.◌==◌}
pub use Rattle.std.specs.declared.{cmp.Ordering.Ordering, cmp.Ordering.TheVariants.Equal, cmp.Ordering.TheVariants.Greater, cmp.Ordering.TheVariants.Less}
unfoldable pub use Rattle.std.specs.{List.IsDistinct, List.Sorted.IsStrictlySortedBy}
