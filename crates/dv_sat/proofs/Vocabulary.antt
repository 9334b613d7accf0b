-- What the proofs of this crate, and of those above it, take from elsewhere.
pub use Rattle.dv_catalog.proofs.Vocabulary.{zip}
pub use Rattle.dv_digest.proofs.Vocabulary.{attrs_fit, hashes_of}
pub use Rattle.dv_index.proofs.Vocabulary.{IsPartitionPoint, IsPartitionPoint-from_clause, IsPartitionedBy, IsSortedBy, get_or-drop, get_or-take, length-drop, length-map, length-take-le, list_all-map, nat_cmp_total, not, take-append-drop, text_cmp, then_total, tied_itself}
pub use Rattle.dv_records.proofs.Vocabulary.{AllByRecursion, AreNewestFirst, Bool, Contains, Contains-append_left, Contains-append_right, Contains-cons_here, Contains-cons_there, Contains-map, Contains-nil, Extract, Hashes, IsApart, IsTotalOrder, List, None, Option, Place, Some, [], all_refs}
pub use Rattle.dv_records.proofs.Vocabulary.{all_valid_at, and_from, and_parts, ap, append-nil, appended, arith, ascending-sorted_by, batch_of, both_tied, bytes_eq, bytes_eq-Decides, delivers, described_row, digest_cmp, drop, eq-eqb, eqb-true, false, false≢true, filter-all, filter-append}
pub use Rattle.dv_records.proofs.Vocabulary.{filter-none, filter_map, filtered_members, find, first_attrs, get_or, if◌then◌else◌, inl, inr, irreflexive, is_changed, is_lt, last_rows, length, list_all, lists_of, loaded_with, map, multi_batch, multi_cmp, multi_row, multi_total, nat_cmp}
pub use Rattle.dv_records.proofs.Vocabulary.{nat_cmp-IsAntisymmetric, nat_le, nat_list_cmp_total, nil_from_length, on_total, option_map, ordering_then, pointwise, refl, refs_cmp, refs_eq, refs_eq-Decides, refs_exact, refs_total, reverse, row_cmp, row_eq, row_total, rows_of, rules, same_ascending}
pub use Rattle.dv_records.proofs.Vocabulary.{sat_batch, sat_cmp, sat_row, slice_cmp-IsAntisymmetric, some_passes, sorted_by, source, subst, sym, take, texts_eq, texts_eq-Decides, true, valid_at, ℕ, ◌&&◌, ◌++◌, ◌+◌, ◌<◌, ◌==◌, ◌↔◌, ◌∙◌, ◌∷◌, ◌≡◌, ◌≤◌, ◌⊎◌}
pub use Rattle.dv_text.proofs.Vocabulary.{Less-from_sorted, filter, ordering_reverse, slice_cmp}
pub use Rattle.dv_digest.proofs.Lengths.{attrs_text_fits}
pub use Rattle.dv_records.proofs.{DatedRows.batch_stamped, DatedRows.delta_follows, DatedRows.delta_stamped, DatedRows.found_up_to_last, DatedRows.in_load_order, DatedRows.last_load, DatedRows.newest_first, DatedRows.none_later, DatedRows.none_loaded, LastChange.all_up_to, MultiReconstruct.tells}
pub use Rattle.dv_records.proofs.{Reversing.IsNewestFirst}
pub use Rattle.dv_index.specs.Places.{has_load}
pub use Rattle.dv_records.specs.{MultiPlaces.multi_place, SatPlaces.sat_place}
pub use Rattle.dv_records.specs.declared.{raw_rows.MultiRow.MultiRow, raw_rows.SatRow.SatRow}
pub use Rattle.dv_sat.specs.{MultiRows.IsTold, MultiRows.are_same, MultiRows.multi_change, MultiRows.multi_delta, MultiRows.multi_order, RowPlaces.place_cmp, SatRows.IsPlain, SatRows.has_attrs, SatRows.sat_change, SatRows.sat_delta}
pub use Rattle.dv_text.specs.declared.{rows.Key.Key, rows.NRow.NRow}
pub use Rattle.std.proofs.{lemmas.Fn.fronts, lemmas.Iterator.empty_from_Zip, lemmas.Iterator.zips, lemmas.List.take_rest, lemmas.List.Elements.All-map, lemmas.List.Kept.IsStrictlySortedBy-filter, lemmas.List.Sorted.searchable_from_sorted}
pub use Rattle.std.specs.{Borrow.Bor, Iterator.Adapters.zip_first, Iterator.Adapters.zip_second, List.AllWithin, List.Sorted.IsNonDecreasingBy, Ordering.is_gt, Ordering.ordering_index, Slice.Iter.iter_rest}
pub use Rattle.std.specs.declared.{cmp.Ordering.Ordering, cmp.Ordering.TheVariants.Equal, cmp.Ordering.TheVariants.Greater, cmp.Ordering.TheVariants.Less, iter.Zip.Zip, slice.Iter.Iter}
unfoldable pub use Rattle.std.specs.List.Sorted.{IsStrictlySortedBy}
