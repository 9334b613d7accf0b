-- What the proofs of this crate, and of those above it, take from elsewhere.
pub use Rattle.atomic_table.proofs.Lists.{at_longer, at_set, at_snoc, exchanged, set_else, set_here}
pub use Rattle.atomic_table.specs.{Table.Allows, Table.Joins, Table.Me, Table.Splits, Table.State, Table.Act.keeps}
pub use Rattle.dv_board.specs.{BoardRule.both_of, BoardRule.drawn, BoardRule.less, BoardRule.nobody, BoardRule.noted, BoardRule.portion, Boards.BoardId, Boards.Claimant, Counting.once_below, Counting.times, Counting.total, Items.AreLawful, Items.class_of, Items.home_of, KeyRule.AreOthers}
pub use Rattle.dv_board.specs.{KeyRule.Fits, KeyRule.HasSlot, KeyRule.Holds, KeyRule.IsKept, KeyRule.IsOffered, KeyRule.IsTaken, KeyRule.IsUnderWay, KeyRule.Tells, KeyRule.begun, KeyRule.first_view, KeyRule.fresh_view, KeyRule.is_settled_by, KeyRule.met_by, KeyRule.offered}
pub use Rattle.dv_board.specs.{KeyRule.whole_share, KeyRule.word_at, KeyTables.AreLeastOffered, Looking.AreWords, KeyTables.IsLeastOffered, KeyTables.IsSeatOf, KeyTables.Keyed, KeyTables.Offerer, Laws.HasEach, Laws.LeastIsOneList, Listing.AreMarked, Listing.marked, Probing.IsProbing}
pub use Rattle.dv_board.specs.{TaggedLaws.length_of_keys, TaggedLaws.same_tags}
pub use Rattle.dv_board.specs.declared.{views.BoardView.BoardView, views.KeyView.KeyView, views.Keys.Keys, views.Sizes.Sizes}
pub use Rattle.std.proofs.{Common.Bool, Common.Contains, Common.List, Common.[], Common.ap, Common.arith, Common.cond, Common.eq-eqb, Common.eqb, Common.false, Common.filter, Common.get_or, Common.inl, Common.inr, Common.length, Common.length-set, Common.min, Common.nat_lt, Common.ne_eqb}
pub use Rattle.std.proofs.{Common.refl, Common.replicate, Common.rules, Common.set, Common.subst, Common.suc, Common.sym, Common.take, Common.true, Common.true≢false, Common.zero, Common.ℕ, Common.⊎_elim, Common.◌%◌, Common.◌*◌, Common.◌++◌, Common.◌+◌, Common.◌-◌, Common.◌<◌, Common.◌^◌}
pub use Rattle.std.proofs.{Common.◌∙◌, Common.◌∷◌, Common.◌≡◌, Common.◌≢◌, Common.◌≤◌, Common.◌⊎◌, Math.Nat.mod-eq_of_lt, lemmas.Bool.cases_Bool, lemmas.Bool.cases_eq, lemmas.Bool.cases_lt, lemmas.Bool.eqb-true, lemmas.Bool.false≢true, lemmas.Bool.or_cases, lemmas.Cmp.nat_cmp_total}
pub use Rattle.std.proofs.{lemmas.List.append-nil, lemmas.List.get_or-set_other, lemmas.List.get_or-set_same, lemmas.List.get_or_default, lemmas.List.get_or_past, lemmas.List.get_or-replicate, lemmas.List.length-replicate, lemmas.List.set-get_or, lemmas.List.take_more_set, lemmas.List.Elements.All-contains}
pub use Rattle.std.proofs.{lemmas.List.Elements.Contains-append_left, lemmas.List.Elements.Contains-append_right, lemmas.List.Elements.filter-append, lemmas.List.Elements.filter_passes, lemmas.List.FromFn.get_or-range_with_len, lemmas.List.FromFn.length-range_with_len}
pub use Rattle.std.proofs.{Common.nat_le, lemmas.Bool.Decides.nat_tests, lemmas.Bool.and_parts, lemmas.Bool.cond_both, lemmas.List.Kept.IsStrictlySortedBy-filter, lemmas.Map.Keys.sorted_from_all_adjacent, lemmas.Map.Steps.length-le_from_distinct_below, lemmas.Nat.mod_below}
pub use Rattle.std.specs.{Cmp.nat_cmp_is, List.AllByRecursion, List.list_any, List.range_with_len, Ordering.nat_cmp, Prelude.slice_index, Prelude.◌==◌, Prelude.◌||◌, Slots.slots_items}
pub use Rattle.std.specs.declared.cmp.Ordering.TheVariants.{Less}
pub use lib.ListN.{get_elem?}
pub use mathlib.Core.Option.{Option, some, some-injective, some-ne-none}
pub use prog.Atomic.{either}
unfoldable pub use Rattle.std.specs.{List.IsDistinct, List.Sorted.IsStrictlySortedBy}
