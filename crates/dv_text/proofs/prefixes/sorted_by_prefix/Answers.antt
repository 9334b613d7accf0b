use Rattle.dv_text.proofs.Vocabulary.{sym, ◌∙◌}
use Rattle.dv_text.proofs.SortedLists.{ascending-sorted_by, member_after_sort, member_before_sort, sorted_by-sorted}
use Rattle.dv_text.proofs.prefixes.sorted_by_prefix.Goals as goal

pub returns-then-ascend-clause-value : goal.returns-then-ascend-clause-value
returns-then-ascend-clause-value g c =
    let up = rw c.as_slice.ensures.value at (c.ascend.ensures search) in
    c.from_vec.ensures ∙ sym (sorted_by-sorted g.T.Ord.cmp c.args.items.items up)

pub returns-clause-ascending : goal.returns-clause-ascending
returns-clause-ascending g c = rw (c.from_vec-2.ensures, c.in_ok-sorted.ensures) (ascending-sorted_by g.T.Ord.cmp g.met.T.Ord.total c.args.items.items)

pub returns-clause-members : goal.returns-clause-members
returns-clause-members g c x =
    rw (c.from_vec-2.ensures, c.in_ok-sorted.ensures) (
      member_before_sort g.T.Ord.cmp c.args.items.items x,
      member_after_sort g.T.Ord.cmp c.args.items.items x (λ y has tie. g.met.T.Exact.tells_apart y x tie),
    )
