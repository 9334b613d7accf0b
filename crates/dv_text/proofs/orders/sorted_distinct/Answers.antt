use Rattle.dv_text.proofs.{Distinct.ascending-sort_dedup, Distinct.members-sort_dedup, SortedLists.sorted_by-members}
use Rattle.dv_text.proofs.orders.sorted_distinct.Goals as goal

pub returns-clause-ascending : goal.returns-clause-ascending
returns-clause-ascending g c =
    rw c.from_vec.ensures
    (ascending-sort_dedup g.met.T.Ord.total g.met.T.Ord.matches_eq _ _ c.sort_unstable.ensures.sorted c.dedup.ensures.filtered)

pub returns-clause-members : goal.returns-clause-members
returns-clause-members g c =
    rw c.from_vec.ensures
    (members-sort_dedup g.met.T.Ord.total g.met.T.Ord.matches_eq g.met.T.Exact.tells_apart _ _ _ c.sort_unstable.ensures.permutation c.dedup.ensures.filtered)

pub returns-clause-value : goal.returns-clause-value
returns-clause-value g c =
    rw c.from_vec.ensures (
    sorted_by-members g.met.T.Ord.total g.met.T.Exact.tells_apart _ _
    (ascending-sort_dedup g.met.T.Ord.total g.met.T.Ord.matches_eq _ _ c.sort_unstable.ensures.sorted c.dedup.ensures.filtered)
    (members-sort_dedup g.met.T.Ord.total g.met.T.Ord.matches_eq g.met.T.Exact.tells_apart _ _ _ c.sort_unstable.ensures.permutation c.dedup.ensures.filtered))
