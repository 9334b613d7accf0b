use Rattle.dv_track.proofs.Vocabulary.{ascending-sort_dedup, members-sort_dedup, nat_list_cmp_total, sorted_by-members, texts_ties}
use Rattle.dv_track.proofs.Amongst.{exact}
use Rattle.dv_track.proofs.presences.sort_distinct.Goals as goal

pub returns-clause-value : goal.returns-clause-value
returns-clause-value c =
    sorted_by-members nat_list_cmp_total exact _ _
    (ascending-sort_dedup nat_list_cmp_total texts_ties _ _ c.sort_unstable.ensures.sorted c.dedup.ensures.filtered)
    (members-sort_dedup nat_list_cmp_total texts_ties exact _ _ _ c.sort_unstable.ensures.permutation c.dedup.ensures.filtered)
