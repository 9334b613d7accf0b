use Rattle.dv_track.proofs.Vocabulary.{IsPartitionPoint-from_clause, digest_cmp, is_lt, not, rules, up_to_first}
use Rattle.dv_track.proofs.PutIn.{digest_lt, digest_order}
use Rattle.dv_track.proofs.merges.count_up_to.Goals as goal

pub returns-clause-point : goal.returns-clause-point
returns-clause-point c =
    IsPartitionPoint-from_clause (λ other. not (is_lt (digest_cmp c.args.digest.now other))) _ _ c.partition_point.ensures.partitioned
    (up_to_first digest_lt digest_order c.args.digests.now c.args.digest.now c.requires) (λ a r q k. search rules)
