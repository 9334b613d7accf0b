use Rattle.dv_index.proofs.Vocabulary.{IsPartitionPoint-from_clause, rules}
use Rattle.dv_index.proofs.Reached.{entries_parted, numbers_point, reach_entry}
use Rattle.dv_index.proofs.searches.reached_count.Goals as goal

pub returns-clause-point : goal.returns-clause-point
returns-clause-point g c =
    let place = g.R.Placed.place in
    let rows = c.args.rows.now in
    let index = c.args.index.now in
    let parent = c.args.parent.now in
    let prefix = c.prefix-prefix.result in
    numbers_point place rows index c.requires.index parent prefix c.args.date c.prefix-prefix.ensures.kept c.prefix-prefix.ensures.value _ c.partition_point.ensures.bound
    (IsPartitionPoint-from_clause (reach_entry place rows index c.requires.index parent prefix c.args.date c.prefix-prefix.ensures.kept c.prefix-prefix.ensures.value) _ _ c.partition_point.ensures.partitioned
    (entries_parted place rows index c.requires.index parent prefix c.args.date c.prefix-prefix.ensures.kept c.prefix-prefix.ensures.value c.requires.order) (λ a r q k. search rules))
