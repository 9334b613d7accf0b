use Rattle.dv_bridge.proofs.Vocabulary.{IsPartitionPoint-from_clause, KeyedLink, before_first, digest_cmp, is_lt, nat_list_cmp_total, rules, take_rest}
use Rattle.dv_bridge.proofs.KeyedLinks.{between_others}
use Rattle.dv_bridge.proofs.keyed_links.with_key.Goals as goal

pub returns : goal.returns
returns c =
    let key = c.args.key.now in
    let links = c.args.links.now in
    let start = c.partition_point-start.result in
    let first = IsPartitionPoint-from_clause (λ (one : KeyedLink). is_lt (digest_cmp one.key key)) _ _ c.partition_point-start.ensures.partitioned (before_first nat_list_cmp_total (λ (one : KeyedLink). one.key) links key c.requires) (λ a r q k. search rules) in
    between_others key links _ start c.count_of.result (take_rest links start) c.partition_point-start.ensures.bound first c.requires c.count_of.ensures.value
