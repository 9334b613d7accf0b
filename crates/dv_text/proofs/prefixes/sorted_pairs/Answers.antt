use Rattle.dv_text.proofs.Vocabulary.{IfOk-weaker, ◌∙◌}
use Rattle.dv_text.proofs.PrefixFacts.{items-sort_dedup}
use Rattle.dv_text.proofs.prefixes.sorted_pairs.Goals as goal

pub returns : goal.returns
returns g c =
    let sorted =
    items-sort_dedup g.met.T.Ord.total g.met.T.Exact.tells_apart g.met.T.Prefixed.agrees g.met.T.Ord.matches_eq c.args.items.items
    c.in_ok-pairs.pairs.items c.sort_unstable.new.self.items c.dedup.new.self.items c.in_ok-pairs.ensures c.sort_unstable.ensures.permutation c.sort_unstable.ensures.sorted c.dedup.ensures.filtered in
    IfOk-weaker c.without_prefixes.result _ _ (λ made e. e ∙ sorted) c.without_prefixes.ensures
