use Rattle.dv_bridge.proofs.Vocabulary.{KeyedLink, always_returns_same, ap, map, nat_list_cmp_total, ranks_by, rules, ◌∙◌}
use Rattle.dv_bridge.proofs.KeyedLinks.{is_before, stable_keys, told_with}
use Rattle.dv_bridge.proofs.keyed_links.by_key.Goals as goal

pub returns : goal.returns
returns c = record {
  sorted = c.in_ok-sort_by.ensures.sorted is_before (ranks_by nat_list_cmp_total (λ (one : KeyedLink). one.key)) (always_returns_same _ _ _ (λ a r f' called. search rules));
  stable = λ key.
      ap (map (λ (one : KeyedLink). one.link.now))
      (stable_keys _ _ c.in_ok-sort_by.ensures.permutation
      (c.in_ok-sort_by.ensures.stable is_before (ranks_by nat_list_cmp_total (λ (one : KeyedLink). one.key)) (always_returns_same _ _ _ (λ a r f' called. search rules))) key)
      ∙ told_with c.args.place key c.args.links.now c.in_ok-made.made.items c.in_ok-made.ensures;
}
