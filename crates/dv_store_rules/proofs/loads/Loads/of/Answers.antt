use Rattle.dv_store_rules.proofs.Vocabulary.{list_any-map, ◌==◌, ◌∙◌}
use Rattle.dv_store_rules.proofs.loads.Loads.of.Goals as goal

pub returns : goal.returns
returns c load = c.in_order.ensures load ∙ rw c.in_ok-dates.ensures (list_any-map (λ date. date == load) (λ head. head.load) c.args.heads.now)
