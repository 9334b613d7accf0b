use Rattle.dv_store_rules.proofs.Vocabulary.{list_any-IsPermutation, sym, ◌==◌}
use Rattle.dv_store_rules.proofs.loads.in_order.Goals as goal

pub returns : goal.returns
returns c load = sym (list_any-IsPermutation (λ date. date == load) c.args.dates.items c.sort_unstable.new.self.items c.sort_unstable.ensures.permutation)
