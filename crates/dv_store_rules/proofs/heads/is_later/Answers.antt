use Rattle.dv_store_rules.proofs.Vocabulary.{WindowHead, ◌∙◌}
use Rattle.dv_store_rules.proofs.LastRows.{later_than}
use Rattle.dv_store_rules.proofs.heads.is_later.Goals as goal

pub returns-in-Some : goal.returns-in-Some
returns-in-Some c = c.lt.ensures ∙ later_than (λ (head : WindowHead). head.load) c.args.heads.now c.in-Some.last.now c.args.load c.in-Some.ensures.value
