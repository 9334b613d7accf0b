use Rattle.dv_store_rules.proofs.Vocabulary.{SnapHead, ◌∙◌}
use Rattle.dv_store_rules.proofs.LastRows.{later_than}
use Rattle.dv_store_rules.proofs.snapshots.is_after.Goals as goal

pub returns-in-Some : goal.returns-in-Some
returns-in-Some c = c.lt.ensures ∙ later_than (λ (head : SnapHead). head.date) c.args.heads.now c.in-Some.last.now c.args.date c.in-Some.ensures.value
