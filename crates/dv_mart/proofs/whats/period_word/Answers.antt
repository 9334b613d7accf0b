use Rattle.dv_mart.proofs.Vocabulary.{Period, ap, behind, codes, driver_feed_place, ◌∙◌}
use Rattle.dv_mart.proofs.NoNames.{none_named}
use Rattle.dv_mart.proofs.whats.period_word.Goals as goal

pub returns : goal.returns
returns c =
    let is = c.in-Some.ensures ∙ ap (behind (codes "period:")) c.bytes.ensures in
    none_named (driver_feed_place c.args.catalog.now) (λ feed. Period feed) (codes "period:") c.args.word.now _ _ is c.in_ok-name.ensures c.in-None.ensures
