use Rattle.dv_mart.proofs.Vocabulary.{Feed, ap, behind, codes, feed_place, ◌∙◌}
use Rattle.dv_mart.proofs.NoNames.{none_named}
use Rattle.dv_mart.proofs.whats.feed_word.Goals as goal

pub returns : goal.returns
returns c =
    let is = c.in-Some.ensures ∙ ap (behind (codes "feed:")) c.bytes.ensures in
    none_named (feed_place c.args.catalog.now) (λ feed. Feed feed) (codes "feed:") c.args.word.now _ _ is c.in_ok-name.ensures c.in-None.ensures
