use Rattle.dv_window.proofs.Vocabulary.{ap, head_at, none_from, sym, ◌∙◌}
use Rattle.dv_window.proofs.PlanFacts.{head_feeds, none_later}
use Rattle.dv_window.proofs.offices.Office.head_at.Goals as goal

pub returns-then-is_later-clause-head : goal.returns-then-is_later-clause-head
returns-then-is_later-clause-head c =
    sym (none_later c.args.load c.args.self.now.vault.heads c.heads.ensures.order (none_from _ (sym c.is_later.ensures ∙ c.if-is_later.true)))

pub returns-clause-feeds : goal.returns-clause-feeds
returns-clause-feeds c =
    head_feeds (λ head. head.now) c.find_head.result c.args.self.now.vault.mapping c.args.self.now.vault.heads c.args.load c.heads.ensures.feeds
    (c.find_head.ensures ∙ ap (head_at c.args.load) (c.items-heads.ensures ∙ c.heads.ensures.value))
