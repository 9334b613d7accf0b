use Rattle.dv_contents.proofs.Vocabulary.{Mapping, Some, slice_get, subst, valid_feed, ◌≡◌}
use Rattle.dv_contents.proofs.ContentFacts.{parent_there}
use Rattle.dv_contents.proofs.lenders.Lender.feed.Goals as goal

pub returns-clause-definition : goal.returns-clause-definition
returns-clause-definition c = subst (λ (m : Mapping). slice_get m.feeds c.args.feed ≡ Some c.feed.result.now) c.catalog.ensures.value c.feed.ensures

pub returns-clause-parent : goal.returns-clause-parent
returns-clause-parent c =
    parent_there c.args.self.now.vault.now.mapping c.feed.result.now.parent
    (valid_feed c.args.self.now.vault.now.mapping c.args.self.now.valid c.args.feed c.feed.result.now (returns-clause-definition c)).declared
