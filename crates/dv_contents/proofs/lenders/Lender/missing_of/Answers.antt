use Rattle.dv_contents.proofs.Vocabulary.{subst, sym, ◌<◌, ◌∙◌}
use Rattle.dv_contents.proofs.ContentFacts.{missing_at, missing_count}
use Rattle.dv_contents.proofs.lenders.Lender.missing_of.Goals as goal

pub bounds-missing-hub : goal.bounds-missing-hub
bounds-missing-hub c =
    subst (λ count. c.args.hub < count) (sym (missing_count c.args.self.now.vault.now.mapping c.args.self.now.missing.now c.args.self.now.missing_are)) c.requires

pub returns : goal.returns
returns c = c.index-missing-hub.is ∙ missing_at c.args.self.now.vault.now.mapping c.args.hub c.args.self.now.missing.now _ c.args.self.now.missing_are c.requires
