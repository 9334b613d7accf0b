use Rattle.dv_mart.proofs.Vocabulary.{ap, if_mart, option_and_then, sym, ◌∙◌}
use Rattle.dv_mart.proofs.OfferedMarts.{marts_offered}
use Rattle.dv_mart.proofs.whats.What.read_mart.Goals as goal

pub returns-in-Some-clause-offered : goal.returns-in-Some-clause-offered
returns-in-Some-clause-offered c =
    marts_offered c.args.catalog.now c.args.word.now _ (c.if_mart.ensures ∙ ap (option_and_then if_mart) (sym c.in-Some.is ∙ c.in_ok-what.ensures))
