use Rattle.dv_catalog.proofs.Vocabulary.{ap, length, unwrap_or, ◌∙◌}
use Rattle.dv_catalog.proofs.PlaceSteps.{place_or_len}
use Rattle.dv_catalog.proofs.lookups.place_of.Goals as goal

pub returns : goal.returns
returns g c = c.unwrap_or.ensures ∙ ap (λ o. unwrap_or o (length c.args.entries.now)) c.position_of.ensures ∙ place_or_len _ c.args.entries.now
