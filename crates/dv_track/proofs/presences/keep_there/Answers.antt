use Rattle.dv_track.proofs.Vocabulary.{filter_same, rules}
use Rattle.dv_track.proofs.presences.keep_there.Goals as goal

pub returns-clause-items : goal.returns-clause-items
returns-clause-items g c = filter_same _ _ _ (λ x b f' k. search rules) _ _ c.retain.ensures.filtered
