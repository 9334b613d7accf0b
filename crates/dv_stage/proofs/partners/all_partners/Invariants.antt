use Rattle.dv_stage.proofs.Vocabulary.{map, partner_of, take, ◌≡◌}
use Rattle.dv_stage.proofs.partners.all_partners.Given as goal

abbrev pub invariant-loop-row : goal.invariant-loop-row
invariant-loop-row l = l.partners.items ≡ map (partner_of l.feed) (take l.row-index l.rows)
