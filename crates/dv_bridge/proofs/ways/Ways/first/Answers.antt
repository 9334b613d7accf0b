use Rattle.dv_bridge.proofs.Vocabulary.{Joint, List, ap, ways_by, ways_of, ◌∙◌}
use Rattle.dv_bridge.proofs.WayEnds.{first_ways}
use Rattle.dv_bridge.proofs.ways.Ways.first.Goals as goal

pub returns-clause-ok : goal.returns-clause-ok
returns-clause-ok c =
    ap (λ (steps : List (List Joint)). ways_by (ways_of steps) c.in_ok-last.last) c.new.ensures.items
    ∙ first_ways c.in_ok-last.last c.args.links.now c.in_ok-last.ensures
