use Rattle.dv_bridge.proofs.Vocabulary.{KeyedRow, ap, bare, first_row, links_at, map, map-map, ◌∙◌}
use Rattle.dv_bridge.proofs.bridges.bridge_first.Goals as goal

pub returns-clause-ok : goal.returns-clause-ok
returns-clause-ok c =
    c.in_ok-rows.ensures
    ∙ ap (map (λ (link : KeyedRow). first_row link.row)) (c.deref.ensures.value ∙ c.in_ok-found.ensures)
    ∙ map-map (λ (link : KeyedRow). first_row link.row) bare (links_at c.args.links.now.rows c.args.status.now.rows c.args.date)
