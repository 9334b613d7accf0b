use Rattle.dv_bridge.proofs.Vocabulary.{LinkRow, List, ap, bare, filter, filter_map, is_whole, link_row_by, map, told_row, ◌∙◌}
use Rattle.dv_bridge.proofs.PathLinks.{told_in_turn}
use Rattle.dv_bridge.proofs.lent_links.path_links.Goals as goal

pub returns : goal.returns
returns c =
    c.in_ok-found.ensures
    ∙ ap (λ (rows : List LinkRow). map bare (filter is_whole rows))
    (ap (filter_map told_row) c.deref.ensures.value
    ∙ told_in_turn told_row (link_row_by c.args.links.now.rows) c.in_ok-rows.rows.items c.items.result.now c.in_ok-rows.ensures
    ∙ ap (filter_map (link_row_by c.args.links.now.rows)) (c.items.ensures ∙ c.in_ok-present.ensures))
