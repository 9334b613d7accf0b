use Rattle.dv_hub_link.proofs.Vocabulary.{List, Rivals, all_neighbours, ap, filter_map, held_rival, map, sym, told, ◌++◌, ◌∙◌}
use Rattle.dv_hub_link.proofs.Clashes.{filter_map-map}
use Rattle.dv_hub_link.proofs.rivals.all_rivals.Goals as goal

pub returns : goal.returns
returns g c =
    let held = g.T.HoldsLists.held c.args.table.now in
    let lists = c.args.lists.now in
    c.in_ok-add_held.ensures
    ∙ ap (λ (near : List Rivals). near ++ filter_map (λ list. held_rival held (told list)) lists)
    (c.in_ok-add_neighbours.ensures ∙ ap (λ (start : List Rivals). start ++ all_neighbours (map told lists)) c.new-rivals.ensures.items)
    ∙ ap (λ (far : List Rivals). all_neighbours (map told lists) ++ far) (sym (filter_map-map (held_rival held) told lists))
