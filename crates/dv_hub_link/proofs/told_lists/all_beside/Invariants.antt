use Rattle.dv_hub_link.proofs.Vocabulary.{beside, map, option_map, zip, ◌++◌, ◌≡◌}
use Rattle.dv_hub_link.proofs.told_lists.all_beside.Given as goal

-- those so far and those behind them are all
abbrev pub invariant-loop-list : goal.invariant-loop-list
invariant-loop-list g l =
    l.made.items ++ map (λ (list, row). beside list.refs.now (option_map (λ row. g.L.TellsLists.list l.told row.now) row)) (zip l.list-iterator.a.rest.now l.list-iterator.b.rest.now)
    ≡ map (λ (list, row). beside list.refs.now (option_map (λ row. g.L.TellsLists.list l.told row.now) row)) (zip l.lists l.found)
