use Rattle.dv_hub_link.proofs.Vocabulary.{filter_map, held_rival, take, told, ◌++◌, ◌≡◌}
use Rattle.dv_hub_link.proofs.rivals.add_held.Given as goal

abbrev pub invariant-loop-list : goal.invariant-loop-list
invariant-loop-list g l = l.rivals.items ≡ l.initial.rivals.items ++ filter_map (λ list. held_rival (g.T.HoldsLists.held l.table) (told list)) (take l.list-index l.lists)
