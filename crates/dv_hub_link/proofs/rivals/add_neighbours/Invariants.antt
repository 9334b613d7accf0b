use Rattle.dv_hub_link.proofs.Vocabulary.{all_neighbours, drop, map, told, ◌++◌, ◌∷◌, ◌≡◌}
use Rattle.dv_hub_link.proofs.rivals.add_neighbours.Given as goal

abbrev pub invariant-loop-next : goal.invariant-loop-next
invariant-loop-next l = l.rivals.items ++ all_neighbours (map told (l.last ∷ drop l.next-index l.rest)) ≡ l.initial.rivals.items ++ all_neighbours (map told l.lists)
