use Rattle.dv_hub_link.proofs.Vocabulary.{drop, has_clash, map, told, ◌∷◌, ◌≡◌}
use Rattle.dv_hub_link.proofs.rivals.has_clash.Given as goal

abbrev pub invariant-loop-next : goal.invariant-loop-next
invariant-loop-next l = has_clash (map told l.lists) ≡ has_clash (map told (l.last ∷ drop l.next-index l.rest))
