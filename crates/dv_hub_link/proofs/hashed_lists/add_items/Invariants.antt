use Rattle.dv_hub_link.proofs.Vocabulary.{list_beside, map, take, told, ◌++◌, ◌≡◌}
use Rattle.dv_hub_link.proofs.hashed_lists.add_items.Given as goal

abbrev pub invariant-loop-item : goal.invariant-loop-item
invariant-loop-item l = map told l.made.items ≡ map told l.initial.made.items ++ map list_beside (take l.item-index l.items)
