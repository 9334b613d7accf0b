use Rattle.dv_hub_link.proofs.Vocabulary.{map, take, ◌≡◌}
use Rattle.dv_hub_link.proofs.told_lists.digests_of.Given as goal

abbrev pub invariant-loop-list : goal.invariant-loop-list
invariant-loop-list l = l.digests.items ≡ map (λ list. list.digest) (take l.list-index l.lists)
