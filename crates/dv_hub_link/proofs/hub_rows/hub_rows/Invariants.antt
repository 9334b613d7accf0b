use Rattle.dv_hub_link.proofs.Vocabulary.{filter_map, hub_row_of, take, told, ◌≡◌}
use Rattle.dv_hub_link.proofs.hub_rows.hub_rows.Given as goal

abbrev pub invariant-loop-list : goal.invariant-loop-list
invariant-loop-list l = l.rows ≡ filter_map (λ list. hub_row_of l.catalog l.load (told list)) (take l.list-index l.lists)
