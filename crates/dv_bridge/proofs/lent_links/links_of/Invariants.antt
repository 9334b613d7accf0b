use Rattle.dv_bridge.proofs.Vocabulary.{bare, filter, filter_map, is_whole, map, take, told_row, ◌≡◌}
use Rattle.dv_bridge.proofs.lent_links.links_of.Given as goal

-- those of the rows so far that miss no reference
abbrev pub invariant-loop-row : goal.invariant-loop-row
invariant-loop-row l = l.found.items ≡ map bare (filter is_whole (filter_map told_row (take l.row-index l.rows)))
