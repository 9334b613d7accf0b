use Rattle.dv_pit.proofs.Vocabulary.{cell_read, map, take, told, with_cells, ◌≡◌}
use Rattle.dv_pit.proofs.pits.add_cells.Given as goal

-- the rows have the cells of the feeds so far
abbrev pub invariant-loop-feed : goal.invariant-loop-feed
invariant-loop-feed l = l.rows ≡ map (with_cells (λ key. map (cell_read l.vault.tables l.date key) (map told (take l.feed-index l.feeds)))) l.initial.rows
