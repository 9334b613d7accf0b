use Rattle.dv_pit.proofs.Vocabulary.{cell_read, sym}
use Rattle.dv_pit.proofs.PitCells.{cells_grow, none_more}
use Rattle.dv_pit.proofs.pits.add_cells.Goals as goal

pub loop-feed-init : goal.loop-feed-init
loop-feed-init c = sym (none_more c.args.rows.now)

pub loop-feed-preserved : goal.loop-feed-preserved
loop-feed-preserved c =
    cells_grow (cell_read c.args.vault.now.tables c.args.date) c.args.feeds.now c.loop-feed.feed-index c.feed-item.result c.args.rows.now c.loop-feed.rows c.add_cell.new.rows
    c.loop-feed-test.true c.feed-item.is c.loop-feed.invariant c.in_ok-add_cell.ensures
