use Rattle.dv_hub_link.proofs.Vocabulary.{filter_map_more, hub_row_of, told}
use Rattle.dv_hub_link.proofs.hub_rows.hub_rows.Goals as goal

pub loop-list-preserved : goal.loop-list-preserved
loop-list-preserved c =
    let more = filter_map_more (λ list. hub_row_of c.args.catalog.now c.args.load (told list)) c.args.lists.now c.loop-list.list-index c.list-item.result c.loop-list-test.true in
    rw (more, ← c.list-item.is, ← c.in_ok-made.ensures, ← c.loop-list.invariant) c.in_ok-add.ensures
