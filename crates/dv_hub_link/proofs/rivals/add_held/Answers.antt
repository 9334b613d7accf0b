use Rattle.dv_hub_link.proofs.Vocabulary.{append_assoc, filter_map_more, held_rival, told}
use Rattle.dv_hub_link.proofs.rivals.add_held.Goals as goal

pub loop-list-preserved : goal.loop-list-preserved
loop-list-preserved g c =
    let more = filter_map_more (λ list. held_rival (g.T.HoldsLists.held c.args.table.now) (told list)) c.args.lists.now c.loop-list.list-index c.list-item.result c.loop-list-test.true in
    rw (more, ← c.list-item.is, ← c.in_ok-held_rival.ensures, ← append_assoc, ← c.loop-list.invariant) c.in_ok-add.ensures
