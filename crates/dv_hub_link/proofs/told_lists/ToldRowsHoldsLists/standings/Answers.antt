use Rattle.dv_hub_link.proofs.Vocabulary.{ap, map, row_under, ◌∙◌}
use Rattle.dv_hub_link.proofs.KeyDeltas.{beside_rows}
use Rattle.dv_hub_link.proofs.told_lists.ToldRowsHoldsLists.standings.Goals as goal

pub returns : goal.returns
returns g c =
    let place = g.R.Placed.place in
    let rows = c.args.self.now.rows.now.rows in
    (rw c.deref-2.ensures.value at c.in_ok-made.ensures)
    ∙ beside_rows place (g.L.TellsLists.list c.args.self.now.lists.now) rows c.args.lists.now c.in_ok-found.found.items
    (c.in_ok-found.ensures ∙ ap (map (λ digest. row_under place digest rows)) (c.deref.ensures.value ∙ c.in_ok-digests.ensures))
