use Rattle.dv_mart.proofs.Vocabulary.{HubColumn, List, NRow, ap, column_told, find, map, told, ◌∙◌}
use Rattle.dv_mart.proofs.HubColumns.{columns_grow, has}
use Rattle.dv_mart.proofs.hub_columns.columns_of.Goals as goal

pub loop-one-preserved : goal.loop-one-preserved
loop-one-preserved c =
    let keys = c.args.keys.now in
    let column : HubColumn = record { feed = c.one-item.result.feed; found = c.in_ok-found.found } in
    let found = c.in_ok-found.ensures ∙ ap (λ (rows : List NRow). map (λ key. find (has key) rows) keys) c.items.ensures in
    ap (map column_told) c.in_ok-push.ensures.items
    ∙ columns_grow keys c.args.contents.now c.loop-one.one-index c.one-item.result c.loop-one.columns.items column
    c.loop-one-test.true c.one-item.is c.loop-one.invariant (λ i. (told c.one-item.result.feed, found i))
