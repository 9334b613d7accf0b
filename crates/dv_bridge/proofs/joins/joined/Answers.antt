use Rattle.dv_bridge.proofs.Vocabulary.{Err, TooLarge, ap, err_from_is_err_and, keyed_met, most_path_rows, row_with, slice_get, ◌∙◌, ◌≡◌}
use Rattle.dv_bridge.proofs.JoinSteps.{few_more, joined_more, too_many}
use Rattle.dv_bridge.proofs.joins.joined.Goals as goal

pub returns-in_err-check_room-clause-too_large : goal.returns-in_err-check_room-clause-too_large
returns-in_err-check_room-clause-too_large c =
    let p = err_from_is_err_and c.from_residual.result c.from_residual.ensures.1 in
    let met = c.met_links-met.ensures ∙ ap (λ key. keyed_met key c.args.links.now) (c.key_at-key.ensures ∙ ap (λ hubs. slice_get hubs c.args.place) c.items.ensures) in
    rw (p.1, p.2)
    (λ (large : Err _ ≡ Err TooLarge).
    let same : c.in_err-check_room.field-0.0 ≡ TooLarge = cc in
    too_many c.args.place c.args.links.now c.args.rows.now c.loop-row.row-index c.row-item.result c.loop-row-test.true c.row-item.is c.items-in-loop-row.result.now (c.items-in-loop-row.ensures ∙ c.loop-row.invariant.rows)
    c.met_links-met.result.now met most_path_rows (c.in_err-check_room.ensures.too_large (ap Err same)))

pub loop-row-preserved : goal.loop-row-preserved
loop-row-preserved c =
    let met = c.met_links-met.ensures ∙ ap (λ key. keyed_met key c.args.links.now) (c.key_at-key.ensures ∙ ap (λ hubs. slice_get hubs c.args.place) c.items.ensures) in
    record {
      rows =
          rw c.in_ok-push_longer.ensures
          (joined_more c.args.place c.args.links.now c.args.rows.now c.loop-row.row-index c.row-item.result c.loop-row-test.true c.row-item.is c.loop-row.made c.loop-row.invariant.rows
          c.met_links-met.result.now met);
      few =
          rw c.in_ok-push_longer.ensures
          (few_more c.loop-row.made c.items-in-loop-row.result.now (row_with c.row-item.result) c.met_links-met.result.now most_path_rows c.items-in-loop-row.ensures c.in_ok-check_room.ensures.ok);
    }
