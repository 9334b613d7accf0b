use Rattle.dv_mart.proofs.Vocabulary.{Key, [], ap, append-nil, drop_all, enumerate_from, lent_row, map, sym, ◌++◌, ◌∙◌, ◌∷◌}
use Rattle.dv_mart.proofs.HubRows.{numbered_more}
use Rattle.dv_mart.proofs.hub_rows.lent_rows.Goals as goal

pub loop-place-preserved : goal.loop-place-preserved
loop-place-preserved c =
    numbered_more (λ (place, key). lent_row key c.args.columns.now place) c.loop-place.rows.items c.push.new.self.items _ c.index-keys-place.result c.args.keys.now c.loop-place.place
    c.loop-place-test.true c.index-keys-place.is
    (c.in_ok-push.ensures.items ∙ ap (λ (key : Key). c.loop-place.rows.items ++ lent_row key c.args.columns.now c.loop-place.place ∷ []) c.key-key.ensures)
    c.loop-place.invariant

pub returns : goal.returns
returns c =
    sym (append-nil c.loop-place.rows.items)
    ∙ ap (λ keys. c.loop-place.rows.items ++ map (λ (place, key). lent_row key c.args.columns.now place) (enumerate_from c.loop-place.place keys)) (sym (drop_all c.loop-place.place c.args.keys.now c.loop-place-test.false))
    ∙ c.loop-place.invariant
