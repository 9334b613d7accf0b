use Rattle.dv_mart.proofs.Vocabulary.{Bor, List, NRow, Option, [], ap, append-nil, drop_all, map, map-append, option_map, sym, ◌++◌, ◌∙◌, ◌∷◌}
use Rattle.dv_mart.proofs.HubColumns.{walked, walked_finds, walked_more}
use Rattle.dv_mart.proofs.hub_columns.rows_beside.Goals as goal

pub loop-key-preserved : goal.loop-key-preserved
loop-key-preserved c =
    let told : List (Option (Bor NRow)) → List (Option NRow) = map (option_map (λ (row : Bor NRow). row.now)) in
    walked_more (told c.loop-key.found.items) (told c.push.new.self.items) _ c.loop-key.rest.now c.not_before-rest.result.now _ c.key-item.result c.args.keys.now c.loop-key.key-index
    c.loop-key-test.true c.key-item.is c.not_before-rest.ensures c.first_of.ensures
    (ap told (c.in_ok-push.ensures.items) ∙ map-append (option_map (λ (row : Bor NRow). row.now)) c.loop-key.found.items (c.first_of.result ∷ []))
    c.loop-key.invariant

pub returns : goal.returns
returns c =
    let told : List (Option NRow) = map (option_map (λ (row : Bor NRow). row.now)) c.loop-key.found.items in
    sym (append-nil told)
    ∙ ap (λ keys. told ++ walked c.loop-key.rest.now keys) (sym (drop_all c.loop-key.key-index c.args.keys.now c.loop-key-test.false))
    ∙ c.loop-key.invariant
    ∙ walked_finds c.args.rows.now c.args.keys.now c.requires.rows c.requires.keys
