use Rattle.dv_contents.proofs.Vocabulary.{filter_map, key_row, zip, ◌∙◌}
use Rattle.dv_contents.proofs.ContentFacts.{key_rows_read}
use Rattle.dv_contents.proofs.contents.hub_rows_read.Goals as goal

pub returns : goal.returns
returns c = λ definition feed date parent_is valid_are.
    let vault = c.args.lender.now.vault.now in
    c.in_ok-rows.ensures
    ∙ (λ i. filter_map (λ (row, valid). key_row row valid) (zip (c.deref.ensures.value i) c.args.valid.now))
    ∙ key_rows_read vault.mapping vault.tables definition feed date c.args.parents.now c.args.valid.now valid_are
    c.args.hub c.hub.result.now.rows c.in_ok-found.found.items parent_is c.hub.ensures c.in_ok-found.ensures
