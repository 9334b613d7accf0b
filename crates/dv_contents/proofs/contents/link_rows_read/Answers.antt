use Rattle.dv_contents.proofs.Vocabulary.{filter_map, list_row, zip, ◌∙◌}
use Rattle.dv_contents.proofs.ContentFacts.{list_rows_read}
use Rattle.dv_contents.proofs.contents.link_rows_read.Goals as goal

pub returns : goal.returns
returns c = λ definition feed date parent_is valid_are.
    let vault = c.args.lender.now.vault.now in
    c.in_ok-rows.ensures
    ∙ (λ i. filter_map (λ (row, valid). list_row vault.mapping vault.tables c.link_hubs.result.now row valid) (zip (c.deref.ensures.value i) c.args.valid.now))
    ∙ list_rows_read vault.mapping vault.tables definition feed date c.args.parents.now c.args.valid.now valid_are
    c.args.link c.link_hubs.result.now c.link.result.now.rows c.in_ok-found.found.items parent_is c.link.ensures c.link_hubs.ensures.value c.in_ok-found.ensures
