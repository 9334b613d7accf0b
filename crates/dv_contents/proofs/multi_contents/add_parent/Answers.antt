use Rattle.dv_contents.proofs.Vocabulary.{absent_table, ap, append-nil, sym, ◌++◌, ◌∙◌}
use Rattle.dv_contents.proofs.ContentFacts.{absent_rows_read}
use Rattle.dv_catalog.specs.declared.tables.TableId.TheVariants as ids
use Rattle.dv_contents.proofs.multi_contents.add_parent.Goals as goal

pub returns-in_default-multi : goal.returns-in_default-multi
returns-in_default-multi c = λ definition got.
    let vault = c.args.lender.now.vault.now in
    let absent = absent_table vault.mapping vault.tables c.args.lender.now.tables_are (ids.Multi c.args.feed) c.in_default-multi.ensures.absent in
    sym (append-nil c.args.rows.now.items) ∙ ap (λ more. c.args.rows.now.items ++ more) (sym (absent_rows_read vault.mapping vault.tables definition c.args.feed c.args.date c.args.digest.now absent))
