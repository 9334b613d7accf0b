use Rattle.dv_contents.proofs.Vocabulary.{FeedDef, RawVault, Some, ap, got_from, is_valid, length, parents_read, row_cmp, slice_get, sorted_by, subst, sym, true, ◌<◌, ◌∙◌, ◌≡◌}
use Rattle.dv_contents.proofs.ContentFacts.{content_by, mart_read}
use Rattle.dv_contents.proofs.contents.lent_content.Goals as goal

pub rows_of_parents-requires : goal.rows_of_parents-requires
rows_of_parents-requires c = subst (λ (vault : RawVault). c.args.feed < length vault.mapping.feeds) (sym c.new-lender.ensures) c.requires.feed

pub returns-clause-read : goal.returns-clause-read
returns-clause-read c =
    let vault = c.args.vault.now in
    let (definition, got) = got_from vault.mapping.feeds c.args.feed c.requires.feed in
    let rows_are = subst (λ (vault : RawVault). (definition : FeedDef) → slice_get vault.mapping.feeds c.args.feed ≡ Some definition → c.in_ok-rows.rows.items ≡ parents_read vault.mapping vault.tables definition c.args.feed c.args.date c.items.result.now)
    c.new-lender.ensures (c.in_ok-rows.ensures {u = tt}) in
    (c.in_ok-rows-2.ensures {u = tt})
    ∙ ap (sorted_by row_cmp) c.deref.ensures.value
    ∙ content_by vault.mapping vault.tables c.args.feed c.args.date definition c.in_ok-rows.rows.items c.items.result.now c.status.result.now.rows got c.status.ensures
    (c.items.ensures ∙ c.in_ok-parents.ensures {u = tt}) (rows_are definition got)

pub returns-clause-told : goal.returns-clause-told
returns-clause-told c hashes sealed has =
    returns-clause-read c
    ∙ mart_read hashes sealed c.args.vault.now has (subst (λ (vault : RawVault). is_valid vault.mapping ≡ true) c.new-lender.ensures c.new-lender.result.valid) c.args.feed c.args.date
