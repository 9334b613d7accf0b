use Rattle.dv_mart.proofs.Vocabulary.{AreInOrder, IfOk-weaker, List, Mapping, NRow, TableRows, any_content_read, ap, hub_feeds, hub_rows, map, subst, sym, told, told_rows, vault_tells, ℕ, ◌∙◌}
use Rattle.dv_mart.proofs.HubContents.{mart_is}
use Rattle.dv_mart.proofs.hub_marts.hub_mart.Goals as goal

pub rows_of-requires : goal.rows_of-requires
rows_of-requires c = subst AreInOrder (sym c.as_slice-2.ensures.value) c.in_ok-contents.ensures.order

pub returns-clause-read : goal.returns-clause-read
returns-clause-read c =
    let mapping = c.args.vault.now.mapping in
    let read : ℕ → List NRow = λ feed. any_content_read mapping c.args.vault.now.tables feed c.args.date in
    let feeds_are = ap (map told) c.as_slice.ensures.value ∙ c.in_ok-feeds.ensures.feeds ∙ ap (λ (m : Mapping). hub_feeds m c.args.hub) c.catalog-catalog.ensures.value in
    let contents_are = ap (map told_rows) c.as_slice-2.ensures.value ∙ c.in_ok-contents.ensures.rows in
    let rows_are = mart_is mapping read c.args.hub c.as_slice.result.now c.as_slice-2.result.now feeds_are contents_are in
    IfOk-weaker c.rows_of.result _ _ (λ rows is. is ∙ rows_are) c.rows_of.ensures

pub returns-clause-told : goal.returns-clause-told
returns-clause-told c =
    let mapping = c.args.vault.now.mapping in
    IfOk-weaker c.rows_of.result _ _
    (λ rows is hashes sealed has.
    is ∙ (ap (λ (tables : List TableRows). hub_rows mapping (λ feed. any_content_read mapping tables feed c.args.date) c.args.hub) has.tables_are
    ∙ (λ i. hub_rows mapping (λ feed. vault_tells mapping hashes sealed (rw c.catalog-catalog.ensures.value at c.note_valid.ensures) has.valid feed c.args.date i) c.args.hub)))
    (returns-clause-read c)
