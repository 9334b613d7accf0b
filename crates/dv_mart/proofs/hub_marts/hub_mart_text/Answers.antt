use Rattle.dv_mart.proofs.Vocabulary.{AreInOrder, HubMartRow, IfOk-weaker, List, Mapping, NRow, TableRows, any_content_read, ap, csv_text, hub_feeds, hub_header, hub_record, hub_rows, map, subst, sym, told, told_rows, vault_tells, ℕ, ◌∙◌, ◌∷◌}
use Rattle.dv_mart.proofs.HubContents.{mart_is}
use Rattle.dv_mart.proofs.hub_marts.hub_mart_text.Goals as goal

pub text_of-requires : goal.text_of-requires
text_of-requires c = subst AreInOrder (sym c.as_slice-2.ensures.value) c.in_ok-contents.ensures.order

pub returns : goal.returns
returns c =
    let mapping = c.args.vault.now.mapping in
    let read : ℕ → List NRow = λ feed. any_content_read mapping c.args.vault.now.tables feed c.args.date in
    let feeds_are = ap (map told) c.as_slice.ensures.value ∙ c.in_ok-feeds.ensures.feeds ∙ ap (λ (m : Mapping). hub_feeds m c.args.hub) c.catalog-catalog.ensures.value in
    let contents_are = ap (map told_rows) c.as_slice-2.ensures.value ∙ c.in_ok-contents.ensures.rows in
    let rows_are = mart_is mapping read c.args.hub c.as_slice.result.now c.as_slice-2.result.now feeds_are contents_are in
    let header = c.in_ok-header.ensures ∙ ap (λ (m : Mapping). hub_header m c.args.hub) c.catalog-catalog.ensures.value in
    IfOk-weaker c.text_of.result _ _
    (λ text is hashes sealed has.
    is
    ∙ (λ i. csv_text (header i ∷ map hub_record (rows_are i)))
    ∙ ap (λ (rows : List HubMartRow). csv_text (hub_header mapping c.args.hub ∷ map hub_record rows))
    (ap (λ (tables : List TableRows). hub_rows mapping (λ feed. any_content_read mapping tables feed c.args.date) c.args.hub) has.tables_are
    ∙ (λ i. hub_rows mapping (λ feed. vault_tells mapping hashes sealed (rw c.catalog-catalog.ensures.value at c.note_valid.ensures) has.valid feed c.args.date i) c.args.hub)))
    c.text_of.ensures
