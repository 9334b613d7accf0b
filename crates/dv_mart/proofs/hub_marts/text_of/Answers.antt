use Rattle.dv_mart.proofs.Vocabulary.{IsStrictlySortedBy, Key, List, ap, ascending-sorted_by, column_of, column_told, csv_text, hub_record, key_cmp, key_total, keys_of, map, row_of, subst, sym, ◌∙◌, ◌∷◌}
use Rattle.dv_mart.proofs.HubRows.{lent_are}
use Rattle.dv_mart.proofs.hub_marts.text_of.Goals as goal

pub columns_of-requires-clause-keys : goal.columns_of-requires-clause-keys
columns_of-requires-clause-keys c =
    subst (IsStrictlySortedBy key_cmp) (sym (c.items.ensures ∙ c.in_ok-keys.ensures)) (ascending-sorted_by key_cmp key_total (keys_of c.args.contents.now))

pub returns : goal.returns
returns c =
    let contents = c.args.contents.now in
    let keys = c.items-2.result.now in
    let columns_are = ap (map column_told) c.as_slice.ensures.value ∙ c.in_ok-columns.ensures ∙ ap (λ (keys : List Key). map (column_of keys) contents) (c.items.ensures ∙ sym c.items-2.ensures) in
    let rows_are = c.as_slice-2.ensures.value ∙ c.in_ok-rows.ensures ∙ lent_are keys c.as_slice.result.now contents columns_are ∙ ap (map (row_of contents)) (c.items-2.ensures ∙ c.in_ok-keys.ensures) in
    c.in_ok-text.ensures ∙ (λ i. csv_text (c.args.header ∷ map hub_record (rows_are i)))
