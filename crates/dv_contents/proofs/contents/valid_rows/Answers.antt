use Rattle.dv_contents.proofs.Vocabulary.{Bor, IfOk-weaker, List, None, SatRow, [], absent_table, ap, attrs_read, length, map, sym, valid_at, valid_attrs, ℕ, ◌==◌, ◌∙◌}
use Rattle.dv_contents.proofs.ContentFacts.{absent_attrs, each_told_or, no_attrs, none_told, some_attrs}
use Rattle.dv_catalog.specs.declared.tables.TableId.TheVariants as ids
use Rattle.dv_contents.proofs.contents.valid_rows.Goals as goal

pub returns-then-is_empty : goal.returns-then-is_empty
returns-then-is_empty c =
    let definition = c.args.definition.now in
    let vault = c.args.lender.now.vault.now in
    let none = ap (λ (xs : List (List ℕ)). length xs == 0) (sym c.items.ensures) ∙ sym c.if-is_empty.ensures in
    IfOk-weaker c.no_rows.result _ _
    (λ valid is. ap (map valid_attrs) is ∙ none_told valid_attrs None (λ parent. attrs_read vault.tables definition c.args.feed parent c.args.date) c.args.parents.now (λ parent. no_attrs c.args.lender.now.vault.now.tables definition c.args.feed c.args.date parent none))
    c.no_rows.ensures

pub returns-in-None : goal.returns-in-None
returns-in-None c =
    let definition = c.args.definition.now in
    let vault = c.args.lender.now.vault.now in
    let absent = absent_table vault.mapping vault.tables c.args.lender.now.tables_are (ids.Sat c.args.feed) c.in-None.ensures.absent in
    IfOk-weaker c.no_rows-in-None.result _ _
    (λ valid is. ap (map valid_attrs) is ∙ none_told valid_attrs None (λ parent. attrs_read vault.tables definition c.args.feed parent c.args.date) c.args.parents.now (λ parent. absent_attrs vault.tables definition c.args.feed parent c.args.date absent))
    c.no_rows-in-None.ensures

pub returns-in-Some : goal.returns-in-Some
returns-in-Some c =
    let definition = c.args.definition.now in
    let tables = c.args.lender.now.vault.now.tables in
    let rows = c.in-Some.sat.now.rows in
    let some = ap (λ (xs : List (List ℕ)). length xs == 0) (sym c.items.ensures) ∙ sym c.if-is_empty.ensures in
    IfOk-weaker c.each_at.result _ _
    (λ valid is.
    each_told_or (λ (row : SatRow). row.attrs) (λ (row : Bor SatRow). row.now) [] (λ parent. valid_at rows parent c.args.date) valid.items c.args.parents.now is
    ∙ (λ i. map (λ parent. some_attrs tables definition c.args.feed c.args.date rows parent some c.in-Some.ensures.rows i) c.args.parents.now))
    c.each_at.ensures
