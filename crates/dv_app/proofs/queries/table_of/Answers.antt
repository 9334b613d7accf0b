use Rattle.dv_app.proofs.Vocabulary.{Contains, HasKind, RawVault, TableEnds, ap, err_from_is_err_and, has_there, option_map, rows_behind, rows_in, subst, sym, table_named, table_text, tables, ◌∙◌}
use Rattle.dv_app.proofs.QuerySteps.{table_answered, table_unknown}
use Rattle.dv_app.proofs.queries.table_of.Goals as goal

pub returns-in_err-table : goal.returns-in_err-table
returns-in_err-table c =
    let p = err_from_is_err_and c.from_residual.result c.from_residual.ensures.1 in
    rw (p.1, p.2) (table_unknown c.args.office.now c.args.name.now c.in_err-table.field-0.0
    (subst (λ m. TableEnds m c.args.name.now c.in_err-table.field-0.0) c.catalog.ensures.value c.in_err-table.ensures.ends))

pub whole_table_text-requires-clause-among : goal.whole_table_text-requires-clause-among
whole_table_text-requires-clause-among c = subst (λ m. Contains (tables m) c.in_ok-table.table) (c.catalog.ensures.value ∙ ap (λ (v : RawVault). v.mapping) (sym c.vault.ensures)) c.in_ok-table.ensures.there

pub whole_table_text-requires-clause-kind : goal.whole_table_text-requires-clause-kind
whole_table_text-requires-clause-kind c = c.rows_begun.ensures.kind

pub returns : goal.returns
returns c =
    let office = c.args.office.now in
    let table = c.in_ok-table.table in
    let more = option_map (λ rows. rows.now) c.rows_begun.result in
    let there : Contains (tables office.vault.mapping) table = subst (λ m. Contains (tables m) table) c.catalog.ensures.value c.in_ok-table.ensures.there in
    table_answered office c.args.name.now table (ap (λ m. table_named m c.args.name.now) (sym c.catalog.ensures.value) ∙ c.in_ok-table.ensures.ok)
    (has_there table office.vault office.begun c.rows_begun.ensures.among there) _
    (c.in_ok-whole_table_text.ensures (subst (λ (v : RawVault). HasKind v.tables table) (sym c.vault.ensures) c.rows_begun.ensures.held)
    ∙ ap (λ (v : RawVault). table_text v.mapping table (rows_behind (rows_in table v.tables) more)) c.vault.ensures
    ∙ ap (table_text office.vault.mapping table) (sym c.rows_begun.ensures.rows))
