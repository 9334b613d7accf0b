use Rattle.dv_desk.proofs.Vocabulary.{Contains, HasKind, RawVault, ap, has_there, option_map, rows_behind, rows_in, subst, sym, table_named, table_text, tables, ◌∙◌}
use Rattle.dv_desk.proofs.Read.{none_of, table_looked, unknown_table}
use Rattle.dv_desk.proofs.queries.table.Goals as goal

pub returns-in_default : goal.returns-in_default
returns-in_default c = unknown_table c.args.office.now c.args.name.now
    (ap (λ m. table_named m c.args.name.now) (sym c.catalog.ensures.value) ∙ sym c.in_ok-table.ensures.named ∙ none_of c.in_ok-table.field-0 c.in_default.not-Some)

pub whole_table_text-requires-clause-among : goal.whole_table_text-requires-clause-among
whole_table_text-requires-clause-among c = subst (λ m. Contains (tables m) c.in-Some.table) (c.catalog.ensures.value ∙ ap (λ (v : RawVault). v.mapping) (sym c.vault.ensures)) (rw c.in-Some.is at c.in_ok-table.ensures.there)

pub whole_table_text-requires-clause-kind : goal.whole_table_text-requires-clause-kind
whole_table_text-requires-clause-kind c = c.rows_begun.ensures.kind

pub returns : goal.returns
returns c =
    let office = c.args.office.now in
    let table = c.in-Some.table in
    let more = option_map (λ rows. rows.now) c.rows_begun.result in
    let there : Contains (tables office.vault.mapping) table = subst (λ m. Contains (tables m) table) c.catalog.ensures.value (rw c.in-Some.is at c.in_ok-table.ensures.there) in
    table_looked office c.args.name.now table
    (ap (λ m. table_named m c.args.name.now) (sym c.catalog.ensures.value) ∙ sym c.in_ok-table.ensures.named ∙ c.in-Some.is)
    (has_there table office.vault office.begun c.rows_begun.ensures.among there) c.in_ok-text.text
    (c.in_ok-text.ensures (subst (λ (v : RawVault). HasKind v.tables table) (sym c.vault.ensures) c.rows_begun.ensures.held)
    ∙ ap (λ (v : RawVault). table_text v.mapping table (rows_behind (rows_in table v.tables) more)) c.vault.ensures
    ∙ ap (table_text office.vault.mapping table) (sym c.rows_begun.ensures.rows))
