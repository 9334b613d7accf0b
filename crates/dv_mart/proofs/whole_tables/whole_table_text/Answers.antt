use Rattle.dv_mart.proofs.Vocabulary.{IfOk-weaker, Mapping, Some, [], ap, is_table_of, option_map_or, raw_records, rows_in, subst, sym, table_header, text_of_parts, text_written, true, ◌∙◌, ◌≡◌}
use Rattle.dv_mart.proofs.{TableRecords.records_behind, VaultMarts.of_mapping}
use Rattle.dv_mart.proofs.whole_tables.whole_table_text.Goals as goal

pub table_header-requires : goal.table_header-requires
table_header-requires c =
    subst (λ (m : Mapping). is_table_of m c.args.table ≡ true) (sym c.catalog.ensures.value) (of_mapping c.args.vault.now.mapping c.args.table c.requires.among)

pub returns : goal.returns
returns c =
    IfOk-weaker c.text_of.result _ _
    (λ text is. λ kind.
    text_of_parts
    (text_written (λ bytes. Some bytes.items) c.new_writer-writer.result)
    (text_written (λ bytes. Some bytes.items) c.put_record.new.writer)
    (text_written (λ bytes. Some bytes.items) c.put_vault_rows.new.writer)
    (text_written (λ bytes. Some bytes.items) c.put_behind.new.writer)
    text _ _
    (raw_records (rows_in c.args.table c.args.vault.now.tables))
    (option_map_or (λ rows. raw_records rows.now) c.args.behind [])
    _ c.new_writer-writer.ensures.empty c.in_ok-put_record.ensures.text (c.in_ok-put_vault_rows.ensures.text kind) c.in_ok-put_behind.ensures.text is
    (c.in_ok-fields.ensures ∙ ap (λ (m : Mapping). table_header m c.args.table) c.catalog.ensures.value)
    (records_behind c.args.table (rows_in c.args.table c.args.vault.now.tables) c.args.behind kind c.requires.kind))
    c.text_of.ensures
