use Rattle.dv_vault.proofs.Vocabulary.{Table, TableRows, ap, entry_of, find, option_map, table_eq, ◌∙◌}
use Rattle.dv_vault.proofs.VaultFacts.{find-seen, seen-twice}
use Rattle.dv_vault.proofs.raw_tables.RawTables.table.Goals as goal

pub returns : goal.returns
returns c =
    seen-twice (λ table. table.now) entry_of c.find_table.result
    ∙ ap (option_map entry_of) c.find_table.ensures
    ∙ ap (λ tables. option_map entry_of (find (λ (table : Table). table_eq (entry_of table).table c.args.id) tables)) c.deref.ensures.value
    ∙ find-seen entry_of (λ (entry : TableRows). table_eq entry.table c.args.id) c.args.self.now.tables.items
