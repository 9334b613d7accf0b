use Rattle.dv_vault.proofs.Vocabulary.{Table, TableRows, ap, entry_of, position, table_eq, ◌∙◌}
use Rattle.dv_vault.proofs.VaultFacts.{position-seen, rows_of_kind}
use Rattle.dv_vault.proofs.raw_tables.RawTables.place_of.Goals as goal

pub returns-clause-place : goal.returns-clause-place
returns-clause-place c =
    c.find_place.ensures
    ∙ ap (position (λ (table : Table). table_eq (entry_of table).table c.args.id)) c.deref.ensures.value
    ∙ position-seen entry_of (λ (entry : TableRows). table_eq entry.table c.args.id) c.args.self.now.tables.items

pub returns-clause-kind : goal.returns-clause-kind
returns-clause-kind c = rows_of_kind c.args.id c.args.self.now.tables.items
