use Rattle.dv_vault.proofs.Vocabulary.{List, Table, TableRows, ap, are_up_to, entries_of, entry_of, hashes_of, hubs_in, is_table_of, list_all, map, rows_of_hubs, ◌∙◌}
use Rattle.dv_vault.proofs.BatchesSoFar.{named_apart, vault_tables}
use Rattle.dv_vault.proofs.raw_tables.RawTables.added.Goals as goal

pub all_deltas-requires-clause-tables : goal.all_deltas-requires-clause-tables
all_deltas-requires-clause-tables g c κs within =
    ap (λ (tables : List Table). list_all (λ (entry : TableRows). is_table_of c.args.catalog.now entry.table) (map entry_of tables)) c.deref.ensures.value
    ∙ vault_tables c.args.catalog.now (entries_of c.args.self.now) c.requires.tables

pub all_deltas-requires-clause-dated : goal.all_deltas-requires-clause-dated
all_deltas-requires-clause-dated g c κs within =
    (λ i. are_up_to ((c.in_ok-hashed.ensures {u = tt}).window i).load (map entry_of (c.deref.ensures.value i)))
    ∙ c.requires.dated

pub returns-clause-apart : goal.returns-clause-apart
returns-clause-apart g c =
    named_apart c.all_deltas.result c.args.catalog.now (hashes_of g.H.KeyDigest.function) (rows_of_hubs c.in_ok-names.names) (hubs_in c.args.catalog.now (entries_of c.args.self.now))
    c.in_ok-hashed.hashed.window.now c.args.window.now
    (map entry_of c.deref.result.now) (entries_of c.args.self.now) (c.in_ok-names.ensures {u = tt}) (c.in_ok-hashed.ensures {u = tt}).window (ap (map entry_of) c.deref.ensures.value) c.all_deltas.ensures.apart
