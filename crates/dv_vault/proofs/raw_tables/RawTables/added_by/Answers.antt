use Rattle.dv_vault.proofs.Vocabulary.{ap, entries_of, entry_of, hashes_of, hubs_in, map, rows_of_hubs}
use Rattle.dv_vault.proofs.BatchesSoFar.{named_apart}
use Rattle.dv_vault.proofs.raw_tables.RawTables.added_by.Goals as goal

pub returns-clause-apart : goal.returns-clause-apart
returns-clause-apart g c =
    named_apart c.deltas_by.result c.args.catalog.now (hashes_of g.H.KeyDigest.function) (rows_of_hubs c.in_ok-names.names) (hubs_in c.args.catalog.now (entries_of c.args.self.now))
    c.in_ok-hashed.hashed.window.now c.args.window.now
    (map entry_of c.deref.result.now) (entries_of c.args.self.now) (c.in_ok-names.ensures {u = tt}) (c.in_ok-hashed.ensures {u = tt}).window (ap (map entry_of) c.deref.ensures.value) c.deltas_by.ensures.apart
