use Rattle.dv_vault.proofs.Vocabulary.{All, All-append, IsBatch, IsKept, entry_of, hashes_of, map, names_of_hubs, subst, sym}
use Rattle.dv_vault.proofs.BatchesSoFar.{vault_tables}
use Rattle.dv_vault.proofs.jobs.deltas_by.Goals as goal

pub deltas_beside-requires-clause-tables : goal.deltas_beside-requires-clause-tables
deltas_beside-requires-clause-tables g c κs within = let job = c.args.job.now in vault_tables job.catalog.now (map entry_of job.tables.now) job.tables_are

pub deltas_beside-requires-clause-found : goal.deltas_beside-requires-clause-found
deltas_beside-requires-clause-found g c κs within =
    let hashes = hashes_of g.H.KeyDigest.function in
    let job = c.args.job.now in
    let window = job.window.now.window.now in
    let is_batch = IsBatch job.catalog.now hashes (names_of_hubs job.names.now) window (map entry_of job.tables.now) in
    let found = c.in_ok-found.found in
    let are = c.in_ok-found.ensures {u = tt} in
    let put = c.in_ok-found-2.ensures {u = tt} in
    record {
      kept = subst (IsKept job.catalog.now hashes window) (sym put.kept) are.kept;
      batches = subst (All is_batch) (sym put.batches) (All-append is_batch found.batches.items c.in_ok-parents.parents are.batches (c.in_ok-parents.ensures {u = tt}));
    }
