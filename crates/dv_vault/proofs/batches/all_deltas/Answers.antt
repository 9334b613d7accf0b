use Rattle.dv_vault.proofs.Vocabulary.{All, All-nil, IsBatch, entry_of, hashes_of, map, names_of_hubs, subst, sym}
use Rattle.dv_vault.proofs.batches.all_deltas.Goals as goal

pub deltas_beside-requires-clause-found : goal.deltas_beside-requires-clause-found
deltas_beside-requires-clause-found g c κs within =
    let batches = IsBatch c.args.catalog.now (hashes_of g.H.KeyDigest.function) (names_of_hubs c.args.names.now) c.args.window.now.window.now (map entry_of c.args.tables.now) in record {
      kept = c.in_ok-kept.ensures;
      batches = subst (All batches) (sym c.new-batches.ensures.items) (All-nil batches);
    }
