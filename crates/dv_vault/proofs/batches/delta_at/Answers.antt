use Rattle.dv_vault.proofs.Vocabulary.{All-contains, IsBatch, IsDelta, entry_of, hashes_of, map, names_of_hubs, same_Some, subst, sym, ◌∙◌}
use Rattle.dv_vault.proofs.ResultFacts.{still_found}
use Rattle.dv_vault.proofs.batches.delta_at.Goals as goal

pub returns-in-Some-clause-delta : goal.returns-in-Some-clause-delta
returns-in-Some-clause-delta g c entry there =
    let mapping = c.args.catalog.now in
    let hashes = hashes_of g.H.KeyDigest.function in
    let names = names_of_hubs c.args.names.now in
    let window = c.args.window.now.window.now in
    let entries = map entry_of c.args.tables.now in
    let batch = All-contains (IsBatch mapping hashes names window entries) c.args.found.now.batches.items (record { place = c.args.place; rows = c.in-Some.rows }) c.requires.found.batches (c.in-Some.ensures {u = tt}).taken in
    subst (λ e. IsDelta mapping hashes names window e c.in-Some.rows) (same_Some batch.entry entry (sym batch.there ∙ there)) batch.delta

pub returns-in-Some-clause-found : goal.returns-in-Some-clause-found
returns-in-Some-clause-found g c = record {
  kept = c.requires.found.kept;
  batches = still_found c.args.catalog.now (hashes_of g.H.KeyDigest.function) (names_of_hubs c.args.names.now) c.args.window.now.window.now (map entry_of c.args.tables.now)
      c.args.found.now.batches.items c.take_batch.new.batches.items c.requires.found.batches c.take_batch.ensures.left;
}

pub returns-in-None-clause-found : goal.returns-in-None-clause-found
returns-in-None-clause-found g c = record {
  kept = c.requires.found.kept;
  batches = still_found c.args.catalog.now (hashes_of g.H.KeyDigest.function) (names_of_hubs c.args.names.now) c.args.window.now.window.now (map entry_of c.args.tables.now)
      c.args.found.now.batches.items c.take_batch.new.batches.items c.requires.found.batches c.take_batch.ensures.left;
}
