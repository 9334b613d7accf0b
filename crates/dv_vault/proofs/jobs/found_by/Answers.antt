use Rattle.dv_vault.proofs.Vocabulary.{All, AreLeast, IsBatch, List, WindowItem, entry_of, hashes_of, item_of, map, names_of_hubs, refl, subst, sym, tasks}
use Rattle.dv_vault.proofs.ResultFacts.{all_batches}
use Rattle.dv_vault.proofs.jobs.found_by.Goals as goal

pub returns : goal.returns
returns g c =
    let job = c.args.job.now in
    let hashes = hashes_of g.H.KeyDigest.function in
    let names = names_of_hubs job.names.now in
    let window = job.window.now.window.now in
    let entries = map entry_of job.tables.now in
    let items = c.in_ok-items.ensures {u = tt} in
    let done = c.in_ok-results.ensures {u = tt} in
    let are = done.results in record {
      kept = record {
        items_are = items.items;
        told = items.told;
        least = subst (λ (all : List WindowItem). AreLeast (map item_of all) c.in_ok-results.numbers.items) c.deref.ensures.value done.numbers;
      };
      batches = subst (All (IsBatch job.catalog.now hashes names window entries)) (sym c.in_ok-batches.ensures)
          (all_batches job.catalog.now hashes names window entries (tasks job.catalog.now window) _ c.in_ok-results.results refl (record { as_many = are.as_many; each = λ n out at. are.each n out at }));
    }
