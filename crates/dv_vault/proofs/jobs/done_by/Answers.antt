use Rattle.dv_vault.proofs.Vocabulary.{AreLeastOffered, AreResults, HaveAllOffered, IsResultAt, List, OffersMore, Task, WindowItem, entry_of, hashes_of, item_of, keys_of, length, length-map, map, names_of_hubs, subst, sym, whole_offered, ◌∙◌}
use Rattle.dv_vault.proofs.jobs.done_by.Goals as goal

pub returns-clause-results : goal.returns-clause-results
returns-clause-results g c =
    let job = c.args.job.now in
    let gives = IsResultAt job.catalog.now (hashes_of g.H.KeyDigest.function) (names_of_hubs job.names.now) job.window.now.window.now (map entry_of job.tables.now) in
    subst (λ (all : List Task). AreResults gives (length all) c.in_ok-results.results) (c.items-tasks.ensures ∙ (c.in_ok-tasks.ensures {u = tt}).tasks) (c.in_ok-results.ensures {u = tt}).results

pub returns-clause-numbers : goal.returns-clause-numbers
returns-clause-numbers g c =
    let now = c.args.items.now in
    let items = map item_of now in
    let table = c.in_ok-table.table in
    let made = c.in_ok-results.ensures {u = tt} in
    let offers = c.offer_items.new.seat.offers in
    let up = (c.in_ok-ranges.ensures {u = tt}).all in record {
      mixing = table.items.mixing;
      offers = offers;
      offered = whole_offered items c.in_ok-ranges.ranges.items c.in_ok-ranges.end c.in_ok-results.seat.offers offers up
          (subst (λ ranges. HaveAllOffered items ranges c.in_ok-results.seat.offers) c.deref.ensures.value made.offers)
          (subst (λ n. OffersMore items c.in_ok-ranges.end n c.in_ok-results.seat.offers offers) (sym (length-map now item_of)) c.offer_items.ensures.offers);
      least = subst (λ (all : List WindowItem). AreLeastOffered (keys_of table.items.mixing (map item_of all)) offers c.close-numbers.result.1.items)
          (λ i. ((c.in_ok-table.ensures {u = tt}).items i).items.now) c.close-numbers.ensures.least;
    }
