use Rattle.dv_vault.proofs.Vocabulary.{All, IfOk-weaker, IsBatch, IsSync, crosses, entry_of, hashes_of, map, names_of_hubs, of_results, sendable}
use Rattle.dv_vault.proofs.jobs.WindowJob.TheSendSync as job
use Rattle.dv_window_keys.proofs.kept_items.KeptKeys.TheSendSync as kept
use Rattle.dv_vault.proofs.results.TableBatch.TheSendSync as batch
use Rattle.dv_vault.proofs.jobs.parents_by.Goals as goal

pub run_tasks-requires-send-T : goal.run_tasks-requires-send-T
run_tasks-requires-send-T g c κs within = search (crosses, sendable, batch.the_send) depth 60 fits 20000

pub run_tasks-requires-sync-F : goal.run_tasks-requires-sync-F
run_tasks-requires-sync-F g c κs within =
    let digest : IsSync g.row.H = record { shared = c.type_bounds.sync-H.shared } in
    search (crosses, sendable, job.the_sync, kept.the_sync) depth 60 fits 20000

pub returns : goal.returns
returns g c =
    let job = c.args.job.now in
    let is_batch = IsBatch job.catalog.now (hashes_of g.H.KeyDigest.function) (names_of_hubs job.names.now) job.window.now.window.now (map entry_of job.tables.now) in
    IfOk-weaker c.run_tasks.result _ (All is_batch) (λ made are. of_results is_batch (λ n out. is_batch out) _ made (record { as_many = are.as_many; each = λ n out at. are.each n out at }) (λ n out is. is)) c.run_tasks.ensures.results
