use Rattle.dv_vault.proofs.Vocabulary.{Contains, subst, task_table, tasks}
use Rattle.dv_vault.proofs.jobs.WindowJob.run.Goals as goal

pub batch-requires-after_bounds : goal.batch-requires-after_bounds
batch-requires-after_bounds g c κs within =
    let job = c.args.self.now in
    task_table job.catalog.now job.window.now.window.now c.in-Batch.table (subst (Contains (tasks job.catalog.now job.window.now.window.now)) c.in-Batch.is c.requires)
