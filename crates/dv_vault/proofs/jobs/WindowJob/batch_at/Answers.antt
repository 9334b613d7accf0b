use Rattle.dv_vault.proofs.Vocabulary.{arith, entry_of, got_from, length-map, map}
use Rattle.dv_vault.proofs.BatchesSoFar.{vault_tables}
use Rattle.dv_vault.proofs.jobs.WindowJob.batch_at.Goals as goal

pub delta_of-rows-requires-clause-tables : goal.delta_of-rows-requires-clause-tables
delta_of-rows-requires-clause-tables g c κs b = let job = c.args.self.now in vault_tables job.catalog.now (map entry_of job.tables.now) job.tables_are

pub returns-clause-batch : goal.returns-clause-batch
returns-clause-batch g c =
    let tables = c.args.self.now.tables.now in
    let under = c.requires.place in
    let many = length-map tables entry_of in
    let (entry, there) = got_from (map entry_of tables) c.args.place (omega (arith, under, many)) in
    record { entry = entry; there = there; delta = c.delta_of-rows.ensures entry there }
