use Rattle.dv_vault.proofs.Vocabulary.{Contains, Contains-get_or, IfSome, IsResultOf, Keys, List, Some, Task, ap, entry_of, get_or, hashes_of, map, names_of_hubs, slice_get, slice_get-get_or, subst, sym, tasks, ◌<◌, ◌∙◌, ◌≡◌}
use Rattle.dv_vault.proofs.jobs.run_at.Goals as goal

pub offer-requires-clause-task : goal.offer-requires-clause-task
offer-requires-clause-task g c κs within = subst (λ n. c.args.place < n) (sym c.requires.ranges) c.requires.place

pub run-requires-after_bounds : goal.run-requires-after_bounds
run-requires-after_bounds g c κs within =
    subst (λ (all : List Task). Contains all (get_or c.args.tasks.now c.args.place (Keys 0))) c.requires.tasks (Contains-get_or c.args.tasks.now c.args.place (Keys 0) c.requires.place)

pub returns-clause-given : goal.returns-clause-given
returns-clause-given g c =
    let job = c.args.job.now in
    let window = job.window.now.window.now in
    let task : Task = get_or c.args.tasks.now c.args.place (Keys 0) in
    let at : slice_get (tasks job.catalog.now window) c.args.place ≡ Some task = ap (λ (all : List Task). slice_get all c.args.place) (sym c.requires.tasks) ∙ slice_get-get_or c.args.tasks.now c.args.place (Keys 0) c.requires.place in
    subst (λ found. IfSome found (λ task. IsResultOf job.catalog.now (hashes_of g.H.KeyDigest.function) (names_of_hubs job.names.now) window (map entry_of job.tables.now) task c.run.result)) (sym at) c.run.ensures
