use Rattle.dv_crew.proofs.Vocabulary.{IsSync, crosses, sendable}
use Rattle.dv_crew.proofs.crews.run_tasks.Goals as goal

pub run_tasks_with-requires-sync-F : goal.run_tasks_with-requires-sync-F
run_tasks_with-requires-sync-F g c κs within =
    let job : IsSync g.row.F = record { shared = c.type_bounds.sync-F.shared } in
    search (crosses, sendable) depth 60 fits 20000
