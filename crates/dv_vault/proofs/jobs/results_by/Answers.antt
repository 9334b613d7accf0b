use Rattle.dv_vault.proofs.Vocabulary.{AreResults, HaveAllOffered, IfOk-weaker, IsResultAt, IsSeatOf, IsSync, Offerer, ap, arith, crosses, entry_of, hashes_of, item_of, keys_of, length, map, names_of_hubs, none_offered, sendable, slice_get_within, subst, sym, task_offered, ◌<◌, ◌∙◌, ◌≡◌}
use Rattle.dv_board.proofs.key_table.KeySeat.TheSendSync as seat
use Rattle.dv_vault.proofs.jobs.WindowJob.TheSendSync as job
use Rattle.dv_vault.proofs.results.TaskResult.TheSendSync as given
use Rattle.dv_window_keys.proofs.offered_items.KeyOffers.TheSendSync as offers
use Rattle.dv_vault.proofs.jobs.results_by.Goals as goal

pub run_tasks_with-requires-send-S : goal.run_tasks_with-requires-send-S
run_tasks_with-requires-send-S g c κs within = search (crosses, sendable, seat.the_send) depth 60 fits 20000

pub run_tasks_with-requires-send-T : goal.run_tasks_with-requires-send-T
run_tasks_with-requires-send-T g c κs within = search (crosses, sendable, given.the_send) depth 60 fits 20000

pub run_tasks_with-requires-sync-C : goal.run_tasks_with-requires-sync-C
run_tasks_with-requires-sync-C g c κs within = search (crosses, sendable, offers.the_sync) depth 60 fits 20000

pub run_tasks_with-requires-sync-F : goal.run_tasks_with-requires-sync-F
run_tasks_with-requires-sync-F g c κs within =
    let digest : IsSync g.row.H = record { shared = c.type_bounds.sync-H.shared } in
    let gate : IsSync g.row.G = record { shared = c.type_bounds.sync-G.shared } in
    search (crosses, sendable, job.the_sync, offers.the_sync) depth 60 fits 20000

pub run_tasks_with-requires-after_bounds : goal.run_tasks_with-requires-after_bounds
run_tasks_with-requires-after_bounds g c κs within =
    let digest : IsSync g.row.H = record { shared = c.type_bounds.sync-H.shared } in
    let gate : IsSync g.row.G = record { shared = c.type_bounds.sync-G.shared } in
    let items = map item_of c.args.offers.now.items.now in
    let ranges = c.args.offers.now.ranges.now in
    let share = c.requires.new.1 in
    let most = c.args.team.now.most in (
      omega arith,
      (
        c.requires.few,
        (
          (λ task own done lt has. ((lt, c.requires.tasks, c.requires.ranges, has.0), (search (crosses, sendable) depth 20, search (crosses, sendable) depth 20))),
          (
            (λ task own after out done lt has made.
                let put = made.0 in (
                  ap (λ (s : Offerer). s.share) put.seat,
                  (
                    (ap (λ (s : Offerer). s.table) put.seat ∙ has.0.0, ap (λ (s : Offerer). s.keys) put.seat ∙ has.0.1),
                    task_offered items ranges task done own.offers after.offers (subst (λ n. task < n) (sym c.requires.ranges) lt) has.1 put.offers,
                  ),
                )),
            (
              (c.requires.mine, none_offered items ranges c.args.seat.offers c.requires.new.0),
              (c.args.team.now.some, omega (arith, share, most), omega (arith, share)),
            ),
          ),
        ),
      ),
    )

pub returns-clause-results : goal.returns-clause-results
returns-clause-results g c =
    let job = c.args.job.now in
    let gives = IsResultAt job.catalog.now (hashes_of g.H.KeyDigest.function) (names_of_hubs job.names.now) job.window.now.window.now (map entry_of job.tables.now) in
    IfOk-weaker c.run_tasks_with.result _ (λ r. AreResults gives (length c.args.tasks.now) r.0)
    (λ r are. record { as_many = are.as_many; each = λ n out at. (are.each n out at).2.1 }) c.run_tasks_with.ensures.results

pub returns-clause-mine : goal.returns-clause-mine
returns-clause-mine g c =
    IfOk-weaker c.run_tasks_with.result _ (λ r. IsSeatOf (λ all. keys_of all.mixing (map item_of all.items.now)) c.args.offers.now.table.now r.1)
    (λ r all. all.did.0) c.run_tasks_with.ensures.own

pub returns-clause-offers : goal.returns-clause-offers
returns-clause-offers g c =
    let items = map item_of c.args.offers.now.items.now in
    let ranges = c.args.offers.now.ranges.now in
    IfOk-weaker c.run_tasks_with.result _ (λ r. HaveAllOffered items ranges r.1.offers)
    (λ r all. record {
      only = all.did.1.only;
      each = λ task n of full. all.did.1.each task (all.each task (subst (λ m. task < m) c.requires.ranges (slice_get_within ranges task of.0 of.1))) n of full;
    }) c.run_tasks_with.ensures.own

pub returns-clause-share : goal.returns-clause-share
returns-clause-share g c =
    IfOk-weaker c.run_tasks_with.result _ (λ r. r.1.share ≡ 64) (λ r same. same ∙ c.requires.new.1) c.run_tasks_with.ensures.share
