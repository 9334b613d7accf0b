use Rattle.dv_window_keys.proofs.Vocabulary.{All, HasKeys, HashedExtract, IfOk-weaker, IsHashedAt, IsSync, crosses, hashes_of, map, refl, sendable, ◌≡◌}
use Rattle.dv_window_keys.proofs.TaskFacts.{extracts_laid_out, of_results}
use Rattle.dv_text.proofs.rows.Staged.TheSendSync as staged
use Rattle.dv_window_keys.proofs.hashed_windows.hash_all_by.Goals as goal

pub run_tasks-requires-sync-F : goal.run_tasks-requires-sync-F
run_tasks-requires-sync-F g c κs within =
    let digest : IsSync g.row.H = record { shared = c.type_bounds.sync-H.shared } in
    search (crosses, sendable, staged.the_sync) depth 60 fits 20000

pub returns-clause-extracts : goal.returns-clause-extracts
returns-clause-extracts g c =
    IfOk-weaker c.run_tasks.result _ (λ made. map (λ (extract : HashedExtract). extract.staged.now) made ≡ c.args.extracts.now)
    (λ made are. extracts_laid_out (hashes_of g.H.KeyDigest.function) c.args.extracts.now _ made refl (record { as_many = are.as_many; each = λ n out at. are.each n out at })) c.run_tasks.ensures.results

pub returns-clause-keys : goal.returns-clause-keys
returns-clause-keys g c =
    let hashes = hashes_of g.H.KeyDigest.function in
    IfOk-weaker c.run_tasks.result _ (All (HasKeys hashes))
    (λ made are. of_results (HasKeys hashes) (IsHashedAt hashes c.args.extracts.now) _ made (record { as_many = are.as_many; each = λ n out at. are.each n out at }) (λ n out is. is.1)) c.run_tasks.ensures.results
