use Rattle.dv_window.proofs.Vocabulary.{Bridge, Mapping, ap, arith, bridge_table, err_from_is_err_and, ids_of, is_path_too_large, length, ◌∙◌}
use Rattle.dv_window.proofs.SnapTables.{large_at, more_fail, none_large, one_id_more, one_more, same_fault}
use Rattle.dv_window.proofs.snapshot_tables.push_bridges.Goals as goal

pub returns-in_err-bridge_table-clause-too_large : goal.returns-in_err-bridge_table-clause-too_large
returns-in_err-bridge_table-clause-too_large c = λ path is hashes sealed zero has.
    let p = err_from_is_err_and c.from_residual.result c.from_residual.ensures.1 in
    let (same, large) = c.in_err-bridge_table.ensures.too_large path (same_fault _ _ (rw (p.1, p.2) at is)) in
    large_at c.args.vault.now.mapping sealed c.args.date path c.loop-path.path same (c.loop-path.invariant.fits hashes sealed zero has) (large hashes sealed zero has)

pub loop-path-preserved : goal.loop-path-preserved
loop-path-preserved c =
    let vault = c.args.vault.now in
    let path = c.loop-path.path in
    let made = c.in_ok-bridge_table in
    record {
      tables = λ hashes sealed zero has.
          one_more (bridge_table vault.mapping hashes sealed c.args.date) path c.args.tables.now c.loop-path.tables c.push.new.self made.field-0 (c.loop-path.invariant.tables hashes sealed zero has) (made.ensures.table hashes sealed zero has)
          c.in_ok-push.ensures.ok;
      ids = one_id_more (λ path. Bridge path) path (ids_of c.args.tables.now) c.loop-path.tables c.push.new.self made.field-0 c.loop-path.invariant.ids made.ensures.id c.in_ok-push.ensures.ok;
      fits = λ hashes sealed zero has.
          more_fail (λ path. is_path_too_large vault.mapping sealed path c.args.date) path (c.loop-path.invariant.fits hashes sealed zero has) (made.ensures.fits hashes sealed zero has);
    }

pub returns-clause-fits : goal.returns-clause-fits
returns-clause-fits c = λ hashes sealed zero has.
    let count = c.path_count-path-end.ensures.value ∙ ap (λ (m : Mapping). length m.paths) c.catalog.ensures.value in
    none_large c.args.vault.now.mapping sealed c.args.date (λ path under. c.loop-path.invariant.fits hashes sealed zero has path (omega (arith, under, count, c.loop-path-test.false)))
