use Rattle.dv_app.proofs.Vocabulary.{arith, err_from_is_err_and, refl, ◌∙◌}
use Rattle.dv_app.proofs.ManifestSteps.{all_taken, goes_on, none_yet, stops_at}
use Rattle.dv_app.proofs.tries.load_all.Goals as goal

pub loop-name-init : goal.loop-name-init
loop-name-init g c = record {
  loaded = none_yet _ _ c.args.names.now _ _ _ refl c.requires.begun;
  leaves = record { kept = refl; folder_later = omega arith; err_later = omega arith };
}

pub load_one-requires-clause-ready : goal.load_one-requires-clause-ready
load_one-requires-clause-ready g c κs within = let loaded = c.loop-name.invariant.loaded in (loaded.progress.state, loaded.loaded_is.ready)

pub returns-in_err-load_one-clause-loads : goal.returns-in_err-load_one-clause-loads
returns-in_err-load_one-clause-loads g c =
    let p = err_from_is_err_and c.from_residual.result c.from_residual.ensures.1 in
    let i = c.loop-name.invariant in
    rw (p.1, p.2)
    (stops_at _ _ _ _ _ c.loop-name-test.true c.name-item.is _ _ i.leaves.kept i.leaves.folder_later _ _ refl i.leaves.err_later _ i.loaded _
    (c.in_err-load_one.ensures.goes _ i.loaded.progress i.loaded.loaded_is))

pub loop-name-preserved : goal.loop-name-preserved
loop-name-preserved g c =
    let i = c.loop-name.invariant in
    let leaves = c.load_one.ensures.leaves in
    record {
      loaded = goes_on _ _ _ _ _ c.loop-name-test.true c.name-item.is _ _ i.leaves.kept i.leaves.folder_later _ _ refl i.leaves.err_later _ i.loaded _
          (c.in_ok-load_one.ensures.goes _ i.loaded.progress i.loaded.loaded_is);
      leaves = record {
        kept = leaves.kept ∙ i.leaves.kept;
        folder_later = omega (arith, i.leaves.folder_later, leaves.folder_later);
        err_later = omega (arith, i.leaves.err_later, leaves.err_later);
      };
    }

pub returns-clause-loads : goal.returns-clause-loads
returns-clause-loads g c = all_taken _ _ _ _ _ _ _ c.loop-name-test.false c.loop-name.invariant.loaded
