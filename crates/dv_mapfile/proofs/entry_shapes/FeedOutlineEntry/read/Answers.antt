use Rattle.dv_mapfile.proofs.Vocabulary.{err_from_is_err_and, refl}
use Rattle.dv_mapfile.proofs.Stopped.{stopped}
use Rattle.dv_mapfile.proofs.entry_shapes.FeedOutlineEntry.read.Goals as goal

pub returns-in_err-no_others : goal.returns-in_err-no_others
returns-in_err-no_others c =
    let p = err_from_is_err_and c.from_residual-in_err-no_others.result c.from_residual-in_err-no_others.ensures.1 in
    rw (p.1, p.2, c.in_ok-name.ensures, c.in_ok-source.ensures, c.in_ok-parent.ensures, c.in_ok-keys.ensures, c.in_ok-sub.ensures, c.in_ok-attrs.ensures, c.in_ok-ignore.ensures, c.in_ok-driver.ensures)
    (stopped _ _ _ c.in_err-no_others.ensures)

pub returns : goal.returns
returns c =
    rw (c.in_ok-name.ensures, c.in_ok-source.ensures, c.in_ok-parent.ensures, c.in_ok-keys.ensures, c.in_ok-sub.ensures, c.in_ok-attrs.ensures, c.in_ok-ignore.ensures, c.in_ok-driver.ensures, c.in_ok-no_others.ensures) refl
