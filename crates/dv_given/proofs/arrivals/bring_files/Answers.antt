use Rattle.dv_given.proofs.Vocabulary.{err_from_is_err_and}
use Rattle.dv_given.proofs.{ExtractSteps.extracts_read, ExtractSteps.extracts_unread, ReadSteps.reads_made, ReadSteps.reads_none}
use Rattle.dv_given.proofs.arrivals.bring_files.Goals as goal

pub returns-in_err-extracts : goal.returns-in_err-extracts
returns-in_err-extracts g c =
    let p = err_from_is_err_and c.from_residual.result c.from_residual.ensures.1 in
    rw (p.1, p.2) (reads_none (λ files ending ends. extracts_unread files c.args.bytes.now c.in-Ok.manifest c.in-Ok.ensures _ c.items.ensures ending ends) _ _ c.in_err-extracts.ensures)

pub returns : goal.returns
returns g c = reads_made _ _ _ (λ files read. extracts_read files c.args.bytes.now c.in-Ok.manifest c.in-Ok.ensures _ c.items.ensures _ read) c.in_ok-extracts.ensures
