use Rattle.dv_app.proofs.Vocabulary.{ap, err_from_is_err_and, hashes_of, what_of, ◌∙◌}
use Rattle.dv_app.proofs.TrySteps.{date_refused, file_unread, not_begun, readied_so, what_unknown}
use Rattle.dv_app.proofs.tries.begin.Goals as goal

pub returns-in_err-file-clause-reads : goal.returns-in_err-file-clause-reads
returns-in_err-file-clause-reads g c =
    let p = err_from_is_err_and c.from_residual.result c.from_residual.ensures.1 in
    rw (p.1, p.2) (file_unread g.H.KeyDigest.function _ _ _ c.in_err-file.ensures.file)

pub returns-in_err-what-clause-reads : goal.returns-in_err-what-clause-reads
returns-in_err-what-clause-reads g c =
    let p = err_from_is_err_and c.from_residual-in_err-what.result c.from_residual-in_err-what.ensures.1 in
    rw (p.1, p.2) (what_unknown g.H.KeyDigest.function _ _ _ c.in_ok-file.ensures.file _ c.in_err-what.ensures.ends)

pub returns-in_err-date-clause-reads : goal.returns-in_err-date-clause-reads
returns-in_err-date-clause-reads g c =
    let p = err_from_is_err_and c.from_residual-in_err-date.result c.from_residual-in_err-date.ensures.1 in
    rw (p.1, p.2) (date_refused g.H.KeyDigest.function _ _ _ c.in_ok-file.ensures.file _ c.in_ok-what.ensures.ok _ c.in_err-date.ensures.ends)

pub returns-in_err-loading-clause-reads : goal.returns-in_err-loading-clause-reads
returns-in_err-loading-clause-reads g c =
    let p = err_from_is_err_and c.from_residual-in_err-loading.result c.from_residual-in_err-loading.ensures.1 in
    rw (p.1, p.2) (not_begun g.H.KeyDigest.function _ _ _ c.in_ok-file.ensures.file _ c.in_ok-what.ensures.ok)

pub returns-clause-reads : goal.returns-clause-reads
returns-clause-reads g c = readied_so g.H.KeyDigest.function _ _ _ c.in_ok-file.ensures.file _ c.in_ok-what.ensures.ok _ c.in_ok-date.ensures.ok _ c.in_ok-loading.ensures.mapping

pub returns-clause-readied : goal.returns-clause-readied
returns-clause-readied g c = record {
  offered = record {
    word = c.args.asked.now.what.now;
    offered = ap (λ m. what_of m c.args.asked.now.what.now) c.in_ok-loading.ensures.mapping ∙ c.in_ok-what.ensures.ok;
  };
  begun = c.in_ok-loading.ensures.begun (hashes_of g.H.KeyDigest.function);
}
