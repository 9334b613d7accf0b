use Rattle.dv_given.proofs.Vocabulary.{ap, arith, drop_all, err_from_is_err_and, read_from, reading_of, sym, ◌∙◌}
use Rattle.dv_given.proofs.{ExtractSteps.extract_unread, ExtractSteps.reads_on, ReadSteps.behind_none}
use Rattle.dv_given.proofs.arrivals.read_extracts.Goals as goal

pub returns-in_err-read_extract : goal.returns-in_err-read_extract
returns-in_err-read_extract g c =
    let p = err_from_is_err_and c.from_residual.result c.from_residual.ensures.1 in
    let i = c.loop-extract.invariant in
    rw (p.1, p.2) (behind_none _ _ _ _ _ _ i.kept i.later _ (λ files told ends. extract_unread files _ _ _ c.loop-extract-test.true c.extract-item.is _ (i.told files told) _ ends) c.in_err-read_extract.ensures)

pub loop-extract-preserved : goal.loop-extract-preserved
loop-extract-preserved g c =
    let i = c.loop-extract.invariant in
    record {
      told = λ files told. reads_on files _ _ _ c.loop-extract-test.true c.extract-item.is _ (i.told files told) _ (c.in_ok-read_extract.ensures.ok files (i.kept ∙ told));
      kept = c.in_ok-read_extract.ensures.kept ∙ i.kept;
      later = omega (arith, i.later, c.in_ok-read_extract.ensures.later);
    }

pub returns : goal.returns
returns g c =
    let i = c.loop-extract.invariant in
    record {
      ok = λ files told. sym (i.told files told) ∙ ap (read_from files (reading_of _)) (drop_all _ _ c.loop-extract-test.false);
      ends = tt;
      cause = tt;
      kept = i.kept;
      later = i.later;
    }
