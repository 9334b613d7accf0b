use Rattle.dv_given.proofs.Vocabulary.{err_from_is_err_and, reading_of}
use Rattle.dv_given.proofs.{ExtractSteps.next_reads, ReadSteps.reads_none}
use Rattle.dv_given.proofs.arrivals.read_extract.Goals as goal

pub returns-in_err-bytes : goal.returns-in_err-bytes
returns-in_err-bytes g c =
    let p = err_from_is_err_and c.from_residual.result c.from_residual.ensures.1 in
    rw (p.1, p.2) (reads_none (λ files ending so. so) _ _ c.in_err-bytes.ensures)

pub returns : goal.returns
returns g c = next_reads c.args.extract.now (reading_of c.args.reading.now) _ c.in_ok-bytes.bytes c.in_ok-add.ensures _ c.in_ok-bytes.ensures
