use Rattle.dv_given.proofs.Vocabulary.{reading_of}
use Rattle.dv_given.proofs.ExtractSteps.{extract_reads}
use Rattle.dv_given.proofs.arrivals.extract_bytes.Goals as goal

pub returns : goal.returns
returns g c = extract_reads (reading_of c.args.reading.now) c.args.extract.now c.if-reading.false _ c.allowed.ensures.value _ c.read_named.result c.read_named.ensures
