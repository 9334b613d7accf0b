use Rattle.dv_http.proofs.Vocabulary.{arith}
use Rattle.dv_http.proofs.Slices.{later_part, part_length}
use Rattle.dv_http.proofs.buffers.Buffer.skip.Goals as goal

pub returns-clause-held : goal.returns-clause-held
returns-clause-held c =
    let b = c.args.self.now in
    later_part b.bytes.items b.start c.args.count b.end (omega (arith, c.requires, b.sized, b.ordered, b.within, part_length b.bytes.items b.start b.end b.ordered (omega (arith, b.sized, b.within))))
