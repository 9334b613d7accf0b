use Rattle.dv_text.proofs.Vocabulary.{arith}
use Rattle.dv_text.proofs.PrefixFacts.{ascending_neighbours}
use Rattle.dv_text.proofs.prefixes.ascend.Goals as goal

pub returns : goal.returns
returns g c _ = ascending_neighbours g.met.T.Ord.total c.args.items.now (λ k d under. c.loop-i.invariant k d (omega (arith, under, c.loop-i-test.false)))
