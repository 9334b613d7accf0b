use Rattle.dv_store_rules.proofs.Vocabulary.{sym, ◌∙◌}
use Rattle.dv_store_rules.proofs.Ascending.{ascends_on, ascends_whole}
use Rattle.dv_store_rules.proofs.heads.ascend.Goals as goal

pub loop-place-preserved : goal.loop-place-preserved
loop-place-preserved c = ascends_on c.args.numbers.now c.loop-place.place 0 0 c.loop-place.auto.place c.loop-place-test.true c.if-numbers-place.false ∙ c.loop-place.invariant

pub returns : goal.returns
returns c = sym (ascends_whole c.args.numbers.now c.loop-place.place c.loop-place-test.false) ∙ c.loop-place.invariant
