use Rattle.dv_window_rules.proofs.GivenSteps.{name_found, name_passed}
use Rattle.dv_window_rules.proofs.given_rules.repeated.Goals as goal

pub returns-then-is_among : goal.returns-then-is_among
returns-then-is_among c = name_found c.args.extracts.now c.loop-i.i c.index-extracts-i.result c.is_among.result c.loop-i-test.true c.index-extracts-i.is c.is_among.ensures c.if-is_among.true c.loop-i.invariant

pub loop-i-preserved : goal.loop-i-preserved
loop-i-preserved c = name_passed c.args.extracts.now c.loop-i.i c.index-extracts-i.result c.is_among.result c.loop-i-test.true c.index-extracts-i.is c.is_among.ensures c.if-is_among.false c.loop-i.invariant
