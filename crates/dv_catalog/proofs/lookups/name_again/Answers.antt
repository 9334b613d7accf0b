use Rattle.dv_catalog.proofs.Again.{again_found, again_passed}
use Rattle.dv_catalog.proofs.lookups.name_again.Goals as goal

pub returns-then-has_name : goal.returns-then-has_name
returns-then-has_name g c =
    rw (c.name-then-has_name.ensures, ← c.name.ensures)
    (again_found g.T.Named.name_of c.args.entries.now c.loop-i.i _ c.name.result.now _ c.loop-i-test.true c.index-entries-i.is c.name.ensures c.has_name.ensures c.if-has_name.true c.loop-i.invariant)

pub loop-i-preserved : goal.loop-i-preserved
loop-i-preserved g c = again_passed g.T.Named.name_of c.args.entries.now c.loop-i.i _ c.name.result.now _ c.loop-i-test.true c.index-entries-i.is c.name.ensures c.has_name.ensures c.if-has_name.false c.loop-i.invariant
