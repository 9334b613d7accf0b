use Rattle.dv_restore.proofs.Vocabulary.{arith, entry_of, length-map}
use Rattle.dv_restore.proofs.Misnamed.{all_so_far, misnamed_there, none_so_far, one_more}
use Rattle.dv_restore.proofs.completions.has_misnamed.Goals as goal

pub loop-table-init : goal.loop-table-init
loop-table-init c = none_so_far c.args.catalog.now c.args.d.now

pub returns-then-branch-clause-misnamed : goal.returns-then-branch-clause-misnamed
returns-then-branch-clause-misnamed c = λ e.
    misnamed_there c.args.catalog.now c.args.d.now c.args.tables.now c.loop-table.table-index c.table-item.result c.loop-table-test.true c.table-item.is
    ((c.in_ok-is_misnamed_in.ensures {u = tt}).misnamed c.if-branch.true)

pub loop-table-preserved : goal.loop-table-preserved
loop-table-preserved c =
    one_more c.args.catalog.now c.args.d.now c.args.tables.now c.loop-table.table-index c.table-item.result c.loop-table-test.true c.table-item.is c.loop-table.invariant
    ((c.in_ok-is_misnamed_in.ensures {u = tt}).named c.if-branch.false)

pub returns-clause-named : goal.returns-clause-named
returns-clause-named c = λ e.
    all_so_far c.args.catalog.now c.args.d.now c.args.tables.now c.loop-table.table-index (omega (arith, c.loop-table-test.false, length-map c.args.tables.now entry_of)) c.loop-table.invariant
