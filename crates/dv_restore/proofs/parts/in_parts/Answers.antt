use Rattle.dv_restore.proofs.Vocabulary.{ap, arith, entry_of, map, rows_weight, sum_by}
use Rattle.dv_restore.proofs.PartedTables.{weights_add_up}
use Rattle.dv_restore.proofs.parts.in_parts.Goals as goal

pub weight_without-weight-requires : goal.weight_without-weight-requires
weight_without-weight-requires c =
    let all = weights_add_up c.args.load (map entry_of c.args.tables.items) (map entry_of c.in_ok-sealed.sealed.items) c.in_ok-sealed.opened (c.in_ok-sealed.ensures {u = tt}) in
    omega (arith, all, c.requires.weight, ap (sum_by rows_weight) c.items.ensures)

pub returns-clause-weight : goal.returns-clause-weight
returns-clause-weight c =
    let all = weights_add_up c.args.load (map entry_of c.args.tables.items) (map entry_of c.in_ok-sealed.sealed.items) c.in_ok-sealed.opened (c.in_ok-sealed.ensures {u = tt}) in
    omega (arith, all, c.requires.weight, c.weight_without-weight.ensures, ap (sum_by rows_weight) c.items.ensures)
