use Rattle.dv_restore.proofs.{NamedDamages.table_named, TableReads.damage_told, TableReads.rows_told}
use Rattle.dv_restore.proofs.table_reads.read_table.Goals as goal

pub returns-clause-told : goal.returns-clause-told
returns-clause-told g c before is =
    rows_told before c.args.id c.args.known.now.weight is.weight (g.K.Keeper.store c.args.keeper.now) c.in_ok-read.read c.in_ok-read.ensures.told c.table_of.result c.table_of.ensures.told (c.table_of.ensures.clear before is)

pub returns-clause-damaged : goal.returns-clause-damaged
returns-clause-damaged g c before is damage e =
    damage_told before c.args.id c.args.known.now.weight is.weight (g.K.Keeper.store c.args.keeper.now) c.in_ok-read.read c.in_ok-read.ensures.told c.args.known.now.catalog.now damage (c.table_of.ensures.damaged before is damage e)

pub returns-clause-formed : goal.returns-clause-formed
returns-clause-formed g c before is damage e =
    table_named c.args.known.now.catalog.now before c.args.id c.in_ok-read.read c.requires c.in_ok-read.ensures.kind damage (c.table_of.ensures.damaged before is damage e)
