use Rattle.dv_desk.proofs.Vocabulary.{IfOk, subst, table_named, ◌≡◌}
use Rattle.dv_desk.proofs.Read.{named_there}
use Rattle.dv_desk.proofs.queries.table_named.Goals as goal

pub returns-clause-named : goal.returns-clause-named
returns-clause-named c = subst (λ name. IfOk c.find_table.result (λ table. table ≡ table_named c.args.catalog.now name)) c.in_ok-name.ensures c.find_table.ensures

pub returns-clause-there : goal.returns-clause-there
returns-clause-there c = named_there c.args.catalog.now c.in_ok-name.name c.find_table.result c.find_table.ensures
