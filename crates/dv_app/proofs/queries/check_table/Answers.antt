use Rattle.dv_app.proofs.Vocabulary.{named_among, sym, ◌∙◌}
use Rattle.dv_app.proofs.queries.check_table.Goals as goal

pub returns-in-Some-clause-there : goal.returns-in-Some-clause-there
returns-in-Some-clause-there c = named_among c.args.catalog.now c.args.name.now c.in-Some.table (sym c.in_ok-table.ensures ∙ c.in-Some.is)
