use Rattle.dv_restore.proofs.Misnamed.{hub_misnamed, hub_named, other_named}
use Rattle.dv_restore.proofs.completions.is_misnamed_in.Goals as goal

pub returns-in-Hub-clause-misnamed : goal.returns-in-Hub-clause-misnamed
returns-in-Hub-clause-misnamed c =
    rw c.in-Hub.is (hub_misnamed c.args.catalog.now c.args.d.now c.is_misnamed.result c.in-Hub.hub c.in-Hub.rows.rows c.is_misnamed.ensures.misnamed)

pub returns-in-Hub-clause-named : goal.returns-in-Hub-clause-named
returns-in-Hub-clause-named c = rw c.in-Hub.is (hub_named c.args.catalog.now c.args.d.now c.is_misnamed.result c.in-Hub.hub c.in-Hub.rows.rows c.is_misnamed.ensures.named)

pub returns-in_default-clause-named : goal.returns-in_default-clause-named
returns-in_default-clause-named c = λ e. other_named c.args.catalog.now c.args.d.now c.args.table.now c.in_default.not-Hub
