use Rattle.dv_mart.proofs.Vocabulary.{sym, ◌∙◌}
use Rattle.dv_mart.proofs.HubColumns.{from_none, from_place, rest_whole}
use Rattle.dv_mart.proofs.hub_columns.not_before.Goals as goal

pub returns-in-Some : goal.returns-in-Some
returns-in-Some c = rest_whole c.in-Some.place c.args.rows.now ∙ from_place c.args.key.now c.args.rows.now c.in-Some.place (sym c.in-Some.is ∙ c.place_not_before.ensures.place)

pub returns-in-None : goal.returns-in-None
returns-in-None c = from_none c.args.key.now c.args.rows.now (sym c.in-None.is ∙ c.place_not_before.ensures.place)
