use Rattle.dv_contents.proofs.ContentRows.{tied, untied}
use Rattle.dv_contents.proofs.content_rows.ContentRowRanked.compared.Goals as goal

pub returns-in-Equal : goal.returns-in-Equal
returns-in-Equal c = tied _ _ _ _ c.refs_compared.ensures c.in-Equal.is c.texts_compared.ensures

pub returns-in_default : goal.returns-in_default
returns-in_default c = untied _ _ _ c.refs_compared.ensures c.in_default.not-Equal
