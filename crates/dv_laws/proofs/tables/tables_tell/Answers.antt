use Rattle.dv_laws.proofs.Vocabulary.{delivered_tells, multi_tells, sat_tells, status_tells}
use Rattle.dv_laws.proofs.HubReconstruct.{keys_tell}
use Rattle.dv_laws.proofs.tables.tables_tell.Goals as goal

pub returns : goal.returns
returns c = record { status = status_tells; delivered = delivered_tells; sat = sat_tells; multi = multi_tells; keys = keys_tell }
