use Rattle.dv_shown.proofs.RecordLaw.{least_record, least_test}
use Rattle.dv_shown.proofs.catalog_laws.least_refused.Goals as goal

pub returns-clause-record : goal.returns-clause-record
returns-clause-record c = least_record

pub returns-clause-test : goal.returns-clause-test
returns-clause-test c = least_test
