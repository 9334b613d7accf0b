use Rattle.dv_shown.proofs.Vocabulary.{mapping_valid}
use Rattle.dv_shown.proofs.FaultlessLaw.{has_form, no_fault}
use Rattle.dv_shown.proofs.catalog_laws.valid_where_faultless.Goals as goal

pub returns : goal.returns
returns c = λ outline. (λ valid. (no_fault outline valid, has_form outline valid), λ (none, formed). mapping_valid outline none formed)
