use Rattle.dv_laws.proofs.stores.snapshots_stored.Goals as goal
use Rattle.dv_laws.proofs.Vocabulary.{keeps_form, snapshot_is_new, snapshot_stands_for}

pub returns : goal.returns
returns c = record { stands = snapshot_stands_for; new = snapshot_is_new; form = keeps_form }
