use Rattle.dv_desk_shown.proofs.Vocabulary.{digits, refl, serde_json_on_literals}
use Rattle.dv_desk_shown.proofs.replies_hold.Goals as goal

pub returns : goal.returns
unfolding digits serde_json_on_literals
returns c = assumption refl
