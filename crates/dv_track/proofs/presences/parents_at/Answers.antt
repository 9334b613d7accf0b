use Rattle.dv_track.proofs.Vocabulary.{◌∙◌}
use Rattle.dv_track.proofs.Presence.{latest_there}
use Rattle.dv_track.proofs.presences.parents_at.Goals as goal

pub returns : goal.returns
returns g c = c.in_ok-found.ensures ∙ rw (c.deref.ensures.value, c.in_ok-rows.ensures) (latest_there g.R.Placed.place g.R.Telling.says g.R.Telling.nothing c.args.indexed.now.rows c.args.date)
