use Rattle.dv_track.proofs.Vocabulary.{◌∙◌}
use Rattle.dv_track.proofs.Presence.{made_there}
use Rattle.dv_track.proofs.tracked_rows.TrackedRows.from_indexed.Goals as goal

pub invariant_of-result : goal.invariant_of-result
invariant_of-result g c =
    let up = rw c.rows.ensures at c.last_load-last.ensures in (
      λ date early. c.in_ok-present.ensures ∙ made_there g.R.Placed.place g.R.Telling.says g.R.Telling.nothing c.args.indexed.rows c.last_load-last.result up date early,
      c.new.ensures.items,
    )
