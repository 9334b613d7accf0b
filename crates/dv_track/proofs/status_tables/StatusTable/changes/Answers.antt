use Rattle.dv_track.proofs.Vocabulary.{refl, says_present, status_place, ◌∙◌}
use Rattle.dv_track.proofs.{Changed.all_changes, Presence.there_ascend}
use Rattle.dv_track.proofs.status_tables.StatusTable.changes.Goals as goal

pub changes_between-requires-clause-was : goal.changes_between-requires-clause-was
changes_between-requires-clause-was c =
    let kept = c.present-was.ensures c.args.load (rw (← c.self.view_is) at c.requires) in
    rw kept (there_ascend status_place says_present refl c.self.inside.tracked.rows c.args.load)

pub returns : goal.returns
returns c =
    let kept = c.present-was.ensures c.args.load (rw (← c.self.view_is) at c.requires) in
    rw (← c.self.view_is)
    (c.in_ok-made.ensures
    ∙ rw (c.items.ensures, c.sorted_list-now.ensures.value, c.in_ok-keys.ensures, kept)
    (all_changes c.args.source.now c.self.inside.tracked.rows c.args.load c.args.keys.now))
