use Rattle.dv_track.proofs.Vocabulary.{effect_place, refl, says_in_effect, ◌∙◌}
use Rattle.dv_track.proofs.{EffectChanged.all_changes, Presence.there_ascend}
use Rattle.dv_track.proofs.effect_tables.EffectTable.changes.Goals as goal

pub changes_between-requires-clause-was : goal.changes_between-requires-clause-was
changes_between-requires-clause-was c =
    let kept = c.present-was.ensures c.args.load (rw (← c.self.view_is) at c.requires) in
    rw kept (there_ascend effect_place says_in_effect refl c.self.inside.tracked.rows c.args.load)

pub returns : goal.returns
returns c =
    let kept = c.present-was.ensures c.args.load (rw (← c.self.view_is) at c.requires) in
    c.in_ok-made.ensures
    ∙ rw (c.items.ensures, c.sorted_list-now.ensures.value, c.in_ok-keys.ensures, kept, ← c.self.view_is)
    (all_changes c.args.source.now c.self.inside.tracked.rows c.args.load c.args.keys.now)
