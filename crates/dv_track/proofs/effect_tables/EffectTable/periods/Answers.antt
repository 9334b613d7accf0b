use Rattle.dv_track.proofs.Vocabulary.{EffectRow, filter, nat_le, ◌∙◌}
use Rattle.dv_track.proofs.EffectTold.{newest_told}
use Rattle.dv_track.proofs.effect_tables.EffectTable.periods.Goals as goal

pub returns : goal.returns
returns c =
    c.in_ok-periods.ensures
    ∙ rw (c.reverse.ensures.items, c.in_ok-told.ensures, c.rows.ensures, ← c.self.view_is) (newest_told (filter (λ (row : EffectRow). nat_le row.load c.args.date) c.self.inside.tracked.rows))
