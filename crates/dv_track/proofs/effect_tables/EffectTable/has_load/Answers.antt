use Rattle.dv_track.proofs.Vocabulary.{EffectRow, effect_cmp, last_load, sym, ◌∙◌}
use Rattle.dv_track.proofs.effect_tables.EffectTable.has_load.Goals as goal

pub returns-in-Some-clause-value : goal.returns-in-Some-clause-value
returns-in-Some-clause-value c =
    rw (← c.self.view_is)
    (c.eq.ensures
    ∙ last_load (λ (row : EffectRow). row.load) effect_cmp c.self.inside.tracked.rows c.in-Some.row.now c.args.load c.self.invariant (rw (← c.self.view_is) at c.requires) (rw c.rows.ensures at (sym c.in-Some.ensures.value)))
