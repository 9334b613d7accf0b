use Rattle.dv_sat.proofs.Vocabulary.{MultiRow, last_load, multi_cmp, sym, ◌∙◌}
use Rattle.dv_sat.proofs.multi_tables.MultiTable.has_load.Goals as goal

pub returns-in-Some-clause-value : goal.returns-in-Some-clause-value
returns-in-Some-clause-value c =
    rw (← c.self.view_is)
    (c.eq.ensures
    ∙ last_load (λ (row : MultiRow). row.load) multi_cmp c.self.inside.indexed.rows c.in-Some.row.now c.args.load c.self.invariant (rw (← c.self.view_is) at c.requires) (rw c.rows.ensures at (sym c.in-Some.ensures.value)))
