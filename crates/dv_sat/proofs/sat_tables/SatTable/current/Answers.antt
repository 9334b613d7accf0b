use Rattle.dv_sat.proofs.Vocabulary.{SatRow, bytes_eq, found_up_to_last, sat_cmp, sym, ◌∙◌}
use Rattle.dv_sat.proofs.sat_tables.SatTable.current.Goals as goal

pub returns : goal.returns
returns c =
    rw (← c.self.view_is)
    (c.latest.ensures
    ∙ found_up_to_last (λ (row : SatRow). row.load) sat_cmp (λ (row : SatRow). bytes_eq row.parent c.args.parent.now) c.self.inside.indexed.rows c.in_ok-last.last.now c.self.invariant (rw c.rows.ensures at (sym c.in_ok-last.ensures.value)))
