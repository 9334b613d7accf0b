use Rattle.dv_sat.proofs.Vocabulary.{append-nil, sym, ◌∙◌}
use Rattle.dv_sat.proofs.SideBySide.{all_ended}
use Rattle.dv_sat.proofs.sat_tables.SatTable.changes.Goals as goal

pub returns : goal.returns
returns g c =
    let ended = all_ended _ _ _ c.loop-row.row-iterator c.next.new.self _ c.in-None.is c.next.ensures.steps c.loop-row.invariant.keys c.loop-row.invariant.valid in
    sym (append-nil c.loop-row.made.items) ∙ (rw ended at c.loop-row.invariant.made)
