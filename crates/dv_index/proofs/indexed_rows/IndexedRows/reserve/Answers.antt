use Rattle.dv_index.proofs.Vocabulary.{ap, arith, length}
use Rattle.dv_index.proofs.Runs.{runs_length}
use Rattle.dv_index.proofs.indexed_rows.IndexedRows.reserve.Goals as goal

pub returns-in_ok-reserve-4-clause-room : goal.returns-in_ok-reserve-4-clause-room
returns-in_ok-reserve-4-clause-room g c =
    let self = c.self.inside in
    omega (
      arith,
      runs_length g.R.Placed.place self.rows.items self.index.items self.recent.items c.self.invariant.0,
      ap length c.reserve.ensures.items,
      ap length c.reserve-then-behind-len.ensures.items,
      c.in_ok-reserve.ensures.ok,
      c.in_ok-reserve-2.ensures.ok,
      c.in_ok-reserve-3.ensures.ok,
      c.reserve-2.ensures.len,
      c.len.ensures,
      self.rows.ok,
      self.index.ok,
      self.recent.ok,
    )

pub returns-else-behind-len-clause-room : goal.returns-else-behind-len-clause-room
returns-else-behind-len-clause-room g c =
    let self = c.self.inside in
    omega (
      arith,
      runs_length g.R.Placed.place self.rows.items self.index.items self.recent.items c.self.invariant.0,
      ap length c.reserve.ensures.items,
      c.in_ok-reserve.ensures.ok,
      c.in_ok-reserve-2.ensures.ok,
      c.in_ok-reserve-3.ensures.ok,
      c.reserve-2.ensures.len,
      c.len.ensures,
      self.rows.ok,
      self.index.ok,
      self.recent.ok,
    )
