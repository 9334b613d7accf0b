use Rattle.dv_sat.proofs.sat_tables.SatTable.each_at.Goals as goal

pub returns : goal.returns
returns c = rw (← c.self.view_is) c.latest_of.ensures
