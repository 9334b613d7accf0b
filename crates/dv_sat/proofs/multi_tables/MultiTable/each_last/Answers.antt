use Rattle.dv_sat.proofs.multi_tables.MultiTable.each_last.Goals as goal

pub returns : goal.returns
returns c = rw (← c.self.view_is) c.latest_of.ensures
