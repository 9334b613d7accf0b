use Rattle.dv_desk.proofs.opened.end_unstarted.Goals as goal

pub returns-clause-says : goal.returns-clause-says
returns-clause-says g c = rw c.from.ensures at c.end_command.ensures.says
