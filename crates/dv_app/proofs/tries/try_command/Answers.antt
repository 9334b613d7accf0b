use Rattle.dv_app.proofs.EndSteps.{all_caused, all_says, early_or_cut_caused, early_or_cut_says}
use Rattle.dv_app.proofs.tries.try_command.Goals as goal

pub returns-in-Ok-clause-says : goal.returns-in-Ok-clause-says
returns-in-Ok-clause-says g c = all_says _ _ _ c.in-Ok.refused _ c.status_of_windows.ensures c.in-Ok.ensures.tries

pub returns-in-Ok-clause-causes : goal.returns-in-Ok-clause-causes
returns-in-Ok-clause-causes g c = all_caused _ _ _ c.in-Ok.refused _ c.status_of_windows.ensures c.in-Ok.ensures.tries

pub returns-in-Err-clause-says : goal.returns-in-Err-clause-says
returns-in-Err-clause-says g c = early_or_cut_says _ _ _ _ _ _ _ _ _ _ c.try_all.ensures.later.2 c.end_command.ensures.later _ _ c.in-Err.ensures.tries c.end_command.ensures.says

pub returns-in-Err-clause-causes : goal.returns-in-Err-clause-causes
returns-in-Err-clause-causes g c = early_or_cut_caused _ _ _ _ _ _ _ _ _ _ c.try_all.ensures.later.2 c.end_command.ensures.later _ _ c.in-Err.ensures.tries c.end_command.ensures.says
