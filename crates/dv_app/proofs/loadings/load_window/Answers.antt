use Rattle.dv_app.proofs.WindowSteps.{window_taken}
use Rattle.dv_app.proofs.loadings.load_window.Goals as goal

pub returns-in-Loaded : goal.returns-in-Loaded
returns-in-Loaded g c = window_taken _ _ _ _ _ _ c.in-Loaded.is c.load.ensures.mapping c.load.ensures.stale c.load.ensures.answer

pub returns-in-Repeated : goal.returns-in-Repeated
returns-in-Repeated g c = window_taken _ _ _ _ _ _ c.in-Repeated.is c.load.ensures.mapping c.load.ensures.stale c.load.ensures.answer

pub returns-in-Refused : goal.returns-in-Refused
returns-in-Refused g c = window_taken _ _ _ _ _ _ c.in-Refused.is c.load.ensures.mapping c.load.ensures.stale c.load.ensures.answer
