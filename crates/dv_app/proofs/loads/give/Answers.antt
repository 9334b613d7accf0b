use Rattle.dv_app.proofs.Vocabulary.{refl}
use Rattle.dv_app.proofs.LoadSteps.{gave_rule, gave_window}
use Rattle.dv_app.proofs.loads.give.Goals as goal

pub returns-in-Broken : goal.returns-in-Broken
returns-in-Broken g c = rw c.in-Broken.is (gave_rule _ _ _ _ refl refl)

pub returns-in-Brought : goal.returns-in-Brought
returns-in-Brought g c =
    rw c.in-Brought.is (gave_window _ _ _ _ _ c.load.new.self c.load.ensures.step c.load.ensures.mapping c.load.ensures.store c.requires.fresh c.load.ensures.stale c.load.ensures.cause c.load.ensures.later)
