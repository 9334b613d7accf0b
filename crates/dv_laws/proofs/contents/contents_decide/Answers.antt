use Rattle.dv_laws.proofs.{PeriodTies.periods_decided, WindowSteps.contents_decide as marts_decided}
use Rattle.dv_laws.proofs.contents.contents_decide.Goals as goal

pub returns : goal.returns
returns c = record { marts = marts_decided; periods = periods_decided }
