use Rattle.dv_laws.proofs.PeriodTies.{periods_tied as the_law}
use Rattle.dv_laws.proofs.contents.periods_tied.Goals as goal

pub returns : goal.returns
returns c = the_law
