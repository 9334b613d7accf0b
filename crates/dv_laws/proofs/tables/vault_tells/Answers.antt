use Rattle.dv_laws.proofs.Vocabulary.{all_tell, feed_tells, multi_feed_tells, periods_tell}
use Rattle.dv_laws.proofs.tables.vault_tells.Goals as goal

pub returns : goal.returns
returns c = record { plain = feed_tells; multi = multi_feed_tells; any = all_tell; periods = periods_tell }
