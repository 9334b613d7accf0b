use Rattle.dv_laws.proofs.Vocabulary.{the_law}
use Rattle.dv_laws.proofs.vaults.vault_holds.Goals as goal

pub returns : goal.returns
returns c = the_law
