use Rattle.dv_laws.proofs.Vocabulary.{rows_add_up, vault-push, weight-push}
use Rattle.dv_laws.proofs.TableLaws.{count-push, partial-ends, table_grows}
use Rattle.dv_laws.proofs.vaults.vault_grows.Goals as goal

pub returns : goal.returns
returns c = record { rows = rows_add_up; table = table_grows; vault = vault-push; weight = weight-push; count = count-push; partial = partial-ends }
