use Rattle.dv_vault.proofs.Vocabulary.{RawVault, entries_of, length, subst, sym, ◌<◌}
use Rattle.dv_vault.proofs.VaultFacts.{status_there}
use Rattle.dv_vault.proofs.vaults.Vault.status.Goals as goal

pub status-requires : goal.status-requires
status-requires c =
    status_there c.self.inside.catalog (entries_of c.self.inside.raw) c.self.invariant.0 c.args.feed
    (subst (λ (raw : RawVault). c.args.feed < length raw.mapping.feeds) (sym c.self.view_is) c.requires)
