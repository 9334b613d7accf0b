use Rattle.dv_vault.proofs.Vocabulary.{RawVault, entries_of, length, subst, sym, ◌<◌}
use Rattle.dv_vault.proofs.VaultFacts.{hub_there}
use Rattle.dv_vault.proofs.vaults.Vault.hub.Goals as goal

pub hub-requires : goal.hub-requires
hub-requires c =
    hub_there c.self.inside.catalog (entries_of c.self.inside.raw) c.self.invariant.0 c.args.i (subst (λ (raw : RawVault). c.args.i < length raw.mapping.hubs) (sym c.self.view_is) c.requires)
