use Rattle.dv_vault.proofs.Vocabulary.{RawVault, entries_of, length, subst, sym, ◌<◌}
use Rattle.dv_vault.proofs.VaultFacts.{link_there}
use Rattle.dv_vault.proofs.vaults.Vault.link.Goals as goal

pub link-requires : goal.link-requires
link-requires c =
    link_there c.self.inside.catalog (entries_of c.self.inside.raw) c.self.invariant.0 c.args.i (subst (λ (raw : RawVault). c.args.i < length raw.mapping.links) (sym c.self.view_is) c.requires)
