use Rattle.dv_vault.proofs.Vocabulary.{Contains, IfNone, IfSome, RawVault, entries_of, subst, tables}
use Rattle.dv_vault.proofs.VaultFacts.{not_of_mapping, of_mapping}
use Rattle.dv_catalog.specs.declared.tables.TableId.TheVariants as ids
use Rattle.dv_vault.proofs.vaults.Vault.effect.Goals as goal

pub returns-clause-there : goal.returns-clause-there
returns-clause-there c =
    subst (λ (raw : RawVault). IfSome c.effect.result (λ table. Contains (tables raw.mapping) (ids.Effect c.args.feed))) c.self.view_is
    (of_mapping c.self.inside.catalog (entries_of c.self.inside.raw) c.self.invariant.0 (ids.Effect c.args.feed) c.effect.result c.effect.ensures.there)

pub returns-clause-absent : goal.returns-clause-absent
returns-clause-absent c =
    subst (λ (raw : RawVault). IfNone c.effect.result (Contains (tables raw.mapping) (ids.Effect c.args.feed) → ⊥)) c.self.view_is
    (not_of_mapping c.self.inside.catalog (entries_of c.self.inside.raw) c.self.invariant.0 (ids.Effect c.args.feed) c.effect.result c.effect.ensures.none)
