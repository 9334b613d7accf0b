use Rattle.dv_vault.proofs.Vocabulary.{AreApart, Clashes, IfErr, IfOk, None, RawVault, entries_of, hashes_of, last_sealed, late_after, subst, sym, ◌≡◌}
use Rattle.dv_vault.proofs.Taken.{rows_not_later}
use Rattle.dv_vault.proofs.vaults.Vault.batches.Goals as goal

pub added-requires-clause-dated : goal.added-requires-clause-dated
added-requires-clause-dated g c κs b =
    let later : late_after (last_sealed c.self.inside.heads) c.args.window.now.load ≡ None = subst (λ (raw : RawVault). late_after (last_sealed raw.heads) c.args.window.now.load ≡ None) (sym c.self.view_is) c.requires.later in
    rows_not_later c.self.inside.heads (entries_of c.self.inside.raw) c.args.window.now.load c.self.invariant.1 later

pub returns-clause-apart : goal.returns-clause-apart
returns-clause-apart g c = subst (λ (raw : RawVault). IfOk c.added.result (λ batches. AreApart (hashes_of g.H.KeyDigest.function) raw c.args.window.now)) c.self.view_is c.added.ensures.apart

pub returns-clause-clashes : goal.returns-clause-clashes
returns-clause-clashes g c = subst (λ (raw : RawVault). IfErr c.added.result (Clashes (hashes_of g.H.KeyDigest.function) raw c.args.window.now)) c.self.view_is c.added.ensures.clashes
