use Rattle.dv_app.proofs.Vocabulary.{IsOffered, RawVault, ap, err_from_is_err_and, subst, sym, ◌∙◌}
use Rattle.dv_app.proofs.TrySteps.{all_said, text_cut, unloaded, untold}
use Rattle.dv_app.proofs.tries.try_readied.Goals as goal

pub load_all-requires-clause-begun : goal.load_all-requires-clause-begun
load_all-requires-clause-begun g c κs within = c.requires.readied.begun

pub returns-in_err-load_all-clause-tries : goal.returns-in_err-load_all-clause-tries
returns-in_err-load_all-clause-tries g c =
    let p = err_from_is_err_and c.from_residual.result c.from_residual.ensures.1 in
    rw (p.1, p.2) (λ read reads kept later. unloaded g.H.KeyDigest.function _ _ _ _ reads kept later _ _ _ _ c.in_err-load_all.ensures.loads)

pub text_of-requires : goal.text_of-requires
text_of-requires g c =
    subst (λ m. IsOffered m c.args.readied.now.what) (sym (ap (λ (v : RawVault). v.mapping) c.vault-vault.ensures ∙ c.in_ok-load_all.ensures.loads.loaded_is.mapping_is)) c.requires.readied.offered

pub returns-in_err-text-clause-tries : goal.returns-in_err-text-clause-tries
returns-in_err-text-clause-tries g c =
    let p = err_from_is_err_and c.from_residual-in_err-text.result c.from_residual-in_err-text.ensures.1 in
    rw (p.1, p.2)
    (λ read reads kept later. untold g.H.KeyDigest.function _ _ _ _ reads kept later _ _ c.in_ok-load_all.ensures.loads _ c.vault-vault.ensures _ _ _ c.in_err-text.ensures.ends)

pub returns-in-Ok-clause-tries : goal.returns-in-Ok-clause-tries
returns-in-Ok-clause-tries g c = λ read reads kept later.
    all_said g.H.KeyDigest.function _ _ _ _ reads kept later _ _ c.in_ok-load_all.ensures.loads _ c.vault-vault.ensures _ _ c.in_ok-text.ensures.ok _ c.bytes.ensures c.in-Ok.ensures.ok

pub returns-clause-tries : goal.returns-clause-tries
returns-clause-tries g c = λ read reads kept later.
    text_cut g.H.KeyDigest.function _ _ _ _ reads kept later _ _ c.in_ok-load_all.ensures.loads _ c.vault-vault.ensures _ _ c.in_ok-text.ensures.ok _ c.bytes.ensures c.in-Err.ensures.cause.failed c.in-Err.ensures.err
