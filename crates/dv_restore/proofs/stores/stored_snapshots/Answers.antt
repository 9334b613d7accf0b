use Rattle.dv_restore.proofs.Vocabulary.{IsNamed, subst, sym, ◌∙◌, ◌≡◌}
use Rattle.dv_restore.proofs.NamedDamages.{snapshot_named}
use Rattle.dv_restore.proofs.stores.stored_snapshots.Goals as goal

pub returns-in_ok-damage-in-Some-clause-formed : goal.returns-in_ok-damage-in-Some-clause-formed
returns-in_ok-damage-in-Some-clause-formed g c damage e mapping =
    let same : c.in_ok-damage-in-Some.field-0 ≡ damage = cc in
    subst (IsNamed mapping) (sym c.in_ok-damage-in-Some.ensures ∙ same) (snapshot_named mapping c.args.heads.now c.items.result.now c.in-Some.flaw (sym c.snapshot_flaw.ensures ∙ c.in-Some.is))
