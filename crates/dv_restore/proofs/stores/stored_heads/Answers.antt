use Rattle.dv_restore.proofs.Vocabulary.{IsNamed, subst, sym, ◌∙◌, ◌≡◌}
use Rattle.dv_restore.proofs.NamedDamages.{windows_named}
use Rattle.dv_restore.proofs.stores.stored_heads.Goals as goal

pub returns-in_ok-damage-in-Some-clause-formed : goal.returns-in_ok-damage-in-Some-clause-formed
returns-in_ok-damage-in-Some-clause-formed g c damage e =
    let same : c.in_ok-damage-in-Some.field-0 ≡ damage = cc in
    subst (IsNamed c.args.catalog.now) (sym c.in_ok-damage-in-Some.ensures ∙ same) (windows_named c.args.catalog.now c.items.result.now c.in-Some.flaw (sym c.head_flaw.ensures ∙ c.in-Some.is))
