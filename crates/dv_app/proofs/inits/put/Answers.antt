use Rattle.dv_app.proofs.Vocabulary.{Changes, Err, ap, arith, changed, refl, subst, with_mapping, ◌∙◌}
use Rattle.dv_app.proofs.InitSteps.{fault_settled, memory_settled, stored_settled}
use Rattle.dv_records.specs.declared.keepers.KeeperError.TheVariants as errors
use Rattle.dv_app.proofs.inits.put.Goals as goal

pub returns-in_default : goal.returns-in_default
returns-in_default g c = memory_settled _ _ (omega arith) refl

pub returns-in-Ok-put_mapping : goal.returns-in-Ok-put_mapping
returns-in-Ok-put_mapping g c = stored_settled _ _ c.in-Ok-put_mapping.ensures.cause.later c.args.file.now.catalog c.requires.reads c.requires.none
    (c.in-Ok-put_mapping.ensures.change ∙ ap (λ t. changed (with_mapping t) (g.K.Keeper.store c.args.keeper.now)) (c.in-Ok.ensures ∙ c.items.ensures))

pub returns-in-Err-Failed : goal.returns-in-Err-Failed
returns-in-Err-Failed g c = fault_settled _ _ c.in-Err-Failed.ensures.cause.later c.args.file.now.catalog c.requires.reads c.requires.none
    (subst (λ t. Changes {T = Unit {0}} (with_mapping t) (g.K.Keeper.store c.args.keeper.now) (g.K.Keeper.store c.put_mapping.new.self) (Err errors.Failed)) (c.in-Ok.ensures ∙ c.items.ensures)
    (subst (λ e. Changes {T = Unit {0}} (with_mapping c.in-Ok.text) (g.K.Keeper.store c.args.keeper.now) (g.K.Keeper.store c.put_mapping.new.self) (Err e)) c.in-Err-Failed.field-0-is c.in-Err-Failed.ensures.change))
    (c.in-Err-Failed.ensures.cause.failed (ap Err c.in-Err-Failed.field-0-is))
