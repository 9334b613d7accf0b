use Rattle.dv_app.proofs.Vocabulary.{IsMappedAs, Mapping, Option, err_from_is_err_and, read_as, seen, subst, sym, ◌∙◌}
use Rattle.dv_app.proofs.InitSteps.{compared_settled, fault_of, settled_since}
use Rattle.dv_app.proofs.inits.settle.Goals as goal

pub returns-in_err-stored : goal.returns-in_err-stored
returns-in_err-stored g c =
    let p = err_from_is_err_and c.from_residual.result c.from_residual.ensures.1 in
    rw (p.1, p.2) (record {
      is_fault = fault_of (seen g.K.Keeper.store g.K.Keeper.faults c.args.keeper.now c.stored_mapping.new.keeper) _ c.in_err-stored.ensures.damaged c.in_err-stored.ensures.formed c.in_err-stored.ensures.cause;
      left = c.stored_mapping.ensures.store;
      later = c.stored_mapping.ensures.later;
    })

pub returns-in-Some : goal.returns-in-Some
returns-in-Some g c = compared_settled _ _ c.stored_mapping.ensures.later c.args.file.now.catalog c.requires c.stored_mapping.ensures.store c.in-Some.stored
    (λ store at. read_as c.in_ok-stored.field-0 store (c.in_ok-stored.ensures.read store at) c.in-Some.stored c.in-Some.is) _ c.compare.ensures

pub put-requires-clause-none : goal.put-requires-clause-none
put-requires-clause-none g c = λ store at. subst (λ (o : Option Mapping). IsMappedAs o store) c.in-None.is (c.in_ok-stored.ensures.read store (sym c.stored_mapping.ensures.store ∙ at))

pub returns-in-None : goal.returns-in-None
returns-in-None g c = settled_since _ _ _ _ _ c.stored_mapping.ensures.store c.stored_mapping.ensures.later c.put.ensures
