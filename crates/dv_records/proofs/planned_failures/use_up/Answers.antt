use Rattle.dv_records.proofs.Vocabulary.{Bool, Fail, ap, arith, is_placed, is_some, placed_within, position, sym, ◌==◌, ◌∙◌}
use Rattle.dv_records.proofs.Plans.{first_removed}
use Rattle.dv_records.proofs.planned_failures.use_up.Goals as goal

abbrev reads : Fail → Bool
reads fail = fail.change == 0

pub remove-requires : goal.remove-requires
remove-requires c = omega (arith, placed_within reads c.args.fails.now c.in-Some.at (ap (position reads) (sym c.items.ensures) ∙ sym c.read_failure.ensures ∙ c.in-Some.is))

pub returns-in-None-clause-was : goal.returns-in-None-clause-was
returns-in-None-clause-was c =
    sym (ap is_some (ap (position reads) (sym c.items.ensures) ∙ sym c.read_failure.ensures ∙ c.in-None.is)) ∙ is_placed reads c.args.fails.now

pub returns-in-Some-clause-was : goal.returns-in-Some-clause-was
returns-in-Some-clause-was c =
    sym (ap is_some (ap (position reads) (sym c.items.ensures) ∙ sym c.read_failure.ensures ∙ c.in-Some.is)) ∙ is_placed reads c.args.fails.now

pub returns-in-Some-clause-used : goal.returns-in-Some-clause-used
returns-in-Some-clause-used c = c.remove.ensures.items ∙ first_removed reads c.args.fails.now c.in-Some.at (ap (position reads) (sym c.items.ensures) ∙ sym c.read_failure.ensures ∙ c.in-Some.is)
