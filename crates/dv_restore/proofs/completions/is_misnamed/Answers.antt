use Rattle.dv_restore.proofs.Vocabulary.{Bor, Key, ap, option_map, sym, ◌∙◌}
use Rattle.dv_restore.proofs.Misnamed.{other_misnamed, same_named}
use Rattle.dv_restore.proofs.completions.is_misnamed.Goals as goal

pub returns-in_ok-missing_key-in-Some-clause-misnamed : goal.returns-in_ok-missing_key-in-Some-clause-misnamed
returns-in_ok-missing_key-in-Some-clause-misnamed c = λ differs.
    other_misnamed c.args.catalog.now c.args.d.now c.args.hub c.args.rows.now.rows c.in-Some.key.now c.in_ok-missing_key-in-Some.field-0 (sym c.key.ensures ∙ ap (option_map (λ (key : Bor Key). key.now)) c.in-Some.is)
    (c.in_ok-missing_key-in-Some.ensures {u = tt}) (sym c.is_other.ensures ∙ differs)

pub returns-in_ok-missing_key-in-Some-clause-named : goal.returns-in_ok-missing_key-in-Some-clause-named
returns-in_ok-missing_key-in-Some-clause-named c = λ same.
    same_named c.args.catalog.now c.args.d.now c.args.hub c.args.rows.now.rows c.in-Some.key.now c.in_ok-missing_key-in-Some.field-0 (sym c.key.ensures ∙ ap (option_map (λ (key : Bor Key). key.now)) c.in-Some.is)
    (c.in_ok-missing_key-in-Some.ensures {u = tt}) (sym c.is_other.ensures ∙ same)
