use Rattle.dv_bridge.proofs.Vocabulary.{ap, err_from_is_err_and, length, links_at, most_path_rows, next_rows, subst, with_key, ◌<◌, ◌∙◌}
use Rattle.dv_bridge.proofs.JoinSteps.{joined_next}
use Rattle.dv_bridge.proofs.bridges.bridge_step.Goals as goal

pub returns-clause-ok : goal.returns-clause-ok
returns-clause-ok c =
    let told = links_at c.args.links.now.rows c.args.status.now.rows c.args.date in
    (c.in_ok-made.ensures {u = tt}).ok
    ∙ joined_next c.args.right c.deref.result.now c.deref-2.result.now
    (λ key. ap (with_key key) c.deref-2.ensures.value ∙ (c.in_ok-keyed.ensures {u = tt}).stable key)
    c.args.left told (c.deref.ensures.value ∙ c.in_ok-found.ensures) c.items.result.now
    ∙ ap (next_rows c.args.left c.args.right told) c.items.ensures

pub returns-in_err-made-clause-too_large : goal.returns-in_err-made-clause-too_large
returns-in_err-made-clause-too_large c =
    let told = links_at c.args.links.now.rows c.args.status.now.rows c.args.date in
    let p = err_from_is_err_and c.from_residual-in_err-made.result c.from_residual-in_err-made.ensures.1 in
    rw (p.1, p.2)
    (λ large.
    subst (λ rows. most_path_rows < length rows)
    (joined_next c.args.right c.deref.result.now c.deref-2.result.now
    (λ key. ap (with_key key) c.deref-2.ensures.value ∙ (c.in_ok-keyed.ensures {u = tt}).stable key)
    c.args.left told (c.deref.ensures.value ∙ c.in_ok-found.ensures) c.items.result.now
    ∙ ap (next_rows c.args.left c.args.right told) c.items.ensures)
    ((c.in_err-made.ensures {u = tt}).too_large large))
