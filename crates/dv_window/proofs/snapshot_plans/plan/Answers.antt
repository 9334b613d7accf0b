use Rattle.dv_window.proofs.Vocabulary.{Err, ap, early_refusal, snap_head, sym, ◌∙◌}
use Rattle.dv_window.proofs.PlannedSnapshots.{refused_by_path, refused_early, refused_late, snapshot_is}
use Rattle.dv_window.proofs.snapshot_plans.plan.Goals as goal

pub returns-in-Some-clause-state : goal.returns-in-Some-clause-state
returns-in-Some-clause-state c hashes state zero of =
    let vault = c.args.vault.now in
    let heads = c.args.heads.now in
    let early = ap (λ last. early_refusal last heads c.args.date) (sym c.last.ensures) ∙ sym c.in-Some.ensures in
    refused_early hashes state vault heads c.args.date of c.in-Some.answer early

pub returns-in-Err-TooLarge-clause-state : goal.returns-in-Err-TooLarge-clause-state
returns-in-Err-TooLarge-clause-state c hashes state zero of =
    let early = ap (λ last. early_refusal last c.args.heads.now c.args.date) (sym c.last.ensures) ∙ sym c.early_refusal.ensures ∙ c.in_default.is in
    let path = c.in-Err-TooLarge.path in
    let large = c.in-Err-TooLarge.ensures.too_large path (ap Err c.in-Err-TooLarge.field-0-is) hashes state.sealed zero of.sealed_are in
    rw c.in-Err-TooLarge.path-is (refused_by_path hashes state c.args.vault.now c.args.heads.now c.args.date of path early large)

pub returns-in-Some-2-clause-state : goal.returns-in-Some-2-clause-state
returns-in-Some-2-clause-state c hashes state zero of =
    let early = ap (λ last. early_refusal last c.args.heads.now c.args.date) (sym c.last.ensures) ∙ sym c.early_refusal.ensures ∙ c.in_default.is in
    let tables_are = c.in-Ok.ensures.snapshot hashes state.sealed zero of.sealed_are in
    let none_large = c.in-Ok.ensures.fits hashes state.sealed zero of.sealed_are in
    let head_is = c.in_ok-head.ensures ∙ ap (snap_head c.args.date) c.items.ensures in
    refused_late hashes state c.args.vault.now c.args.heads.now c.args.date of c.in_ok-head.head c.in-Ok.tables tables_are head_is early none_large c.in_ok-answer.field-0 (sym c.in_ok-answer.ensures)
    ∙ c.in-Some-2.is

pub returns-in-None-clause-state : goal.returns-in-None-clause-state
returns-in-None-clause-state c hashes state zero of =
    let early = ap (λ last. early_refusal last c.args.heads.now c.args.date) (sym c.last.ensures) ∙ sym c.early_refusal.ensures ∙ c.in_default.is in
    let tables_are = c.in-Ok.ensures.snapshot hashes state.sealed zero of.sealed_are in
    let none_large = c.in-Ok.ensures.fits hashes state.sealed zero of.sealed_are in
    let head_is = c.in_ok-head.ensures ∙ ap (snap_head c.args.date) c.items.ensures in (
      snapshot_is hashes state c.args.vault.now c.args.heads.now c.args.date of c.in_ok-head.head c.in-Ok.tables tables_are head_is,
      refused_late hashes state c.args.vault.now c.args.heads.now c.args.date of c.in_ok-head.head c.in-Ok.tables tables_are head_is early none_large c.in_ok-answer.field-0 (sym c.in_ok-answer.ensures)
          ∙ c.in-None.is,
    )
