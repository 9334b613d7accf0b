use Rattle.dv_vault.proofs.Vocabulary.{Bool, Contains, Contains-append_cases, Contains-get_or, TableBatch, ap, drop, eqb-true, inl, inr, placed_within, position, position-Some, rules, subst, sym, take, ◌+◌, ◌==◌, ◌∙◌, ◌≡◌}
use Rattle.dv_vault.proofs.ResultFacts.{Contains-drop, Contains-take}
use Rattle.dv_vault.proofs.results.take_batch.Goals as goal

pub remove-requires : goal.remove-requires
remove-requires c =
    let of : TableBatch → Bool = λ batch. batch.place == c.args.place in
    let within = placed_within of c.args.batches.now.items c.in_ok-at.at (ap (position of) (sym c.deref.ensures.value) ∙ sym c.in_ok-at.ensures) in
    search (rules, within)

pub returns-clause-taken : goal.returns-clause-taken
returns-clause-taken c =
    let of : TableBatch → Bool = λ batch. batch.place == c.args.place in
    let batch : TableBatch = c.remove.result in
    let at = c.in_ok-at.at in
    let found = position-Some of c.args.batches.now.items at batch (ap (position of) (sym c.deref.ensures.value) ∙ sym c.in_ok-at.ensures) in
    let value = c.remove.ensures.value in
    let place : batch.place ≡ c.args.place = ap (λ (b : TableBatch). b.place) value ∙ eqb-true _ _ found.1 in
    let member : Contains c.args.batches.now.items batch = subst (Contains c.args.batches.now.items) (sym value) (Contains-get_or c.args.batches.now.items at batch found.0) in
    subst (λ n. Contains c.args.batches.now.items (record { place = n; rows = batch.rows })) place member

pub returns-clause-left : goal.returns-clause-left
returns-clause-left c batch has =
    let at = c.in_ok-at.at in
    let items = c.args.batches.now.items in
    elim (Contains-append_cases (take at items) (drop (at + 1) items) batch (subst (λ all. Contains all batch) c.remove.ensures.by_index.2 has)) [
      | inl first ↦ Contains-take at items batch first
      | inr behind ↦ Contains-drop (at + 1) items batch behind
    ]
