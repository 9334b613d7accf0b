use Rattle.dv_window.proofs.Vocabulary.{IfOk-weaker, IsDamageOf, IsRowOf, IsTextOf, Mapping, SnapshotQuery, Told, ap, sym, ℕ, ◌∙◌}
use Rattle.dv_window.specs.StoredRows.{head_at}
use Rattle.dv_window.proofs.StateTexts.{asked_alike, text_stands, undamaged}
use Rattle.dv_window.proofs.stored_texts.stored_text.Goals as goal

pub returns-else-matches-clause-damaged : goal.returns-else-matches-clause-damaged
returns-else-matches-clause-damaged g c = λ damage is s e. record {
  head = c.in-Some.head;
  head_is = ap (head_at c.args.date) (sym (c.items.ensures ∙ c.snapshots.ensures.value)) ∙ sym c.in-Some.ensures;
  damage_is = asked_alike (λ (m : Mapping) (w : ℕ) (a : SnapshotQuery). IsDamageOf m w a s.snapshots damage) _ _ _ _ _ _ c.catalog.ensures.value c.width.ensures c.asked_of-asked.ensures (c.asked_text-text.ensures.damaged damage is s e);
}

pub returns-else-matches-clause-formed : goal.returns-else-matches-clause-formed
returns-else-matches-clause-formed g c = λ damage is.
    asked_alike (λ (m : Mapping) (w : ℕ) (a : SnapshotQuery). IsRowOf m a.id damage) _ _ _ _ _ _ c.catalog.ensures.value c.width.ensures c.asked_of-asked.ensures (c.asked_text-text.ensures.formed damage is)

pub returns-else-matches-clause-state : goal.returns-else-matches-clause-state
returns-else-matches-clause-state g c =
    IfOk-weaker c.asked_text-text.result (λ text. Told (g.K.Keeper.store c.args.keeper.now) (λ s. IsTextOf c.catalog.result.now c.width.result c.asked_of-asked.result s.snapshots text)) _
    (λ text told hashes state store e in_state.
    text_stands hashes state c.args.office.now store in_state c.requires.fresh c.args.id c.args.date c.requires.table text
    (record {
      head = c.in-Some.head;
      head_is = ap (head_at c.args.date) (sym (c.items.ensures ∙ c.snapshots.ensures.value)) ∙ sym c.in-Some.ensures;
      text_is = asked_alike (λ (m : Mapping) (w : ℕ) (a : SnapshotQuery). IsTextOf m w a store.snapshots text) _ _ _ _ _ _ c.catalog.ensures.value c.width.ensures c.asked_of-asked.ensures (told store e);
    }))
    c.asked_text-text.ensures.text

pub returns-else-matches-clause-undamaged : goal.returns-else-matches-clause-undamaged
returns-else-matches-clause-undamaged g c = λ damage is hashes state store e in_state wide.
    undamaged hashes state c.args.office.now store in_state c.requires.fresh c.args.id c.args.date c.requires.table damage (returns-else-matches-clause-damaged g c damage is store e) wide
