use Rattle.dv_contents.proofs.Vocabulary.{[], ap, append-nil, inl, inr, keys_read, map, sym, ◌++◌, ◌∙◌, ◌≡◌}
use Rattle.dv_contents.proofs.ContentFacts.{no_keys}
use Rattle.dv_contents.proofs.lenders.Lender.keys.Goals as goal

pub returns : goal.returns
returns c =
    let ended : keys_read c.args.self.now.vault.now.mapping c.args.self.now.vault.now.tables c.loop-hub.hub-iterator.a.rest.now c.loop-hub.hub-iterator.b.rest.now ≡ [] = elim c.in-None.ensures.steps [
      | inl (x, both) ↦ no_keys c.args.self.now.vault.now.mapping c.args.self.now.vault.now.tables _ _ (inl both.0)
      | inr (x, both) ↦ no_keys c.args.self.now.vault.now.mapping c.args.self.now.vault.now.tables _ _ (inr both.0)
    ] in
    sym (append-nil (map (λ key. key.now) c.loop-hub.keys)) ∙ ap (λ l. map (λ key. key.now) c.loop-hub.keys ++ l) (sym ended) ∙ c.loop-hub.invariant.0
