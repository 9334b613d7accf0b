use Rattle.dv_mart.proofs.Vocabulary.{Bor, Key, List, [], ap, append-nil, inl, inr, keys_read, map, no_keys, sym, ◌++◌, ◌∙◌, ◌≡◌}
use Rattle.dv_mart.proofs.path_keys.keys_of.Goals as goal

pub returns : goal.returns
returns c =
    let mapping = c.args.vault.now.mapping in
    let tables = c.args.vault.now.tables in
    let told : List Key = map (λ (key : Bor Key). key.now) c.loop-hub.keys in
    let ended : keys_read mapping tables c.loop-hub.hub-iterator.a.rest.now c.loop-hub.hub-iterator.b.rest.now ≡ [] = elim c.in-None.ensures.steps [
      | inl (x, both) ↦ no_keys mapping tables _ _ (inl both.0)
      | inr (x, both) ↦ no_keys mapping tables _ _ (inr both.0)
    ] in
    sym (append-nil told) ∙ ap (λ l. told ++ l) (sym ended) ∙ c.loop-hub.invariant.0
