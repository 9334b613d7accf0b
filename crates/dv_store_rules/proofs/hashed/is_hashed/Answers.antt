use Rattle.dv_store_rules.proofs.Vocabulary.{[], attrs_text_fits, refs_text_fits, ◌∷◌, ◌≡◌}
use Rattle.dv_store_rules.proofs.hashed.is_hashed.Goals as goal

pub hash_key-requires-after_bounds : goal.hash_key-requires-after_bounds
hash_key-requires-after_bounds g c κs within =
    let one : c.from_ref.result.now ≡ c.in-Key.key.now ∷ [] = c.from_ref.ensures.value in
    rw one (refs_text_fits (c.in-Key.key.now ∷ []) (rw c.in-Key.is at c.requires))

pub hash_diff-requires-after_bounds : goal.hash_diff-requires-after_bounds
hash_diff-requires-after_bounds g c κs within = attrs_text_fits c.in-Diff.attrs.now (rw c.in-Diff.is at c.requires)
