use Rattle.dv_hub_link.proofs.Vocabulary.{Key, List, ROOM_SIZE, [], length, refs_text, refs_text_fits, subst, sym, ◌∷◌, ◌≤◌}
use Rattle.dv_hub_link.proofs.link_rows.key_hash.Goals as goal

pub hash_key-requires-after_bounds : goal.hash_key-requires-after_bounds
hash_key-requires-after_bounds g c κs within = subst (λ (r : List Key). length (refs_text r) ≤ ROOM_SIZE) (sym c.from_ref.ensures.value) (refs_text_fits (c.args.key.now ∷ []) c.requires)
