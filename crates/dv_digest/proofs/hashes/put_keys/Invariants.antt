use Rattle.dv_digest.proofs.Vocabulary.{flat_map, key_text, take, ◌++◌, ◌∷◌, ◌≡◌}
use Rattle.dv_digest.proofs.hashes.put_keys.Given as goal

-- the first key's text, and the texts of the keys so far behind semicolons
abbrev pub invariant-loop-key : goal.invariant-loop-key
invariant-loop-key l = l.room ≡ l.initial.room ++ flat_map (λ key. 59 ∷ key_text key) (take l.key-index l.rest)
