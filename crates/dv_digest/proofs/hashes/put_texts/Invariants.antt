use Rattle.dv_digest.proofs.Vocabulary.{flat_map, take, ◌++◌, ◌∷◌, ◌≡◌}
use Rattle.dv_digest.proofs.hashes.put_texts.Given as goal

-- the first text, and the texts so far behind semicolons
abbrev pub invariant-loop-text : goal.invariant-loop-text
invariant-loop-text l = l.room ≡ l.initial.room ++ flat_map (λ text. 59 ∷ text) (take l.text-index l.rest)
