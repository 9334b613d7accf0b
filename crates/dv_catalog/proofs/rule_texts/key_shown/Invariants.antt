use Rattle.dv_catalog.proofs.Vocabulary.{[], flat_map, printed, take, ◌++◌, ◌∷◌, ◌≡◌}
use Rattle.dv_catalog.proofs.rule_texts.key_shown.Given as goal

-- the parts so far
abbrev pub invariant-loop-part : goal.invariant-loop-part
invariant-loop-part l = l.shown.items ≡ flat_map (λ part. 91 ∷ printed part ++ 93 ∷ []) (take l.part-index l.part-items)
