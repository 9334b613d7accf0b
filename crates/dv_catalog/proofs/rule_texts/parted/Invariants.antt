use Rattle.dv_catalog.proofs.Vocabulary.{join_with_byte, take, ◌∷◌, ◌≡◌}
use Rattle.dv_catalog.proofs.rule_texts.parted.Given as goal

-- the texts so far, parted
abbrev pub invariant-loop-text : goal.invariant-loop-text
invariant-loop-text l = l.made.items ≡ join_with_byte 47 (l.initial.made.items ∷ take l.text-index l.rest)
