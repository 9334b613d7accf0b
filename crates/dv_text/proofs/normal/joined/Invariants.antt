use Rattle.dv_text.proofs.Vocabulary.{join_with_byte, take, ◌∷◌, ◌≡◌}
use Rattle.dv_text.proofs.normal.joined.Given as goal

-- the parts so far, joined
abbrev pub invariant-loop-part : goal.invariant-loop-part
invariant-loop-part l = l.made.items ≡ join_with_byte 59 (l.initial.made.items ∷ take l.part-index l.rest)
