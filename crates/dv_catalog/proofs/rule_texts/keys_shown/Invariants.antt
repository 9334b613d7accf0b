use Rattle.dv_catalog.proofs.Vocabulary.{key_shown, map, take, ◌≡◌}
use Rattle.dv_catalog.proofs.rule_texts.keys_shown.Given as goal

-- the keys so far
abbrev pub invariant-loop-key : goal.invariant-loop-key
invariant-loop-key l = l.shown ≡ map key_shown (take l.key-index l.keys)
