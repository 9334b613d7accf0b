use Rattle.dv_mart.proofs.Vocabulary.{Bor, Key, map, take, ◌≡◌}
use Rattle.dv_mart.proofs.path_marts.copied_keys.Given as goal

-- the first keys
abbrev pub invariant-loop-key : goal.invariant-loop-key
invariant-loop-key l = l.made ≡ map (λ (key : Bor Key). key.now) (take l.key-index l.keys)
