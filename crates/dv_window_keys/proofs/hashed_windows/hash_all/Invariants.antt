use Rattle.dv_window_keys.proofs.Vocabulary.{All, HasKeys, hashes_of, map, take, ◌≡◌}
use Rattle.dv_window_keys.proofs.hashed_windows.hash_all.Given as goal

-- the extracts so far are the first ones, with their keys
abbrev pub invariant-loop-staged : goal.invariant-loop-staged
invariant-loop-staged g l =
    (map (λ extract. extract.staged.now) l.made ≡ take l.staged-index l.extracts) × All (HasKeys (hashes_of g.H.KeyDigest.function)) l.made
