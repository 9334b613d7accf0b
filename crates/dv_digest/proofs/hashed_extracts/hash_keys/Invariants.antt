use Rattle.dv_digest.proofs.Vocabulary.{hashes_of, map, take, ◌≡◌}
use Rattle.dv_digest.proofs.hashed_extracts.hash_keys.Given as goal

-- the hash keys of the rows so far
abbrev pub invariant-loop-row : goal.invariant-loop-row
invariant-loop-row g l = l.keys ≡ map (λ row. (hashes_of g.H.KeyDigest.function).hash row.refs) (take l.row-index l.rows)
