use Rattle.dv_pit.proofs.Vocabulary.{HubRow, filter, map, nat_le, take, ◌≡◌}
use Rattle.dv_pit.proofs.keys.keys_of.Given as goal

-- the hash keys of the rows so far
abbrev pub invariant-loop-row : goal.invariant-loop-row
invariant-loop-row l = l.keys ≡ map (λ (row : HubRow). row.digest) (filter (λ (row : HubRow). nat_le row.load l.date) (take l.row-index l.rows))
