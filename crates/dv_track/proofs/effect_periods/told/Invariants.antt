use Rattle.dv_track.proofs.Vocabulary.{filter, map, nat_le, period_in, take, ◌≡◌}
use Rattle.dv_track.proofs.effect_periods.told.Given as goal

-- what the rows so far tell
abbrev pub invariant-loop-row : goal.invariant-loop-row
invariant-loop-row l = l.made.items ≡ map period_in (filter (λ row. nat_le row.load l.date) (take l.row-index l.rows))
