use Rattle.dv_pit.proofs.Vocabulary.{bare_row, map, take, ◌≡◌}
use Rattle.dv_pit.proofs.keys.bare_rows.Given as goal

-- a row for each key so far
abbrev pub invariant-loop-key : goal.invariant-loop-key
invariant-loop-key l = l.rows ≡ map bare_row (take l.key-index l.keys)
