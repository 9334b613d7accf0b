use Rattle.dv_index.proofs.Vocabulary.{filter_map, last_row, map, numbers_of, range_with_len, ◌≡◌}
use Rattle.dv_index.proofs.walks.last_rows.Given as goal

-- those found so far
abbrev pub invariant-loop-place : goal.invariant-loop-place
invariant-loop-place g l = map (λ row. row.now) l.found.items ≡ filter_map (last_row g.R.Placed.place l.rows (numbers_of l.index) l.date) (range_with_len 0 l.place)
