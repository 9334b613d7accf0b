use Rattle.dv_contents.proofs.Vocabulary.{filter_map, key_row, zip, ◌++◌, ◌≡◌}
use Rattle.dv_contents.proofs.contents.key_rows.Given as goal

-- the rows so far and those behind them are all
abbrev pub invariant-loop-row : goal.invariant-loop-row
invariant-loop-row l =
    l.rows.items ++ filter_map (λ (row, valid). key_row row valid) (zip l.row-iterator.a.rest.now l.row-iterator.b.rest.now)
    ≡ filter_map (λ (row, valid). key_row row valid) (zip l.found l.valid)
