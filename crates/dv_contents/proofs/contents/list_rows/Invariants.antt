use Rattle.dv_contents.proofs.Vocabulary.{filter_map, list_row, zip, ◌++◌, ◌≡◌}
use Rattle.dv_contents.proofs.contents.list_rows.Given as goal

-- the rows so far and those behind them are all
abbrev pub invariant-loop-row : goal.invariant-loop-row
invariant-loop-row l =
    l.rows.items ++ filter_map (λ (row, valid). list_row l.lender.vault.now.mapping l.lender.vault.now.tables l.hubs row valid) (zip l.row-iterator.a.rest.now l.row-iterator.b.rest.now)
    ≡ filter_map (λ (row, valid). list_row l.lender.vault.now.mapping l.lender.vault.now.tables l.hubs row valid) (zip l.found l.valid)
