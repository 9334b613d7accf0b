use Rattle.dv_contents.proofs.Vocabulary.{described_row, map, take, ◌++◌, ◌≡◌}
use Rattle.dv_contents.proofs.multi_contents.add_described.Given as goal

-- the rows of the satellite rows so far stand behind those that were there
abbrev pub invariant-loop-row : goal.invariant-loop-row
invariant-loop-row l = l.rows.items ≡ l.fn.rows.items ++ map (described_row (map (λ key. key.now) l.refs)) (take l.row-index l.valid)
