use Rattle.dv_bridge.proofs.Vocabulary.{joined_rows, length, most_path_rows, take, ◌≡◌, ◌≤◌}
use Rattle.dv_bridge.proofs.joins.joined.Given as goal

-- the rows so far are joined, and they are not too many
abbrev pub invariant-loop-row : goal.invariant-loop-row
invariant-loop-row l = record {
  rows : l.made ≡ joined_rows l.place l.links (take l.row-index l.rows);
  few : length l.made ≤ most_path_rows;
}
