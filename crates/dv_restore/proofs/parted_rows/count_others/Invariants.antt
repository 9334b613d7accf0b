use Rattle.dv_restore.proofs.Vocabulary.{filter, is_of_other, length, take, ◌≡◌, ◌≤◌}
use Rattle.dv_restore.proofs.parted_rows.count_others.Given as goal

-- how many they are so far
abbrev pub invariant-loop-row : goal.invariant-loop-row
invariant-loop-row g l = record {
  is : l.count ≡ length (filter (is_of_other g.R.Placed.place l.load) (take l.row-index l.rows));
  within : l.count ≤ l.row-index;
}
