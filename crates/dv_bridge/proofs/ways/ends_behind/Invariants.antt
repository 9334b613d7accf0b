use Rattle.dv_bridge.proofs.Vocabulary.{drop, end_of, ends_from, length, links_met, map, most_path_rows, ◌++◌, ◌≡◌, ◌≤◌}
use Rattle.dv_bridge.proofs.ways.ends_behind.Given as goal

-- the ends so far and those that are made behind them are all, and they are not too many
abbrev pub invariant-loop-number : goal.invariant-loop-number
invariant-loop-number l = record {
  all : map end_of l.made ++ ends_from l.number (map (links_met l.place l.links) (drop l.number l.ends)) ≡ ends_from 0 (map (links_met l.place l.links) l.ends);
  few : length l.made ≤ most_path_rows;
}
