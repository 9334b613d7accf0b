use Rattle.dv_store_rules.proofs.Vocabulary.{AreClear, hashes_of, own_of, own_rule, sum_by, take, weight_rule, ◌+◌, ◌≡◌}
use Rattle.dv_store_rules.proofs.row_walks.walk.Given as goal

-- the weight so far; no row so far breaks a rule by itself, or weighs too much
abbrev pub invariant-loop-place : goal.invariant-loop-place
invariant-loop-place g l = record {
  weight : l.sum ≡ l.weight + sum_by g.R.Weighed.weight_of (take l.place l.rows);
  own : AreClear (own_rule g.R.Placed.place g.T.RowRules.order (own_of (g.T.RowRules.early l.rules) g.T.RowRules.hashed (g.T.RowRules.late l.rules) (hashes_of g.H.KeyDigest.function) g.H.KeyDigest.function.width)) l.rows l.place;
  light : AreClear (weight_rule g.R.Weighed.weight_of l.weight) l.rows l.place;
}
