use Rattle.dv_http.proofs.Vocabulary.{drop, path_of, query_of, take, ◌++◌, ◌≡◌}
use Rattle.dv_http.proofs.targets.split.Given as goal

abbrev pub invariant-loop-at : goal.invariant-loop-at
invariant-loop-at l = record {
  path : take l.at l.target ++ path_of (drop l.at l.target) ≡ path_of l.target;
  query : query_of (drop l.at l.target) ≡ query_of l.target;
}
