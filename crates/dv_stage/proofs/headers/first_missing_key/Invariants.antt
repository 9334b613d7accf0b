use Rattle.dv_stage.proofs.Vocabulary.{List, drop, find, flat_map, is_among, not, ℕ, ◌≡◌}
use Rattle.dv_stage.proofs.headers.first_missing_key.Given as goal

abbrev pub invariant-loop-columns : goal.invariant-loop-columns
invariant-loop-columns l =
    find (λ (column : List ℕ). not (is_among l.names column)) (flat_map (λ columns. columns) (drop l.columns-index l.keys))
    ≡ find (λ (column : List ℕ). not (is_among l.names column)) (flat_map (λ columns. columns) l.keys)
