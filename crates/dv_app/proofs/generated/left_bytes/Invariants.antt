use Rattle.dv_app.proofs.Vocabulary.{codes, flat_map, left_line, range_with_len, ◌++◌, ◌≡◌}
use Rattle.dv_app.proofs.generated.left_bytes.Given as goal

-- the records of the items so far
abbrev pub invariant-loop-item : goal.invariant-loop-item
invariant-loop-item l = l.bytes.items ≡ codes "K,A\n" ++ flat_map (left_line l.window) (range_with_len 0 l.item)
