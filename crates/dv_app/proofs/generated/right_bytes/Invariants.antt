use Rattle.dv_app.proofs.Vocabulary.{codes, flat_map, range_with_len, right_line, ◌++◌, ◌≡◌}
use Rattle.dv_app.proofs.generated.right_bytes.Given as goal

-- the records of the items so far
abbrev pub invariant-loop-item : goal.invariant-loop-item
invariant-loop-item l = l.bytes.items ≡ codes "K,B\n" ++ flat_map right_line (range_with_len 0 l.item)
