use Rattle.dv_print.proofs.Vocabulary.{codes, decimal, map, range_with_len, raw_header, ◌++◌, ◌≡◌}
use Rattle.dv_print.proofs.table_texts.hub_header.Given as goal

abbrev pub invariant-loop-n : goal.invariant-loop-n
invariant-loop-n l = l.header ≡ raw_header (map (λ n. codes "part_" ++ decimal n) (range_with_len 1 l.n))
