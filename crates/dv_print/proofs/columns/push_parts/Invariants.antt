use Rattle.dv_print.proofs.Vocabulary.{map, numbered, range_with_len, ◌++◌, ◌≡◌}
use Rattle.dv_print.proofs.columns.push_parts.Given as goal

abbrev pub invariant-loop-n : goal.invariant-loop-n
invariant-loop-n l = l.header ≡ l.initial.header ++ map (numbered l.fn.name) (range_with_len 1 l.n)
