use Rattle.dv_catalog.proofs.Vocabulary.{again_after, bytes_eq, drop, map, take, text_twice, ◌≡◌}
use Rattle.dv_catalog.proofs.lookups.name_again.Given as goal

abbrev pub invariant-loop-i : goal.invariant-loop-i
invariant-loop-i g l =
    again_after bytes_eq (map g.T.Named.name_of (take l.i l.entries)) (map g.T.Named.name_of (drop l.i l.entries)) ≡ text_twice (map g.T.Named.name_of l.entries)
