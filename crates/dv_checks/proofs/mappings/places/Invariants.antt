use Rattle.dv_checks.proofs.Vocabulary.{bytes_eq, map, position_or_len, take, ◌≡◌}
use Rattle.dv_checks.proofs.mappings.places.Given as goal

abbrev pub invariant-loop-name : goal.invariant-loop-name
invariant-loop-name g l =
    l.places ≡ map (λ name. position_or_len (λ entry. bytes_eq (g.T.Named.name_of entry) name) l.entries) (take l.name-index l.names)
