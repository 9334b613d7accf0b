use Rattle.dv_desk.proofs.Vocabulary.{map, take, view, ◌≡◌}
use Rattle.dv_desk.specs.Bodies as spec
use Rattle.dv_desk.proofs.bodies.sealed_value.Given as goal

-- the windows so far
abbrev pub invariant-loop-head : goal.invariant-loop-head
invariant-loop-head l = map view l.heads.items ≡ map (spec.head_data l.catalog) (take l.head-index l.sealed)
