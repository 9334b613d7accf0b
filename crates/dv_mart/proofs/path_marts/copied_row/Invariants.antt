use Rattle.dv_mart.proofs.Vocabulary.{Bor, KeyedRow, map, steps_along, take, ◌≡◌}
use Rattle.dv_mart.proofs.path_marts.copied_row.Given as goal

-- the reference lists of the first links
abbrev pub invariant-loop-link : goal.invariant-loop-link
invariant-loop-link l = l.steps ≡ steps_along (map (λ (link : Bor KeyedRow). link.now) (take l.link-index l.links))
