use Rattle.dv_mart.proofs.Vocabulary.{Bor, KeyedRow, map, take, way_record, ◌++◌, ◌≡◌}
use Rattle.dv_mart.proofs.path_marts.push_links.Given as goal

-- the parts of the keys of the first links
abbrev pub invariant-loop-link : goal.invariant-loop-link
invariant-loop-link l = l.fields ≡ l.initial.fields ++ way_record (map (λ (link : Bor KeyedRow). link.now) (take l.link-index l.links))
