use Rattle.dv_hub_link.proofs.Vocabulary.{hashes_of, link_row, map, take, told, ◌≡◌}
use Rattle.dv_hub_link.proofs.link_rows.link_rows.Given as goal

abbrev pub invariant-loop-list : goal.invariant-loop-list
invariant-loop-list g l = l.rows ≡ map (λ list. link_row l.catalog (hashes_of g.H.KeyDigest.function) l.load (told list)) (take l.list-index l.lists)
