use Rattle.dv_checks.proofs.Vocabulary.{bytes_eq, drop, find, flat_map, list_any, not, ◌≡◌}
use Rattle.dv_checks.proofs.name_checks.unknown_in_links.Given as goal

abbrev pub invariant-loop-link : goal.invariant-loop-link
invariant-loop-link l =
    find (λ name. not (list_any (λ hub. bytes_eq hub.name name) l.hubs)) (flat_map (λ link. link.hubs) (drop l.link-index l.links))
    ≡ find (λ name. not (list_any (λ hub. bytes_eq hub.name name) l.hubs)) (flat_map (λ link. link.hubs) l.links)
