use Rattle.dv_bridge.proofs.Vocabulary.{Bor, KeyedRow, LinkRow, flat_map, map, take, ◌≡◌}
use Rattle.dv_bridge.proofs.ways.row_over.Given as goal

-- the hash keys of the links so far, and those of their hubs
abbrev pub invariant-loop-link : goal.invariant-loop-link
invariant-loop-link l = record {
  digests : l.digests ≡ map (λ (row : LinkRow). row.digest) (map (λ (link : KeyedRow). link.row) (map (λ (link : Bor KeyedRow). link.now) (take l.link-index l.links)));
  hubs : l.hubs ≡ flat_map (λ (row : LinkRow). row.hubs) (map (λ (link : KeyedRow). link.row) (map (λ (link : Bor KeyedRow). link.now) (take l.link-index l.links)));
}
