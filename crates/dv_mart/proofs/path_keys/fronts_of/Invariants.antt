use Rattle.dv_mart.proofs.Vocabulary.{KeyedRow, keyed_row, map, take, ◌≡◌}
use Rattle.dv_mart.proofs.path_keys.fronts_of.Given as goal

-- the first links
abbrev pub invariant-loop-link : goal.invariant-loop-link
invariant-loop-link l = l.fronts.items ≡ map (λ (link : KeyedRow). keyed_row l.vault.mapping l.vault.tables l.hubs link.row) (take l.link-index l.links)
