use Rattle.dv_vault.proofs.Vocabulary.{IsFound, entry_of, hashes_of, map, names_of_hubs, take}
use Rattle.dv_vault.proofs.BatchesSoFar.{SoFar}
use Rattle.dv_vault.proofs.batches.deltas_beside.Given as goal

-- the batches of the tables so far, and what is found of others
abbrev pub invariant-loop-place : goal.invariant-loop-place
invariant-loop-place g l = record {
  so_far : SoFar l.catalog (hashes_of g.H.KeyDigest.function) (names_of_hubs l.names) l.window.window.now (take l.place (map entry_of l.tables)) l.batches;
  found : IsFound l.catalog (hashes_of g.H.KeyDigest.function) (names_of_hubs l.names) l.window.window.now (map entry_of l.tables) l.found;
}
