use Rattle.dv_restore.proofs.Vocabulary.{AreGathered, hashes_of, known_first, take, ◌≡◌, ◌≤◌}
use Rattle.dv_restore.proofs.readings.gather.Given as goal

-- the tables so far
abbrev pub invariant-loop-id : goal.invariant-loop-id
invariant-loop-id g l = record {
  gathered : AreGathered (known_first l.catalog (hashes_of g.H.KeyDigest.function) g.H.KeyDigest.function.width l.heads) (g.K.Keeper.store l.initial.keeper) (take l.id-index l.ids) l.id-index l.gathered;
  kept : g.K.Keeper.store l.keeper ≡ g.K.Keeper.store l.initial.keeper;
  later : g.K.Keeper.faults l.initial.keeper ≤ g.K.Keeper.faults l.keeper;
}
