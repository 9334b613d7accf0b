use Rattle.dv_vault.proofs.Vocabulary.{IsSome, entry_of, map, taken_first, ◌≡◌, ◌≤◌}
use Rattle.dv_vault.proofs.StoreSteps.{TakesParts}
use Rattle.dv_vault.proofs.keeping.append_all.Given as goal

-- the tables so far have got what they lacked
abbrev pub invariant-loop-i : goal.invariant-loop-i
invariant-loop-i g l = record {
  taken : l.parts ≡ taken_first l.i l.initial.parts;
  told : TakesParts (map entry_of l.tables) l.initial.parts l.i (g.K.Keeper.store l.initial.keeper) (g.K.Keeper.store l.keeper);
  stays : IsSome (g.K.Keeper.store l.initial.keeper) → IsSome (g.K.Keeper.store l.keeper);
  later : g.K.Keeper.faults l.initial.keeper ≤ g.K.Keeper.faults l.keeper;
}
