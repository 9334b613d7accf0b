use Rattle.dv_store_rules.proofs.Vocabulary.{AreFirst, IsTrue, Told, is_of_kind, most_weight, rows_in, rows_weight, ◌+◌, ◌-◌, ◌≡◌, ◌≤◌}
use Rattle.dv_store_rules.proofs.pages.read_rows.Given as goal

-- the rows read so far, and what all that was read weighs
abbrev pub invariant-pages : goal.invariant-pages
invariant-pages g l = record {
  kind : IsTrue (is_of_kind l.table l.rows);
  told : Told (g.K.Keeper.store l.keeper) (λ s. AreFirst l.table (rows_in l.table s.tables) l.rows);
  weight : l.sum ≡ l.weight + rows_weight l.rows;
  kept : g.K.Keeper.store l.keeper ≡ g.K.Keeper.store l.initial.keeper;
  later : g.K.Keeper.faults l.initial.keeper ≤ g.K.Keeper.faults l.keeper;
}

abbrev pub decreases-pages : goal.decreases-pages
decreases-pages g l = most_weight - l.sum
