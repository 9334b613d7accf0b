use Rattle.dv_window.proofs.Vocabulary.{AreFirst, Told, row_count, stored_rows, ◌-◌, ◌≡◌, ◌≤◌}
use Rattle.dv_window.proofs.pages.read_rows.Given as goal

-- the rows read so far
abbrev pub invariant-pages : goal.invariant-pages
invariant-pages g l = record {
  told : Told (g.K.Keeper.store l.keeper) (λ s. AreFirst l.asked.most (stored_rows l.asked s.snapshots) l.rows);
  kept : g.K.Keeper.store l.keeper ≡ g.K.Keeper.store l.initial.keeper;
  later : g.K.Keeper.faults l.initial.keeper ≤ g.K.Keeper.faults l.keeper;
}

abbrev pub decreases-pages : goal.decreases-pages
decreases-pages g l = l.asked.most - row_count l.rows
