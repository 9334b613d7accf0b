use Rattle.dv_records.proofs.Vocabulary.{and_from, and_parts, are_apart, are_snapshots_in_order, have_kinds, refl, ◌&&◌}
use Rattle.dv_records.proofs.WellFormedTables.{well_formed-appended_to}
use Rattle.dv_records.proofs.memory_keepers.MemoryKeeperKeeper.append.Goals as goal

pub invariant_of-self-2 : goal.invariant_of-self-2
invariant_of-self-2 c =
    let store = c.args.self.now.store in
    let parts = and_parts (are_apart store.tables && have_kinds store.tables) (are_snapshots_in_order store.snapshots) c.args.self.now.well_formed in
    let kept = well_formed-appended_to c.args.table c.args.rows.now store.tables c.requires.given (c.requires.stored store refl) parts.0 in
    record { well_formed = rw (c.in_ok-append.ensures.ok, c.in_ok-rows.ensures) (and_from _ _ kept parts.1) }
