use Rattle.dv_records.proofs.Vocabulary.{refl}
use Rattle.dv_records.proofs.SnapshotOrder.{keeps_form}
use Rattle.dv_records.proofs.memory_keepers.MemoryKeeperKeeper.put_snapshot.Goals as goal

pub invariant_of-self-2 : goal.invariant_of-self-2
invariant_of-self-2 c =
    let store = c.args.self.now.store in
    let kept = keeps_form (record { head = c.args.head.now; tables = c.args.tables.now }) store c.args.self.now.well_formed (c.requires store refl) in
    record { well_formed = rw (c.in_ok-insert.ensures.ok, c.in_ok-tables.ensures) kept }
