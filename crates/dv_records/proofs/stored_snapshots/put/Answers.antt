use Rattle.dv_records.proofs.Vocabulary.{Snap, and_parts, ap, are_snap_tables_apart, insert, list_any, nat_le, not, not-true, place_or_len, ◌==◌, ◌∙◌}
use Rattle.dv_records.proofs.SnapshotOrder.{in_place}
use Rattle.dv_records.proofs.stored_snapshots.put.Goals as goal

pub returns-clause-ok : goal.returns-clause-ok
returns-clause-ok c =
    let snap : Snap = record { head = c.args.head; tables = c.args.tables } in
    let snaps = c.args.snaps.now.items in
    let (absent, apart) = and_parts (not (list_any (λ (other : Snap). other.head.date == snap.head.date) snaps)) (are_snap_tables_apart snap.tables) c.requires in
    let at = rw c.deref.ensures.value at c.place_of-at.ensures in
    c.in_ok-insert.ensures.items
    ∙ ap (λ k. insert snaps k snap) (at ∙ place_or_len (λ (other : Snap). nat_le snap.head.date other.head.date) snaps)
    ∙ in_place (λ (other : Snap). other.head.date) snap snaps (not-true (list_any (λ (other : Snap). other.head.date == snap.head.date) snaps) absent)
