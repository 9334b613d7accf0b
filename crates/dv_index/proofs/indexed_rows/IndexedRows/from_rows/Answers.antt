use Rattle.dv_index.proofs.Vocabulary.{AreEntries, parents_of}
use Rattle.dv_index.proofs.Runs.{whole_runs}
use Rattle.dv_index.proofs.indexed_rows.IndexedRows.from_rows.Goals as goal

pub invariant_of-result : goal.invariant_of-result
invariant_of-result g c =
    let place = g.R.Placed.place in
    let rows = c.in_ok-rows.rows.items in
    let entries : AreEntries (parents_of place rows) c.complete.new.index.items = rw c.deref.ensures.value at c.complete.ensures in
    (rw c.new.ensures.items (whole_runs place rows c.complete.new.index.items entries), rw c.in_ok-rows.ensures.ok c.requires, c.new-2.ensures.items)
