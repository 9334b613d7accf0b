use Rattle.dv_stage.proofs.Vocabulary.{List, is_among, length, not, refl, slice_get_read, sym, ℕ, ◌∙◌}
use Rattle.dv_stage.proofs.ColumnFacts.{find-flat_map}
use Rattle.dv_stage.proofs.headers.first_missing_key.Goals as goal

pub returns-in-Some : goal.returns-in-Some
returns-in-Some c =
    let test = λ (column : List ℕ). not (is_among c.args.names.now column) in
    let keys = c.args.keys.now in
    let columns = c.columns-item.result in
    let step = find-flat_map test keys c.loop-columns.columns-index columns (slice_get_read keys (length keys) _ columns refl c.loop-columns-test.true c.columns-item.is) in
    sym (rw (rw c.items.ensures at (sym c.in-Some.ensures)) at step) ∙ c.loop-columns.invariant

pub loop-columns-preserved : goal.loop-columns-preserved
loop-columns-preserved c =
    let test = λ (column : List ℕ). not (is_among c.args.names.now column) in
    let keys = c.args.keys.now in
    let columns = c.columns-item.result in
    let step = find-flat_map test keys c.loop-columns.columns-index columns (slice_get_read keys (length keys) _ columns refl c.loop-columns-test.true c.columns-item.is) in
    sym (rw (rw c.items.ensures at (sym c.in-None.ensures)) at step) ∙ c.loop-columns.invariant
