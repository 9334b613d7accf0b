use Rattle.dv_window_rules.proofs.RowForms.{keyed_told}
use Rattle.dv_window_rules.proofs.row_forms.is_keyed.Goals as goal

pub returns-then-not-are_missing : goal.returns-then-not-are_missing
returns-then-not-are_missing c =
    keyed_told c.args.feed.now c.args.row.now c.are_missing.result c.misses_driver.result (rw c.items-refs.ensures at c.are_missing.ensures) c.if-not-are_missing.true
    (rw c.items-refs.ensures at c.misses_driver.ensures)
