use Rattle.dv_store_rules.proofs.Vocabulary.{Some, ap, hashes_of, length, or_none, own_of, rules, sym, ◌∙◌}
use Rattle.dv_store_rules.proofs.{Turns.plain_broken, Turns.plain_clear, Turns.plain_heavy, Chains.all_in_order}
use Rattle.dv_store_rules.proofs.row_checks.checked_rows.Goals as goal

pub from_rows-requires : goal.from_rows-requires
from_rows-requires g c =
    let (weight, owns, light) = rw c.items.ensures at c.in-Whole.ensures in (
      search rules,
      all_in_order g.R.Placed.place g.T.RowRules.order
          (own_of (g.T.RowRules.early c.args.rules.now) g.T.RowRules.hashed (g.T.RowRules.late c.args.rules.now) (hashes_of g.H.KeyDigest.function) g.H.KeyDigest.function.width)
          (λ row behind none. g.met.T.RowRules.stands c.args.rules.now g.H.KeyDigest.function.width row behind (or_none _ _ none).0)
          c.args.rows owns,
    )

pub returns-in_ok-table-in-Whole-clause-clear : goal.returns-in_ok-table-in-Whole-clause-clear
returns-in_ok-table-in-Whole-clause-clear g c =
    let (weight, owns, light) = rw c.items.ensures at c.in-Whole.ensures in
    plain_clear g.R.Placed.place g.T.RowRules.order (own_of (g.T.RowRules.early c.args.rules.now) g.T.RowRules.hashed (g.T.RowRules.late c.args.rules.now) (hashes_of g.H.KeyDigest.function) g.H.KeyDigest.function.width)
    g.R.Weighed.weight_of c.args.weight c.args.rows (length c.args.rows) owns light

pub returns-in-Broken-clause-flawed : goal.returns-in-Broken-clause-flawed
returns-in-Broken-clause-flawed g c =
    let (under, owns, light, breaks) = rw c.items.ensures at c.in-Broken.ensures in
    plain_broken g.R.Placed.place g.T.RowRules.order (own_of (g.T.RowRules.early c.args.rules.now) g.T.RowRules.hashed (g.T.RowRules.late c.args.rules.now) (hashes_of g.H.KeyDigest.function) g.H.KeyDigest.function.width)
    g.R.Weighed.weight_of c.args.weight c.args.rows c.in-Broken.place c.in-Broken.rule owns light breaks
    ∙ ap Some (sym c.flaw_at.ensures)

pub returns-in-Heavy-clause-flawed : goal.returns-in-Heavy-clause-flawed
returns-in-Heavy-clause-flawed g c =
    let (under, owns, light, breaks) = rw c.items.ensures at c.in-Heavy.ensures in
    plain_heavy g.R.Placed.place g.T.RowRules.order (own_of (g.T.RowRules.early c.args.rules.now) g.T.RowRules.hashed (g.T.RowRules.late c.args.rules.now) (hashes_of g.H.KeyDigest.function) g.H.KeyDigest.function.width)
    g.R.Weighed.weight_of c.args.weight c.args.rows c.in-Heavy.place owns light breaks
    ∙ ap Some (sym c.flaw_at-in-Heavy.ensures)
