use Rattle.dv_store_rules.proofs.Vocabulary.{IfNone, length, subst, ◌∙◌}
use Rattle.dv_store_rules.specs.RowWalks.{AreClear, turn_rule}
use Rattle.dv_store_rules.proofs.row_checks.turn_among.Goals as goal

pub returns-clause-none : goal.returns-clause-none
returns-clause-none g c =
    subst (λ rows. IfNone c.first_turn.result (AreClear (turn_rule g.R.Placed.place (g.S.Succession.fits c.args.turns.now) c.args.rule) rows (length rows))) (c.in_ok-indexed.ensures ∙ c.in_ok-rows.ensures) c.first_turn.ensures.none
