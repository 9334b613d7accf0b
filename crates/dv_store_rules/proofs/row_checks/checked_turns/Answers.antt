use Rattle.dv_store_rules.proofs.Vocabulary.{Some, ap, arith, hashes_of, length, or_none, own_of, rules, sym, unwrap_or, ◌+◌, ◌∙◌}
use Rattle.dv_store_rules.proofs.{Turns.turning_broken_or, Turns.turning_clear, Turns.turning_heavy_or, Turns.turning_whole, Chains.all_in_order, Chains.first_in_order}
use Rattle.dv_store_rules.proofs.row_checks.checked_turns.Goals as goal

pub from_rows-requires : goal.from_rows-requires
from_rows-requires g c =
    let (weight, owns, light) = rw c.items.ensures at c.in-Whole.ensures in (
      search rules,
      all_in_order g.R.Placed.place g.T.RowRules.order
          (own_of (g.T.RowRules.early c.args.rules.now) g.T.RowRules.hashed (g.T.RowRules.late c.args.rules.now) (hashes_of g.H.KeyDigest.function) g.H.KeyDigest.function.width)
          (λ row behind none. g.met.T.RowRules.stands c.args.rules.now g.H.KeyDigest.function.width row behind (or_none _ _ none).0)
          c.args.rows owns,
    )

pub turn_among-requires : goal.turn_among-requires
turn_among-requires g c =
    let (under, owns, light, breaks) = rw c.items.ensures at c.in-Broken.ensures in (
      search rules,
      first_in_order g.R.Placed.place g.T.RowRules.order
          (own_of (g.T.RowRules.early c.args.rules.now) g.T.RowRules.hashed (g.T.RowRules.late c.args.rules.now) (hashes_of g.H.KeyDigest.function) g.H.KeyDigest.function.width)
          (λ row behind none. g.met.T.RowRules.stands c.args.rules.now g.H.KeyDigest.function.width row behind (or_none _ _ none).0)
          c.args.rows c.in-Broken.place (omega (arith, under)) owns,
    )

pub turn_among-requires-in-Heavy : goal.turn_among-requires-in-Heavy
turn_among-requires-in-Heavy g c =
    let (under, owns, light, breaks) = rw c.items.ensures at c.in-Heavy.ensures in (
      search rules,
      first_in_order g.R.Placed.place g.T.RowRules.order
          (own_of (g.T.RowRules.early c.args.rules.now) g.T.RowRules.hashed (g.T.RowRules.late c.args.rules.now) (hashes_of g.H.KeyDigest.function) g.H.KeyDigest.function.width)
          (λ row behind none. g.met.T.RowRules.stands c.args.rules.now g.H.KeyDigest.function.width row behind (or_none _ _ none).0)
          c.args.rows (c.in-Heavy.place + 1) (omega (arith, under)) owns,
    )

pub returns-in-None-clause-clear : goal.returns-in-None-clause-clear
returns-in-None-clause-clear g c =
    let (weight, owns, light) = rw c.items.ensures at c.in-Whole.ensures in
    let turns = rw c.in_ok-table-in-Whole.ensures at c.in-None.ensures.none in
    turning_clear g.R.Placed.place g.T.RowRules.order (own_of (g.T.RowRules.early c.args.rules.now) g.T.RowRules.hashed (g.T.RowRules.late c.args.rules.now) (hashes_of g.H.KeyDigest.function) g.H.KeyDigest.function.width)
    (g.S.Succession.fits c.args.turns.now) c.args.rule g.R.Weighed.weight_of c.args.weight c.args.rows (length c.args.rows) owns turns light

pub returns-in-Some-clause-flawed : goal.returns-in-Some-clause-flawed
returns-in-Some-clause-flawed g c =
    let (weight, owns, light) = rw c.items.ensures at c.in-Whole.ensures in
    let first = rw c.in_ok-table-in-Whole.ensures at c.in-Some.ensures.some in
    turning_whole g.R.Placed.place g.T.RowRules.order (own_of (g.T.RowRules.early c.args.rules.now) g.T.RowRules.hashed (g.T.RowRules.late c.args.rules.now) (hashes_of g.H.KeyDigest.function) g.H.KeyDigest.function.width)
    (g.S.Succession.fits c.args.turns.now) c.args.rule g.R.Weighed.weight_of c.args.weight c.args.rows c.in-Some.flaw owns light first

pub returns-in_ok-turn-in-Broken-clause-flawed : goal.returns-in_ok-turn-in-Broken-clause-flawed
returns-in_ok-turn-in-Broken-clause-flawed g c =
    let (under, owns, light, breaks) = rw c.items.ensures at c.in-Broken.ensures in
    turning_broken_or g.R.Placed.place g.T.RowRules.order (own_of (g.T.RowRules.early c.args.rules.now) g.T.RowRules.hashed (g.T.RowRules.late c.args.rules.now) (hashes_of g.H.KeyDigest.function) g.H.KeyDigest.function.width)
    (g.S.Succession.fits c.args.turns.now) c.args.rule g.R.Weighed.weight_of c.args.weight c.args.rows c.in-Broken.place c.in-Broken.own
    c.in_ok-turn-in-Broken.turn under owns light breaks c.in_ok-turn-in-Broken.ensures.none c.in_ok-turn-in-Broken.ensures.some
    ∙ ap (λ flaw. Some (unwrap_or c.in_ok-turn-in-Broken.turn flaw)) (sym c.flaw_at.ensures) ∙ ap Some (sym c.unwrap_or.ensures)

pub returns-in_ok-turn-in-Heavy-clause-flawed : goal.returns-in_ok-turn-in-Heavy-clause-flawed
returns-in_ok-turn-in-Heavy-clause-flawed g c =
    let (under, owns, light, breaks) = rw c.items.ensures at c.in-Heavy.ensures in
    turning_heavy_or g.R.Placed.place g.T.RowRules.order (own_of (g.T.RowRules.early c.args.rules.now) g.T.RowRules.hashed (g.T.RowRules.late c.args.rules.now) (hashes_of g.H.KeyDigest.function) g.H.KeyDigest.function.width)
    (g.S.Succession.fits c.args.turns.now) c.args.rule g.R.Weighed.weight_of c.args.weight c.args.rows c.in-Heavy.place
    c.in_ok-turn-in-Heavy.turn under owns light breaks c.in_ok-turn-in-Heavy.ensures.none c.in_ok-turn-in-Heavy.ensures.some
    ∙ ap (λ flaw. Some (unwrap_or c.in_ok-turn-in-Heavy.turn flaw)) (sym c.flaw_at-in-Heavy.ensures) ∙ ap Some (sym c.unwrap_or-in-Heavy.ensures)
