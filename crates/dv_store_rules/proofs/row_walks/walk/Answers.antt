use Rattle.dv_store_rules.proofs.Vocabulary.{None, Some, ap, hashes_of, own_of, own_rule, slice_get-get_or, sym, take, weight_rule, ◌∙◌, ◌≡◌}
use Rattle.dv_store_rules.proofs.{Turns.still_light, Turns.too_heavy, FirstFlaws.clear_more}
use Rattle.dv_store_rules.proofs.row_walks.walk.Goals as goal

pub returns-in_default-added : goal.returns-in_default-added
returns-in_default-added g c =
    let rows = c.args.rows.now in
    let place = c.loop-place.place in
    let row = c.index-rows-place.result in
    let own = own_rule g.R.Placed.place g.T.RowRules.order (own_of (g.T.RowRules.early c.args.rules.now) g.T.RowRules.hashed (g.T.RowRules.late c.args.rules.now) (hashes_of g.H.KeyDigest.function) g.H.KeyDigest.function.width) in
    let there = slice_get-get_or rows place row c.loop-place-test.true ∙ ap Some (sym c.index-rows-place.is) in
    let none : own (take place rows) row ≡ None = rw c.follows-behind.ensures at (sym c.own_rule.ensures ∙ c.in_default.is) in (
      c.loop-place-test.true,
      clear_more own rows place row there none c.loop-place.invariant.own,
      c.loop-place.invariant.light,
      (row, there, too_heavy g.R.Weighed.weight_of c.args.weight rows place c.loop-place.sum row c.loop-place.invariant.weight (sym c.in_default-added.is ∙ c.added.ensures)),
    )

pub loop-place-preserved : goal.loop-place-preserved
loop-place-preserved g c =
    let rows = c.args.rows.now in
    let place = c.loop-place.place in
    let row = c.index-rows-place.result in
    let own = own_rule g.R.Placed.place g.T.RowRules.order (own_of (g.T.RowRules.early c.args.rules.now) g.T.RowRules.hashed (g.T.RowRules.late c.args.rules.now) (hashes_of g.H.KeyDigest.function) g.H.KeyDigest.function.width) in
    let there = slice_get-get_or rows place row c.loop-place-test.true ∙ ap Some (sym c.index-rows-place.is) in
    let none : own (take place rows) row ≡ None = rw c.follows-behind.ensures at (sym c.own_rule.ensures ∙ c.in_default.is) in
    let (light, weight) = still_light g.R.Weighed.weight_of c.args.weight rows place c.loop-place.sum row c.loop-place.invariant.weight c.in-Some-added.more (sym c.in-Some-added.is ∙ c.added.ensures) there in
    record {
      weight = weight;
      own = clear_more own rows place row there none c.loop-place.invariant.own;
      light = clear_more (weight_rule g.R.Weighed.weight_of c.args.weight) rows place row there light c.loop-place.invariant.light;
    }
