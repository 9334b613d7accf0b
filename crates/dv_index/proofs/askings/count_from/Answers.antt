use Rattle.dv_index.proofs.Vocabulary.{arith, is_entry_reached, loads_of, parents_of, sym, ◌+◌, ◌∙◌}
use Rattle.dv_index.proofs.{EntryOrder.no_entry, Reached.entries_parted, Reached.narrowed_down, Reached.narrowed_first, Reached.narrowed_last, Reached.narrowed_up, Reached.numbers_point}
use Rattle.dv_index.proofs.askings.count_from.Goals as goal

pub loop-low-init : goal.loop-low-init
loop-low-init g c =
    let p = is_entry_reached (parents_of g.R.Placed.place c.args.rows.now) (loads_of g.R.Placed.place c.args.rows.now) c.args.parent.now c.args.prefix c.args.date in
    record { from = omega arith; narrowed = narrowed_first p c.args.index.now c.args.start c.requires.within c.requires.reached }

pub loop-low-preserved-then-is_entry_reached : goal.loop-low-preserved-then-is_entry_reached
loop-low-preserved-then-is_entry_reached g c =
    let p = is_entry_reached (parents_of g.R.Placed.place c.args.rows.now) (loads_of g.R.Placed.place c.args.rows.now) c.args.parent.now c.args.prefix c.args.date in
    let parted = entries_parted g.R.Placed.place c.args.rows.now c.args.index.now c.requires.index c.args.parent.now c.args.prefix c.args.date c.requires.wide c.requires.prefix c.requires.order in
    record {
      from = omega (arith, c.loop-low.invariant.from);
      narrowed =
          narrowed_up p c.args.index.now parted c.loop-low.low c.loop-low.high (c.loop-low.low + c.min.result) c.loop-low.invariant.narrowed (omega arith) (omega arith) no_entry
          (sym c.is_entry_reached.ensures ∙ c.if-is_entry_reached.true);
    }

pub loop-low-preserved : goal.loop-low-preserved
loop-low-preserved g c =
    let p = is_entry_reached (parents_of g.R.Placed.place c.args.rows.now) (loads_of g.R.Placed.place c.args.rows.now) c.args.parent.now c.args.prefix c.args.date in
    let parted = entries_parted g.R.Placed.place c.args.rows.now c.args.index.now c.requires.index c.args.parent.now c.args.prefix c.args.date c.requires.wide c.requires.prefix c.requires.order in
    record {
      from = c.loop-low.invariant.from;
      narrowed =
          narrowed_down p c.args.index.now parted c.loop-low.low c.loop-low.high (c.loop-low.low + c.min.result) c.loop-low.invariant.narrowed (omega arith) (omega arith) no_entry
          (sym c.is_entry_reached.ensures ∙ c.if-is_entry_reached.false);
    }

pub returns-clause-point : goal.returns-clause-point
returns-clause-point g c =
    let p = is_entry_reached (parents_of g.R.Placed.place c.args.rows.now) (loads_of g.R.Placed.place c.args.rows.now) c.args.parent.now c.args.prefix c.args.date in
    let n = c.loop-low.invariant.narrowed in
    numbers_point g.R.Placed.place c.args.rows.now c.args.index.now c.requires.index c.args.parent.now c.args.prefix c.args.date c.requires.wide c.requires.prefix c.loop-low.low (omega (arith, n.order, n.bound))
    (narrowed_last p c.args.index.now c.loop-low.low c.loop-low.high n (omega arith))
