use Rattle.dv_index.proofs.Vocabulary.{arith, not, parents_of, sym, ◌-◌, ◌∙◌}
use Rattle.dv_index.proofs.{EntryOrder.entry_lt, EntryOrder.entry_order, EntryOrder.no_entry, Merging.up_to_first, Reached.narrowed_down, Reached.narrowed_first, Reached.narrowed_last, Reached.narrowed_up}
use Rattle.dv_index.proofs.merges.count_up_to.Goals as goal

pub loop-low-init : goal.loop-low-init
loop-low-init g c =
    let parents = parents_of g.R.Placed.place c.args.rows.now in
    narrowed_first (λ other. not (entry_lt parents c.args.entry other)) c.args.index.now 0 (omega arith) (λ k d under. absurd (omega arith))

pub loop-low-preserved-then-is_up_to : goal.loop-low-preserved-then-is_up_to
loop-low-preserved-then-is_up_to g c =
    let parents = parents_of g.R.Placed.place c.args.rows.now in
    let parted = up_to_first (entry_lt parents) (entry_order parents) c.args.index.now c.args.entry c.requires in
    let n = c.loop-low.invariant in
    narrowed_up (λ other. not (entry_lt parents c.args.entry other)) c.args.index.now parted c.loop-low.low c.loop-low.high (c.loop-low.high - 1 - c.min.result) n
    (omega (arith, n.order)) (omega arith) no_entry (sym c.is_up_to.ensures ∙ c.if-is_up_to.true)

pub loop-low-preserved : goal.loop-low-preserved
loop-low-preserved g c =
    let parents = parents_of g.R.Placed.place c.args.rows.now in
    let parted = up_to_first (entry_lt parents) (entry_order parents) c.args.index.now c.args.entry c.requires in
    let n = c.loop-low.invariant in
    narrowed_down (λ other. not (entry_lt parents c.args.entry other)) c.args.index.now parted c.loop-low.low c.loop-low.high (c.loop-low.high - 1 - c.min.result) n
    (omega (arith, n.order)) (omega arith) no_entry (sym c.is_up_to.ensures ∙ c.if-is_up_to.false)

pub returns-clause-point : goal.returns-clause-point
returns-clause-point g c =
    let parents = parents_of g.R.Placed.place c.args.rows.now in
    let n = c.loop-low.invariant in
    narrowed_last (λ other. not (entry_lt parents c.args.entry other)) c.args.index.now c.loop-low.low c.loop-low.high n (omega arith)
