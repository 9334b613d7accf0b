use Rattle.dv_index.proofs.Vocabulary.{arith, sym, ◌∙◌}
use Rattle.dv_index.proofs.{EntryOrder.no_entry, Reached.reached_up_to}
use Rattle.dv_index.proofs.askings.start_at.Goals as goal

pub returns-then-is_entry_reached-clause-reached : goal.returns-then-is_entry_reached-clause-reached
returns-then-is_entry_reached-clause-reached g c =
    reached_up_to g.R.Placed.place c.args.rows.now c.args.index.now c.requires.index c.args.parent.now c.args.prefix c.args.date c.requires.wide c.requires.prefix c.requires.order c.args.hint no_entry (omega arith) c.requires.within
    (sym c.is_entry_reached.ensures ∙ c.if-is_entry_reached.true)
