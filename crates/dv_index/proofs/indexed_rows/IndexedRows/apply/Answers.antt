use Rattle.dv_index.proofs.Vocabulary.{ap, arith, length, length-append, sym, take_at, ◌+◌, ◌∙◌}
use Rattle.dv_index.proofs.Runs.{none_more, runs_length, some_more}
use Rattle.dv_index.proofs.indexed_rows.IndexedRows.apply.Goals as goal

pub grow_runs-requires-clause-fewer : goal.grow_runs-requires-clause-fewer
grow_runs-requires-clause-fewer g c =
    let self = c.self.inside in
    omega (arith, runs_length g.R.Placed.place self.rows.items self.index.items self.recent.items c.self.invariant.0, ap length (c.deref.ensures.value ∙ c.append_within.ensures), length-append self.rows.items c.args.rows)

pub grow_runs-requires-clause-runs : goal.grow_runs-requires-clause-runs
grow_runs-requires-clause-runs g c =
    let self = c.self.inside in
    let long = runs_length g.R.Placed.place self.rows.items self.index.items self.recent.items c.self.invariant.0 in
    rw (c.deref.ensures.value ∙ c.append_within.ensures, take_at self.rows.items c.args.rows (length self.index.items + length self.recent.items) (sym long)) c.self.invariant.0

pub grow_runs-requires-clause-room : goal.grow_runs-requires-clause-room
grow_runs-requires-clause-room g c =
    let self = c.self.inside in
    let room = rw (← c.self.view_is) at c.requires.room in
    let some = some_more c.args.rows (rw c.items.ensures at (sym c.is_empty.ensures ∙ c.if-is_empty.false)) in
    omega (arith, room, some, ap length (c.deref.ensures.value ∙ c.append_within.ensures), length-append self.rows.items c.args.rows)

pub grow_runs-requires-clause-arrivals_room : goal.grow_runs-requires-clause-arrivals_room
grow_runs-requires-clause-arrivals_room g c =
    let self = c.self.inside in
    let room = rw (← c.self.view_is) at c.requires.room in
    let some = some_more c.args.rows (rw c.items.ensures at (sym c.is_empty.ensures ∙ c.if-is_empty.false)) in
    omega (arith, room, some, runs_length g.R.Placed.place self.rows.items self.index.items self.recent.items c.self.invariant.0, ap length (c.deref.ensures.value ∙ c.append_within.ensures), length-append self.rows.items c.args.rows)

pub returns-then-is_empty : goal.returns-then-is_empty
returns-then-is_empty g c = none_more c.args.self.now.rows c.args.rows (rw c.items.ensures at (sym c.is_empty.ensures ∙ c.if-is_empty.true))
