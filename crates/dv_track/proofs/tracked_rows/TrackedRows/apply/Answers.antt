use Rattle.dv_track.proofs.Vocabulary.{ap, arith, length, length-map, parents_of, refl, ◌++◌, ◌∙◌, ◌≡◌}
use Rattle.dv_track.proofs.Presence.{kept_ascend, updated_there}
use Rattle.dv_track.proofs.tracked_rows.TrackedRows.apply.Goals as goal

pub update-requires-clause-order : goal.update-requires-clause-order
update-requires-clause-order g c =
    let up = rw (c.rows.ensures, c.apply.ensures) at c.last_load-last.ensures in
    kept_ascend g.R.Placed.place g.R.Telling.says g.R.Telling.nothing c.self.inside.indexed.rows c.args.rows c.self.inside.present.items c.last_load-last.result c.self.invariant.0 up

pub update-requires-clause-room : goal.update-requires-clause-room
update-requires-clause-room g c =
    let touched : c.put_parents.new.parents.items ≡ parents_of g.R.Placed.place c.args.rows = c.put_parents.ensures ∙ rw (c.self.invariant.1, c.items.ensures) refl in
    let long = ap length touched ∙ length-map c.args.rows (λ row. (g.R.Placed.place row).parent) in
    let room = rw (← c.self.view_is) at c.requires.room in
    omega (arith, room, long)

pub invariant_of-self : goal.invariant_of-self
invariant_of-self g c =
    let all : c.apply.new.self.rows ≡ c.self.inside.indexed.rows ++ c.args.rows = c.apply.ensures in
    let touched : c.put_parents.new.parents.items ≡ parents_of g.R.Placed.place c.args.rows = c.put_parents.ensures ∙ rw (c.self.invariant.1, c.items.ensures) refl in
    let up = rw (c.rows.ensures, all) at c.last_load-last.ensures in (
      λ date early.
          c.update.ensures.present
          ∙ rw (touched, all)
          (updated_there g.R.Placed.place g.R.Telling.says g.R.Telling.nothing c.self.inside.indexed.rows c.args.rows c.self.inside.present.items c.last_load-last.result c.self.invariant.0 up date (rw all at early)),
      c.update.ensures.touched,
    )
