use Rattle.dv_stage.proofs.Vocabulary.{sym, ◌∙◌}
use Rattle.dv_stage.proofs.RivalFacts.{taken_more}
use Rattle.dv_stage.proofs.taken_rows.TakenRows.take.Goals as goal

pub returns-in_ok-push-in-None-clause-taken : goal.returns-in_ok-push-in-None-clause-taken
returns-in_ok-push-in-None-clause-taken c _ =
    let rows = rw c.in_ok-rival.ensures.rows at c.in_ok-push-in-None.ensures.items in
    let none = sym c.in_ok-rival.ensures.rival ∙ c.in-None.is in
    taken_more c.args.self.now (record { rows = c.push.new.self; firsts = c.note.new.self.firsts; bare = c.note.new.self.bare }) c.args.row c.requires.taken rows c.in_ok-rival.ensures.bare none
    (c.in_ok-rival.ensures.firsts c.in-None.is) c.requires.bare
