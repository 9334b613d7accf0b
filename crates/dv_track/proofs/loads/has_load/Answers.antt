use Rattle.dv_track.proofs.Vocabulary.{StatusRow, last_load, status_cmp, sym, ◌∙◌}
use Rattle.dv_track.proofs.loads.has_load.Goals as goal

pub returns-in-Some : goal.returns-in-Some
returns-in-Some c = c.eq.ensures ∙ last_load (λ (row : StatusRow). row.load) status_cmp c.args.rows.now c.in-Some.row.now c.args.load c.requires.order c.requires.not_later (sym c.in-Some.ensures.value)
