use Rattle.dv_restore.proofs.Vocabulary.{ap, sym, ◌==◌, ◌∙◌}
use Rattle.dv_restore.proofs.PartedRows.{ends_before, ends_nowhere, up_to_rows}
use Rattle.dv_restore.proofs.parted_rows.ends_at.Goals as goal

pub returns-in-Some : goal.returns-in-Some
returns-in-Some g c = λ no.
    ends_before g.R.Placed.place c.args.load c.args.rows.now c.in-Some.row.now (sym (c.in-Some.ensures {u = tt}).value)
    (ap (λ load. load == c.args.load) (sym c.load.ensures) ∙ sym c.eq.ensures ∙ no) c.requires.order
    (up_to_rows (λ row. (g.R.Placed.place row).load) c.args.load c.args.rows.now c.requires.dated)

pub returns-in-None : goal.returns-in-None
returns-in-None g c = λ no. ends_nowhere g.R.Placed.place c.args.load c.args.rows.now (sym (c.in-None.ensures {u = tt}).value)
