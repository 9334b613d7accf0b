use Rattle.dv_window.proofs.Vocabulary.{AreAlike, TellsPage, page, stored_rows, subst, ◌∙◌}
use Rattle.dv_window.proofs.StoredPages.{told_alike}
use Rattle.dv_window.proofs.pages.read_rows.Goals as goal

pub returns-then-not-branch-clause-told : goal.returns-then-not-branch-clause-told
returns-then-not-branch-clause-told g c = λ s e.
    let stored = stored_rows c.args.asked.now s.snapshots in
    let rows = c.take_page.new.rows in
    let asked = page 0 c.args.asked.now.most stored in
    let alike : AreAlike rows asked = subst (TellsPage c.args.asked.now.most stored rows) c.if-not-branch.true (c.in_ok-take_page.ensures.told s (c.pages.invariant.kept ∙ e)) in
    told_alike g.F.RowForm.own (g.F.RowForm.is_sound c.args.form.now) g.met.F.RowForm.counted rows asked alike c.held.result c.held.ensures.told
