use Rattle.dv_stage.proofs.Vocabulary.{is_named, length, name_of, placed_within, refl, slice_get_read, sym, ◌∙◌}
use Rattle.dv_stage.proofs.RivalFacts.{rival-first, rival-none}
use Rattle.dv_stage.proofs.taken_rows.TakenRows.rival_at.Goals as goal

pub returns-then-eq : goal.returns-then-eq
returns-then-eq c =
    let rows = c.args.self.now.rows.items in
    let within = placed_within (is_named (name_of c.args.row.now)) rows c.args.first c.requires.first in
    let at = slice_get_read rows (length rows) c.args.first c.index.result.now refl within c.index.ensures in
    sym (rival-none rows c.args.row.now c.args.first c.index.result.now c.requires.taken.apart c.requires.first at (sym c.eq.ensures ∙ c.if-eq.true))

pub returns-else-eq : goal.returns-else-eq
returns-else-eq c =
    let rows = c.args.self.now.rows.items in
    let within = placed_within (is_named (name_of c.args.row.now)) rows c.args.first c.requires.first in
    let at = slice_get_read rows (length rows) c.args.first c.index.result.now refl within c.index.ensures in
    sym (rival-first rows c.args.row.now c.args.first c.index.result.now c.requires.first at (sym c.eq.ensures ∙ c.if-eq.false))
