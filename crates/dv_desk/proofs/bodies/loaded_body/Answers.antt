use Rattle.dv_desk.proofs.Vocabulary.{IfOk-weaker, ap, codes, compact_text, has_float, ◌∙◌}
use Rattle.dv_desk.proofs.BodyTexts.{told, written_rows}
use Rattle.dv_desk.proofs.bodies.loaded_body.Goals as goal

pub text_of-requires : goal.text_of-requires
text_of-requires c = ap has_float (c.in_ok-value.ensures ∙ ap (told (codes "rows") (codes "Loaded")) c.from.ensures)

pub returns : goal.returns
returns c = IfOk-weaker c.text_of.result _ _ (λ s e. e ∙ ap compact_text (c.in_ok-value.ensures ∙ ap (told (codes "rows") (codes "Loaded")) c.from.ensures) ∙ written_rows c.args.rows) c.text_of.ensures
