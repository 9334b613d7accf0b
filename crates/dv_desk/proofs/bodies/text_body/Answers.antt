use Rattle.dv_desk.proofs.Vocabulary.{IfOk-weaker, ap, codes, compact_text, has_float, string, utf8_lossy, ◌∙◌}
use Rattle.dv_desk.proofs.BodyTexts.{told, view_text, written_text}
use Rattle.dv_desk.proofs.bodies.text_body.Goals as goal

pub text_of-requires : goal.text_of-requires
text_of-requires c = ap has_float (c.in_ok-value.ensures ∙ ap (told (codes "text") c.args.name.now) (view_text c.in_ok-text.text ∙ ap string c.in_ok-text.ensures.lossy))

pub returns : goal.returns
returns c = IfOk-weaker c.text_of.result _ _ (λ s e. e
    ∙ ap compact_text (c.in_ok-value.ensures ∙ ap (told (codes "text") c.args.name.now) (view_text c.in_ok-text.text ∙ ap string c.in_ok-text.ensures.lossy))
    ∙ written_text c.args.name.now (utf8_lossy c.args.text.now)) c.text_of.ensures
