use Rattle.dv_desk.proofs.Vocabulary.{IfOk-weaker, ap, compact_text, has_float, ◌∙◌}
use Rattle.dv_desk.proofs.Floatless.{heads_floatless}
use Rattle.dv_desk.proofs.bodies.heads_body.Goals as goal

pub text_of-requires : goal.text_of-requires
text_of-requires c = ap has_float c.in_ok-value.ensures ∙ heads_floatless c.args.catalog.now c.args.sealed.now c.args.begun

pub returns : goal.returns
returns c = IfOk-weaker c.text_of.result _ _ (λ s e. e ∙ ap compact_text c.in_ok-value.ensures) c.text_of.ensures
