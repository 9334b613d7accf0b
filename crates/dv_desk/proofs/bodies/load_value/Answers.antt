use Rattle.dv_desk.proofs.Vocabulary.{ap, string, ◌∙◌}
use Rattle.dv_desk.proofs.{BodyTexts.view_text, Stamped.stamp_utf8}
use Rattle.dv_desk.proofs.bodies.load_value.Goals as goal

pub returns : goal.returns
returns c =
    view_text c.in_ok-text.text ∙ ap string (c.in_ok-text.ensures.lossy ∙ stamp_utf8 c.print.result c.args.load c.print.ensures.shown c.print.ensures.reads_back c.print.ensures.open)
