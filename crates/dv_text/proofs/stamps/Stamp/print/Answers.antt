use Rattle.dv_text.proofs.Vocabulary.{ap, eqb-true, stamp_text, sym, ◌∙◌}
use Rattle.dv_text.proofs.Shown.{stamp_text-open}
use Rattle.dv_text.proofs.stamps.Stamp.print.Goals as goal

pub returns-then-is_open-clause-shown : goal.returns-then-is_open-clause-shown
returns-then-is_open-clause-shown c = sym (ap stamp_text (eqb-true _ _ (sym c.is_open.ensures ∙ c.if-is_open.true)) ∙ stamp_text-open)
