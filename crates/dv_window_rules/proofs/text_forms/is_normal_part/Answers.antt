use Rattle.dv_window_rules.proofs.Vocabulary.{sym, ◌∙◌}
use Rattle.dv_window_rules.proofs.TextForms.{raised_part, untrimmed_part}
use Rattle.dv_window_rules.proofs.text_forms.is_normal_part.Goals as goal

pub returns-then-is_trimmed : goal.returns-then-is_trimmed
returns-then-is_trimmed c = c.is_raised.ensures ∙ raised_part c.args.text.now (sym c.is_trimmed.ensures ∙ c.if-is_trimmed.true)

pub returns-else-is_trimmed : goal.returns-else-is_trimmed
returns-else-is_trimmed c = c.if-is_trimmed.false ∙ untrimmed_part c.args.text.now (sym c.is_trimmed.ensures ∙ c.if-is_trimmed.false)
