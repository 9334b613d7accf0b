use Rattle.dv_window_rules.proofs.Vocabulary.{ap, sym, ◌==◌, ◌∙◌}
use Rattle.dv_window_rules.proofs.{RowForms.not_equal, TextForms.not_trimmed, TextForms.trimmed_last}
use Rattle.dv_window_rules.proofs.text_forms.is_trimmed.Goals as goal

pub returns-then-leading-eq0 : goal.returns-then-leading-eq0
returns-then-leading-eq0 c = ap (λ n. n == 0) c.trailing.ensures ∙ trimmed_last c.args.text.now (sym c.leading.ensures ∙ c.if-leading-eq0.true)

pub returns-else-leading-eq0 : goal.returns-else-leading-eq0
returns-else-leading-eq0 c = not_equal c.leading.result 0 c.if-leading-eq0.false ∙ not_trimmed c.args.text.now (λ e. c.if-leading-eq0.false (c.leading.ensures ∙ e))
