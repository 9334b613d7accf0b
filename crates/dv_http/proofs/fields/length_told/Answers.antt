use Rattle.dv_http.proofs.Vocabulary.{arith, rules, sym, ◌∙◌}
use Rattle.dv_http.proofs.Lengths.{digits_text, past_all}
use Rattle.dv_http.proofs.fields.length_told.Goals as goal

pub returns-in_default : goal.returns-in_default
returns-in_default c = absurd (c.in_default.ensures.cases.0 (digits_text c.args.value.now (sym c.all_digits.ensures ∙ c.if-not-all_digits.false)))

pub returns-in_default-parse-2 : goal.returns-in_default-parse-2
returns-in_default-parse-2 c = past_all c.args.value.now c.in-Ok.text.now (search rules) (sym c.all_digits.ensures ∙ c.if-not-all_digits.false) (grind (arith, c.if-is_empty.false, c.is_empty.ensures)) c.if-value-gt19.false c.in_default-parse.ensures.value.0
