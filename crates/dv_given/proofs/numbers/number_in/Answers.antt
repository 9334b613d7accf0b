use Rattle.dv_given.proofs.Vocabulary.{sym, ◌∙◌}
use Rattle.dv_given.proofs.NumberSteps.{number_text, some_value, unread}
use Rattle.dv_given.proofs.numbers.number_in.Goals as goal

pub returns-in_default-clause-number : goal.returns-in_default-clause-number
returns-in_default-clause-number c = absurd (c.in_default.ensures.cases.0 (number_text c.args.most c.args.word.now (sym c.is_number.ensures ∙ c.if-not-is_number.false)))

pub returns-in-Ok-parse-clause-some : goal.returns-in-Ok-parse-clause-some
returns-in-Ok-parse-clause-some c = some_value c.args.most c.args.word.now (sym c.is_number.ensures ∙ c.if-not-is_number.false) c.in-Ok.text.now c.in-Ok.ensures.cases.0 _ c.in-Ok-parse.ensures.value.0.1

pub returns-in_default-parse-2-clause-number : goal.returns-in_default-parse-2-clause-number
returns-in_default-parse-2-clause-number c = unread c.args.most c.args.word.now (sym c.is_number.ensures ∙ c.if-not-is_number.false) c.in-Ok.text.now c.in-Ok.ensures.cases.0 c.ranges.most.fits c.in_default-parse.ensures.value.0
