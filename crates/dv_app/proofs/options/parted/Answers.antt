use Rattle.dv_app.proofs.Vocabulary.{sym, ◌∙◌}
use Rattle.dv_app.proofs.OptionSteps.{goes_on}
use Rattle.dv_app.proofs.options.parted.Goals as goal

pub returns-in-None : goal.returns-in-None
returns-in-None c =
    goes_on c.args.words.now c.loop-word.word-index c.word-item.result c.loop-word-test.true c.word-item.is c.loop-word.found _ c.loop-word.invariant
    c.in_ok-word.word (c.in_ok-word.ensures ∙ c.as_bytes.ensures.value) _ (sym c.in-None.is ∙ c.in_ok-next.ensures)

pub loop-word-preserved : goal.loop-word-preserved
loop-word-preserved c =
    goes_on c.args.words.now c.loop-word.word-index c.word-item.result c.loop-word-test.true c.word-item.is c.loop-word.found _ c.loop-word.invariant
    c.in_ok-word.word (c.in_ok-word.ensures ∙ c.as_bytes.ensures.value) _ (sym c.in-Some.is ∙ c.in_ok-next.ensures)
