use Rattle.dv_app.proofs.TextSteps.{text_ends}
use Rattle.dv_app.proofs.texts.text_of.Goals as goal

pub returns-in-Err-TooLarge-clause-ends : goal.returns-in-Err-TooLarge-clause-ends
returns-in-Err-TooLarge-clause-ends c =
    text_ends c.args.vault.now c.args.what.now c.args.date _ c.catalog.ensures.value ((c.in-Err-TooLarge.ensures {u = tt}).too_large c.in-Err-TooLarge.field-0-is) _ c.end_too_large.ensures
