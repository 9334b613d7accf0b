use Rattle.dv_stage.proofs.Vocabulary.{◌∙◌}
use Rattle.dv_stage.proofs.TextTests.{is_ok-is_utf8}
use Rattle.dv_stage.proofs.fields.is_text.Goals as goal

pub returns : goal.returns
returns c = c.is_ok.ensures.value ∙ is_ok-is_utf8 c.from_utf8.result c.args.bytes.now _ _ c.from_utf8.ensures.cases
