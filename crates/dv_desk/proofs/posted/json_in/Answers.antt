use Rattle.dv_desk.proofs.Vocabulary.{ap, read, sym, ◌∙◌}
use Rattle.dv_desk.proofs.JsonRead.{no_text, text_json}
use Rattle.dv_desk.proofs.posted.json_in.Goals as goal

pub returns-in_default : goal.returns-in_default
returns-in_default c = no_text c.args.bytes.now c.in_default.ensures.cases.0

pub returns-in-Ok-from_str : goal.returns-in-Ok-from_str
returns-in-Ok-from_str c = sym c.in-Ok-from_str.ensures.ok ∙ ap read c.in-Ok.ensures.cases.0 ∙ text_json c.args.bytes.now c.in-Ok.ensures.cases.1
