use Rattle.dv_print.proofs.Vocabulary.{take, ◌++◌, ◌≡◌}
use Rattle.dv_print.proofs.fields.Fields.push_texts.Given as goal

abbrev pub invariant-loop-text : goal.invariant-loop-text
invariant-loop-text l = l.self ≡ l.initial.self ++ take l.text-index l.texts
