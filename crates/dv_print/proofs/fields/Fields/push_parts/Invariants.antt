use Rattle.dv_print.proofs.Vocabulary.{all_parts, take, ◌++◌, ◌≡◌}
use Rattle.dv_print.proofs.fields.Fields.push_parts.Given as goal

abbrev pub invariant-loop-key : goal.invariant-loop-key
invariant-loop-key l = l.self ≡ l.initial.self ++ all_parts (take l.key-index l.refs)
