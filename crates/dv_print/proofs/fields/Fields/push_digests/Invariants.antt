use Rattle.dv_print.proofs.Vocabulary.{encode_lower, map, take, ◌++◌, ◌≡◌}
use Rattle.dv_print.proofs.fields.Fields.push_digests.Given as goal

abbrev pub invariant-loop-digest : goal.invariant-loop-digest
invariant-loop-digest l = l.self ≡ l.initial.self ++ map encode_lower (take l.digest-index l.digests)
