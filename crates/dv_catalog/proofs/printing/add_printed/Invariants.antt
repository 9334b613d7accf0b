use Rattle.dv_catalog.proofs.Vocabulary.{printed, take, ◌++◌, ◌≡◌}
use Rattle.dv_catalog.proofs.printing.add_printed.Given as goal

abbrev pub invariant-loop-byte : goal.invariant-loop-byte
invariant-loop-byte l = l.line.items ≡ l.initial.line.items ++ printed (take l.byte-index l.text)
