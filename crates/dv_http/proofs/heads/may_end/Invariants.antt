use Rattle.dv_http.proofs.Vocabulary.{HasNoEnd, take}
use Rattle.dv_http.proofs.heads.may_end.Given as goal

-- no empty line ended so far
abbrev pub invariant-loop-at : goal.invariant-loop-at
invariant-loop-at l = HasNoEnd l.from (take l.at l.bytes)
