use Rattle.dv_store_rules.proofs.Vocabulary.{AreClear, head_rule}
use Rattle.dv_store_rules.proofs.heads.head_flaw.Given as goal

-- no head so far breaks the rule
abbrev pub invariant-loop-place : goal.invariant-loop-place
invariant-loop-place l = AreClear (head_rule l.catalog) l.heads l.place
