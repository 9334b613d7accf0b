use Rattle.dv_store_rules.proofs.Vocabulary.{ascends, drop, ◌-◌, ◌≡◌}
use Rattle.dv_store_rules.proofs.heads.ascend.Given as goal

-- the numbers ascend as those from the last one on do
abbrev pub invariant-loop-place : goal.invariant-loop-place
invariant-loop-place l = ascends (drop (l.place - 1) l.numbers) ≡ ascends l.numbers
