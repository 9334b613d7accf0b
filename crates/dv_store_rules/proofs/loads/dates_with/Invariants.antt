use Rattle.dv_store_rules.proofs.Vocabulary.{has_number, is_delivered, take, ℕ, ◌≡◌}
use Rattle.dv_store_rules.proofs.loads.dates_with.Given as goal

-- the load dates so far
abbrev pub invariant-loop-head : goal.invariant-loop-head
invariant-loop-head l = (load : ℕ) → has_number l.made.items load ≡ is_delivered (take l.head-index l.heads) l.feed load
