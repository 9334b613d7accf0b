use Rattle.dv_text.proofs.Vocabulary.{Less, get_or, ℕ, ◌+◌, ◌<◌, ◌≡◌}
use Rattle.dv_text.proofs.prefixes.ascend.Given as goal

-- each item before the place is less than the next
abbrev pub invariant-loop-i : goal.invariant-loop-i
invariant-loop-i g l = (k : ℕ) (d : _) → k + 1 < l.i → g.T.Ord.cmp (get_or l.items k d) (get_or l.items (k + 1) d) ≡ Less
