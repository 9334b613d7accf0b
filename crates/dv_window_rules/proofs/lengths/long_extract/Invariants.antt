use Rattle.dv_window_rules.proofs.Vocabulary.{drop, first_long, most_window_bytes, ◌≡◌, ◌≤◌}
use Rattle.dv_window_rules.proofs.lengths.long_extract.Given as goal

-- the extracts so far keep the limits, and those behind them tell
abbrev pub invariant-loop-extract : goal.invariant-loop-extract
invariant-loop-extract l = (l.bytes ≤ most_window_bytes) × (first_long l.bytes (drop l.extract-index l.extracts) ≡ first_long 0 l.extracts)
