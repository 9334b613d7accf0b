use Rattle.dv_window_rules.proofs.Vocabulary.{[], drop, map, repeated_name, reverse, take, ◌≡◌}
use Rattle.dv_window_rules.proofs.given_rules.repeated.Given as goal

-- the names so far are none again, and those behind them tell
abbrev pub invariant-loop-i : goal.invariant-loop-i
invariant-loop-i l =
    repeated_name (reverse (map (λ extract. extract.feed) (take l.i l.extracts))) (map (λ extract. extract.feed) (drop l.i l.extracts))
    ≡ repeated_name [] (map (λ extract. extract.feed) l.extracts)
