use Rattle.dv_window_rules.proofs.Vocabulary.{length, window_of, window_rule, ◌*◌, ◌++◌, ◌-◌, ◌^◌, ◌≡◌, ◌≤◌}
use Rattle.dv_window_rules.proofs.FeedSteps.{rows_from, rule_from}
use Rattle.dv_window_rules.proofs.stagings.stage_window.Given as goal

-- the feeds so far break no rule, and with those behind them they make the window
abbrev pub invariant-loop-feed : goal.invariant-loop-feed
invariant-loop-feed l = record {
  within : l.feed ≤ length l.catalog.feeds;
  counted : l.taken ≤ l.feed * (2 ^ 32 - 1);
  rule : rule_from l.catalog l.given.extracts l.feed l.taken ≡ window_rule l.catalog l.given;
  extracts : l.extracts ++ rows_from l.catalog l.given.extracts l.feed l.taken ≡ (window_of l.catalog l.given).extracts;
}
