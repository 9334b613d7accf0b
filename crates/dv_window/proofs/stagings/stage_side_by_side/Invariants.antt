use Rattle.dv_window.proofs.Vocabulary.{AreTried, rows_from, rule_from, window_of, window_rule, ◌*◌, ◌++◌, ◌-◌, ◌^◌, ◌≡◌, ◌≤◌}
use Rattle.dv_window.proofs.stagings.stage_side_by_side.Given as goal

-- the feeds so far break no rule, and with those behind them, which were tried, they make the window
abbrev pub invariant-loop-tried : goal.invariant-loop-tried
invariant-loop-tried g l = record {
  tried : AreTried l.catalog l.given.extracts l.feed l.tried-iterator.rest.items;
  counted : l.taken ≤ l.feed * (2 ^ 32 - 1);
  rule : rule_from l.catalog l.given.extracts l.feed l.taken ≡ window_rule l.catalog l.given;
  extracts : l.extracts ++ rows_from l.catalog l.given.extracts l.feed l.taken ≡ (window_of l.catalog l.given).extracts;
}
