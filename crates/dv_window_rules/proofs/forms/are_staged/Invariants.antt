use Rattle.dv_window_rules.proofs.Vocabulary.{drop, is_staged, list_all, ◌≡◌}
use Rattle.dv_window_rules.proofs.forms.are_staged.Given as goal

-- those so far pass
abbrev pub invariant-loop-staged : goal.invariant-loop-staged
invariant-loop-staged l = list_all (is_staged l.catalog) (drop l.staged-index l.extracts) ≡ list_all (is_staged l.catalog) l.extracts
