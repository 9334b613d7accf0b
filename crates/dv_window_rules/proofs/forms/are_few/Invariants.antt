use Rattle.dv_window_rules.proofs.Vocabulary.{drop, length, most_window_records, sum_by, ◌+◌, ◌≡◌, ◌≤◌}
use Rattle.dv_window_rules.proofs.forms.are_few.Given as goal

-- what room there is left for the rows of the extracts that are left
abbrev pub invariant-loop-staged : goal.invariant-loop-staged
invariant-loop-staged l = record {
  small : l.room ≤ most_window_records;
  rows : sum_by (λ staged. length staged.rows) l.extracts + l.room ≡ sum_by (λ staged. length staged.rows) (drop l.staged-index l.extracts) + most_window_records;
}
