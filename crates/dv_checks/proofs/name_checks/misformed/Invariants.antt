use Rattle.dv_checks.proofs.Vocabulary.{drop, find, has_name_form, map, not, ◌≡◌}
use Rattle.dv_checks.proofs.name_checks.misformed.Given as goal

abbrev pub invariant-loop-entry : goal.invariant-loop-entry
invariant-loop-entry g l =
    find (λ name. not (has_name_form name)) (map g.T.Named.name_of (drop l.entry-index l.entries))
    ≡ find (λ name. not (has_name_form name)) (map g.T.Named.name_of l.entries)
