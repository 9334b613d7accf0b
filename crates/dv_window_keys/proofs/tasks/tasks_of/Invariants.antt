use Rattle.dv_window_keys.proofs.Vocabulary.{feed_tasks, flat_map, take, ◌≡◌}
use Rattle.dv_window_keys.proofs.tasks.tasks_of.Given as goal

-- the tasks of the feeds so far
abbrev pub invariant-loop-staged : goal.invariant-loop-staged
invariant-loop-staged l = l.tasks ≡ flat_map (λ staged. feed_tasks l.catalog staged.feed) (take l.staged-index l.staged-items)
