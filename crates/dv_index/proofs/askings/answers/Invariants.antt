use Rattle.dv_index.proofs.Vocabulary.{latest_at, length, numbers_of, option_map, take, ◌≤◌}
use Rattle.dv_index.proofs.Scattered.{AreAnswered}
use Rattle.dv_index.proofs.askings.answers.Given as goal

-- the parents that were asked for so far have their answers in their places
abbrev pub invariant-loop-entry : goal.invariant-loop-entry
invariant-loop-entry g l = record {
  older : l.older_count ≤ length l.index;
  newer : l.newer_count ≤ length l.recent;
  answered : AreAnswered (option_map (λ row. row.now)) (λ parent. latest_at g.R.Placed.place l.rows parent l.date) l.parents (take l.entry-index (numbers_of l.asked)) l.found.items;
}
