use Rattle.dv_hub_link.proofs.Vocabulary.{kept, map, told, ◌++◌, ◌≡◌}
use Rattle.dv_hub_link.proofs.additions.kept.Given as goal

-- the lists so far and those behind them are all
abbrev pub invariant-loop-list : goal.invariant-loop-list
invariant-loop-list l = map told l.made ++ kept l.list-iterator.a.rest.now l.list-iterator.b.rest.now ≡ kept l.lists l.standings
