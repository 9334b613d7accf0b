use Rattle.dv_index.proofs.Vocabulary.{always_returns_same, parents_of, rules}
use Rattle.dv_index.proofs.EntryOrder.{entry_lt, entry_order}
use Rattle.dv_index.proofs.numbers.sort_entries.Goals as goal

pub returns-clause-ordered : goal.returns-clause-ordered
returns-clause-ordered g c =
    let parents = parents_of g.R.Placed.place c.args.rows.now in
    c.sort_unstable_by.ensures.sorted (entry_lt parents) (entry_order parents) (always_returns_same _ _ _ (λ a r f' called. search rules))
