use Rattle.dv_text.proofs.orders.sorted_rows.Goals as goal

pub returns-clause-members : goal.returns-clause-members
returns-clause-members c = c.sorted_list.ensures.members
