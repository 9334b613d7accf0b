use Rattle.dv_text.proofs.Vocabulary.{sym}
use Rattle.dv_text.proofs.SortedLists.{few_ascend, few_sorted}
use Rattle.dv_text.proofs.orders.sorted_list.Goals as goal

pub returns-in-Ok-clause-members : goal.returns-in-Ok-clause-members
returns-in-Ok-clause-members g c = let same = rw c.in-Ok.is at c.into_many.ensures.many in rw (← same) c.sorted_distinct.ensures.members

pub returns-in-Err-clause-value : goal.returns-in-Err-clause-value
returns-in-Err-clause-value g c = let same = rw c.in-Err.is at c.into_many.ensures.few in rw (← same.0) (sym (few_sorted _ _ same.1))

pub returns-in-Err-clause-ascending : goal.returns-in-Err-clause-ascending
returns-in-Err-clause-ascending g c = let same = rw c.in-Err.is at c.into_many.ensures.few in few_ascend _ _ same.1
