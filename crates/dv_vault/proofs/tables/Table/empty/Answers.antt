use Rattle.dv_vault.proofs.Vocabulary.{IsStrictlySortedBy}
use Rattle.dv_vault.proofs.tables.Table.empty.Goals as goal

pub from_rows-requires-in-Sat : goal.from_rows-requires-in-Sat
unfolding IsStrictlySortedBy
from_rows-requires-in-Sat c = rw c.new-in-Sat.ensures tt

pub from_rows-requires-in-Multi : goal.from_rows-requires-in-Multi
unfolding IsStrictlySortedBy
from_rows-requires-in-Multi c = rw c.new-in-Multi.ensures tt

pub from_rows-requires-in-Status : goal.from_rows-requires-in-Status
unfolding IsStrictlySortedBy
from_rows-requires-in-Status c = rw c.new-in-Status.ensures tt

pub from_rows-requires-in-Effect : goal.from_rows-requires-in-Effect
unfolding IsStrictlySortedBy
from_rows-requires-in-Effect c = rw c.new-in-Effect.ensures tt
