use Rattle.dv_store_rules.proofs.Vocabulary.{None}
use Rattle.dv_store_rules.proofs.LastRows.{last_is}
use Rattle.dv_store_rules.proofs.row_walks.follows.Goals as goal

pub returns-in-Some : goal.returns-in-Some
returns-in-Some g c =
    let last = last_is None c.args.before.now c.in-Some.last.now c.in-Some.ensures.value in
    rw last c.is_behind.ensures
