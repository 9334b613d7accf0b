use Rattle.dv_window.proofs.Vocabulary.{IsTried, subst, sym, ◌≤◌}
use Rattle.dv_window.proofs.Rooms.{still_taken}
use Rattle.dv_window.proofs.stagings.with_room.Goals as goal

pub returns-in-Some-clause-ok : goal.returns-in-Some-clause-ok
returns-in-Some-clause-ok c =
    let mapping = c.args.catalog.now in
    let extracts = c.args.given.now.extracts in
    let read = c.in-Some.read in
    let tried = subst (IsTried mapping extracts c.args.feed) c.in-Some.is c.requires.tried in
    let few = subst (λ room. read.taken ≤ room) c.room_after-room.ensures c.if-tried-room.true in
    sym (still_taken mapping extracts 0 c.args.taken c.args.feed read.staged.rows read.taken few tried.0)
