use Rattle.dv_desk.proofs.Vocabulary.{Err, ap, refused_comes, replied_comes}
use Rattle.dv_desk.proofs.desks.Desk.serve_one.Goals as goal

pub returns-in-Ok-Some-clause-comes : goal.returns-in-Ok-Some-clause-comes
returns-in-Ok-Some-clause-comes g c =
    rw (c.reply_to.ensures.kept, ← c.read_request.ensures.kept)
    (replied_comes _ _ _ _ _ _ _ _ _ c.in-Ok-Some.request c.reply_to.result (rw c.in-Ok-Some.field-0-is at c.in-Ok-Some.ensures.takes) c.reply_to.ensures.replied)

pub returns-in-Err-clause-comes : goal.returns-in-Err-clause-comes
returns-in-Err-clause-comes g c =
    rw (c.refuse.ensures.kept, ← c.read_request.ensures.kept)
    (refused_comes _ _ _ _ _ _ _ _ c.refuse.result c.refusal.result c.in-Err.error c.refusal.ensures c.in-Err.ensures.takes (λ e. c.in-Err.ensures.waited (ap Err e)) c.refuse.ensures.refused)
