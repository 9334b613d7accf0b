use Rattle.dv_desk.proofs.Vocabulary.{Moment, ServesBy, moment, moment_of, rules, seen}
use Rattle.dv_desk.proofs.Turned.{at_moment}
use Rattle.dv_desk.proofs.opened.serve_with.Goals as goal

pub returns-clause-serves : goal.returns-clause-serves
returns-clause-serves g c =
    let before = moment g.K.Keeper.store g.K.Keeper.faults c.args.office.now c.args.keeper.now in
    at_moment (λ (m : Moment). ServesBy g.H.KeyDigest.function g.D.Doors g.D.Line.Link c.args.doors.now c.serve_doors-ended.new.doors before m
    (seen g.E.Sink.contents g.E.Sink.faults c.args.err.now c.end_doors.new.err) c.end_doors.result) _ (moment_of g.K.Keeper c.serve_doors-ended.new.self)
    (search rules) (search rules) (search rules)
    (record { ended = c.serve_doors-ended.result; serves = c.serve_doors-ended.ensures.serves; cause = c.serve_doors-ended.ensures.cause; ends = c.end_doors.ensures.ends })
