use Rattle.dv_desk.proofs.Vocabulary.{seen}
use Rattle.dv_desk.proofs.{ServedAll.serves_out}
use Rattle.dv_desk.proofs.opened.serve.Goals as goal

pub returns-clause-complete : goal.returns-clause-complete
returns-clause-complete g c = serves_out g.H.KeyDigest.function _ _ _ _ _ (seen g.K.Keeper.store g.K.Keeper.faults c.args.keeper.now c.serve_by.new.keeper)
    (seen g.E.Sink.contents g.E.Sink.faults c.args.err.now c.serve_by.new.err) c.serve_by.result
    (λ mapping stands damaged. let (state, store, told, standing) = stands in c.serve_by.ensures.sound damaged mapping state store told standing)
    c.serve_by.ensures.cause c.serve_by.ensures.says
