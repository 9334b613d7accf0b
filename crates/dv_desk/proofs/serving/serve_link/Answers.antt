use Rattle.dv_desk.proofs.Vocabulary.{Moment, Serves, ServesWhole, moment, moment_of, rules, tells}
use Rattle.dv_desk.proofs.{ServedAll.serves_whole, Talked.serves_in_states, Turned.agrees_at, Turned.at_moment}
use Rattle.dv_desk.proofs.serving.serve_link.Goals as goal

pub returns-clause-serves : goal.returns-clause-serves
returns-clause-serves g c =
    let before = moment g.K.Keeper.store g.K.Keeper.faults c.args.office.now c.args.keeper.now in
    let after = moment_of g.K.Keeper c.serve_connection.new.self in
    at_moment (λ (m : Moment). Serves g.H.KeyDigest.function (tells g.L.Link) c.args.link.now c.serve_connection.new.link before m c.serve_connection.result) _ after
    (search rules) (search rules) (search rules) (serves_in_states g.H.KeyDigest.function (tells g.L.Link) c.args.link.now c.serve_connection.new.link before after c.serve_connection.result c.serve_connection.ensures.serves)

pub returns-clause-complete : goal.returns-clause-complete
returns-clause-complete g c calm ample =
    let before = moment g.K.Keeper.store g.K.Keeper.faults c.args.office.now c.args.keeper.now in
    let after = moment_of g.K.Keeper c.serve_connection.new.self in
    at_moment (λ (m : Moment). ServesWhole g.H.KeyDigest.function (tells g.L.Link) c.args.link.now c.serve_connection.new.link before m c.serve_connection.result) _ after
    (search rules) (search rules) (search rules)
    (serves_whole g.H.KeyDigest.function (tells g.L.Link) c.args.link.now c.serve_connection.new.link before after c.serve_connection.result c.serve_connection.ensures.serves c.serve_connection.ensures.cause calm ample)

pub returns-clause-agrees : goal.returns-clause-agrees
returns-clause-agrees g c = agrees_at _ c.serve_connection.new.self.office.now _ (g.K.Keeper.store c.serve_connection.new.self.keeper.now) (search rules) (search rules) c.serve_connection.ensures.agrees
