use Rattle.dv_app.proofs.Vocabulary.{arith, ints, load_date}
use Rattle.dv_app.proofs.GeneratedSteps.{load_date_known}
use Rattle.dv_app.proofs.generated.load_date.Goals as goal

pub unreachable-requires : goal.unreachable-requires
unreachable-requires c =
    c.in-None.ensures.none (load_date c.args.window) (load_date_known c.args.window c.requires)
    (omega (arith, ints, c.requires, c.from.ensures))
