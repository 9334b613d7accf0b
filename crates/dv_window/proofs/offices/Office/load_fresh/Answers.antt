use Rattle.dv_window.proofs.Vocabulary.{IsPlanned, None, StepsTo, false, hashes_of, refl, staged, subst, sym, true}
use Rattle.dv_window.proofs.{Agreed.agrees_closed, Agreed.agrees_then, Agreed.new_tables, Agreed.none_staged, BrokenOff.untold, BrokenOff.untold_in, BrokenOff.untold_open, Stepped.new_step, Stepped.open_step, Stepped.stopped_step}
use Rattle.dv_window.proofs.offices.Office.load_fresh.Goals as goal

pub carry_out-requires-clause-told : goal.carry_out-requires-clause-told
carry_out-requires-clause-told g c = λ store at.
    let plan = subst (IsPlanned (hashes_of g.H.KeyDigest.function) c.args.self.now c.args.given.now) c.in-Ok-New.field-0-is c.in-Ok-New.ensures.plan in
    let (stage, tables) = agrees_closed c.args.self.now store (c.requires.agrees c.requires.fresh store at) (none_staged c.args.self.now plan.none_open) in
    record { stage_is = stage; tables_are = new_tables (hashes_of g.H.KeyDigest.function) c.args.self.now.vault (staged c.args.self.now) c.args.given.now c.in-Ok-New.begun plan store tables }

pub returns-in-Ok-New-clause-step : goal.returns-in-Ok-New-clause-step
returns-in-Ok-New-clause-step g c state is_in =
    let hashes = hashes_of g.H.KeyDigest.function in
    let after = g.K.Keeper.store c.carry_out.new.keeper in
    let plan = subst (IsPlanned hashes c.args.self.now c.args.given.now) c.in-Ok-New.field-0-is c.in-Ok-New.ensures.plan in
    subst (λ answer. StepsTo c.args.self.now.vault.mapping hashes state c.args.given.now answer c.carry_out.new.self after) (sym c.load_answer.ensures)
    (new_step hashes state c.args.self.now c.plan.ensures.valid_mapping (g.K.Keeper.store c.args.keeper.now) c.requires.fresh is_in c.args.given.now c.in-Ok-New.begun plan
    c.carry_out.new.self after c.carry_out.result c.carry_out.ensures.came)

pub returns-in-Ok-New-clause-agrees : goal.returns-in-Ok-New-clause-agrees
returns-in-Ok-New-clause-agrees g c =
    let plan = subst (IsPlanned (hashes_of g.H.KeyDigest.function) c.args.self.now c.args.given.now) c.in-Ok-New.field-0-is c.in-Ok-New.ensures.plan in
    agrees_then c.args.self.now false c.in-Ok-New.begun c.carry_out.new.self (g.K.Keeper.store c.args.keeper.now) (g.K.Keeper.store c.carry_out.new.keeper) (c.requires.agrees c.requires.fresh)
    (λ e. none_staged c.args.self.now plan.none_open) c.carry_out.result c.carry_out.ensures.came

pub returns-in-Some-clause-step : goal.returns-in-Some-clause-step
returns-in-Some-clause-step g c state is_in =
    let hashes = hashes_of g.H.KeyDigest.function in
    let after = g.K.Keeper.store c.complete.new.keeper in
    let plan = subst (IsPlanned hashes c.args.self.now c.args.given.now) c.in-Ok-Open.field-0-is c.in-Ok-Open.ensures.plan in
    subst (λ answer. StepsTo c.args.self.now.vault.mapping hashes state c.args.given.now answer c.complete.new.self after) (sym c.load_answer-in-Some.ensures)
    (open_step hashes state c.args.self.now c.plan.ensures.valid_mapping (g.K.Keeper.store c.args.keeper.now) c.requires.fresh is_in c.complete.new.self after c.in-Some.completed (c.in-Some.ensures {u = tt}).some
    c.args.given.now plan)

pub returns-in-Some-clause-agrees : goal.returns-in-Some-clause-agrees
returns-in-Some-clause-agrees g c =
    let came = (c.in-Some.ensures {u = tt}).some in
    agrees_then c.args.self.now true came.begun c.complete.new.self (g.K.Keeper.store c.args.keeper.now) (g.K.Keeper.store c.complete.new.keeper) (c.requires.agrees c.requires.fresh)
    (λ no. cc) c.in-Some.completed came.came

pub returns-in-Err-clause-step : goal.returns-in-Err-clause-step
returns-in-Err-clause-step g c state is_in =
    let hashes = hashes_of g.H.KeyDigest.function in
    let before = g.K.Keeper.store c.args.keeper.now in
    subst (λ answer. StepsTo c.args.self.now.vault.mapping hashes state c.args.given.now answer c.args.self.now before) (sym c.from.ensures)
    (stopped_step hashes state c.args.self.now c.plan.ensures.valid_mapping before c.requires.fresh is_in c.args.given.now c.in-Err.stop c.in-Err.ensures.stops before refl)

-- ---- whatever is told of the store

pub returns-in-Ok-New-clause-answer : goal.returns-in-Ok-New-clause-answer
returns-in-Ok-New-clause-answer g c state stands =
    let hashes = hashes_of g.H.KeyDigest.function in
    let held = c.args.self.now in
    let plan = subst (IsPlanned hashes held c.args.given.now) c.in-Ok-New.field-0-is c.in-Ok-New.ensures.plan in
    let came = untold false c.in-Ok-New.begun held c.carry_out.new.self (g.K.Keeper.store c.args.keeper.now) (g.K.Keeper.store c.carry_out.new.keeper) c.carry_out.result c.carry_out.ensures.came in
    subst (λ answer. StepsTo held.vault.mapping hashes state c.args.given.now answer c.carry_out.new.self None) (sym c.load_answer.ensures)
    (new_step hashes state held c.plan.ensures.valid_mapping None c.requires.fresh (untold_in hashes state held stands c.requires.fresh) c.args.given.now c.in-Ok-New.begun plan
    c.carry_out.new.self None c.carry_out.result came)

pub returns-in-Some-clause-answer : goal.returns-in-Some-clause-answer
returns-in-Some-clause-answer g c state stands =
    let hashes = hashes_of g.H.KeyDigest.function in
    let held = c.args.self.now in
    let plan = subst (IsPlanned hashes held c.args.given.now) c.in-Ok-Open.field-0-is c.in-Ok-Open.ensures.plan in
    let came = untold_open held c.complete.new.self (g.K.Keeper.store c.args.keeper.now) (g.K.Keeper.store c.complete.new.keeper) c.in-Some.completed (c.in-Some.ensures {u = tt}).some in
    subst (λ answer. StepsTo held.vault.mapping hashes state c.args.given.now answer c.complete.new.self None) (sym c.load_answer-in-Some.ensures)
    (open_step hashes state held c.plan.ensures.valid_mapping None c.requires.fresh (untold_in hashes state held stands c.requires.fresh) c.complete.new.self None c.in-Some.completed came
    c.args.given.now plan)

pub returns-in-Err-clause-answer : goal.returns-in-Err-clause-answer
returns-in-Err-clause-answer g c state stands =
    let hashes = hashes_of g.H.KeyDigest.function in
    let held = c.args.self.now in
    subst (λ answer. StepsTo held.vault.mapping hashes state c.args.given.now answer held None) (sym c.from.ensures)
    (stopped_step hashes state held c.plan.ensures.valid_mapping None c.requires.fresh (untold_in hashes state held stands c.requires.fresh) c.args.given.now c.in-Err.stop c.in-Err.ensures.stops None refl)
