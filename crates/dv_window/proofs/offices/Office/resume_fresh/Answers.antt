use Rattle.dv_window.proofs.Vocabulary.{AgreesUnlessStale, CompletesTo, Held, None, NothingOpen, refl, subst, sym, true}
use Rattle.dv_window.proofs.{Agreed.agrees_then, BrokenOff.untold_in, BrokenOff.untold_open, Stepped.nothing_completes, Stepped.open_completes}
use Rattle.dv_window.proofs.offices.Office.resume_fresh.Goals as goal

pub returns-in-Some-clause-step : goal.returns-in-Some-clause-step
returns-in-Some-clause-step g c hashes state is_in =
    let after = g.K.Keeper.store c.complete.new.keeper in
    subst (λ answer. CompletesTo c.args.self.now.vault.mapping hashes state answer c.complete.new.self after) (sym c.resume_answer.ensures)
    (open_completes hashes state c.args.self.now c.complete.ensures.valid_mapping (g.K.Keeper.store c.args.keeper.now) c.requires.fresh is_in c.complete.new.self after c.in-Some.completed (c.in-Some.ensures {u = tt}).some)

pub returns-in-Some-clause-agrees : goal.returns-in-Some-clause-agrees
returns-in-Some-clause-agrees g c =
    let came = (c.in-Some.ensures {u = tt}).some in
    agrees_then c.args.self.now true came.begun c.complete.new.self (g.K.Keeper.store c.args.keeper.now) (g.K.Keeper.store c.complete.new.keeper) (c.requires.agrees c.requires.fresh)
    (λ no. cc) c.in-Some.completed came.came

pub returns-in-None-clause-step : goal.returns-in-None-clause-step
returns-in-None-clause-step g c hashes state is_in =
    let (none, same, kept) = (c.in-None.ensures {u = tt}).none in
    let after = g.K.Keeper.store c.complete.new.keeper in
    subst (λ (held : Held). CompletesTo c.args.self.now.vault.mapping hashes state NothingOpen held after) (sym same)
    (nothing_completes hashes state c.args.self.now c.complete.ensures.valid_mapping (g.K.Keeper.store c.args.keeper.now) c.requires.fresh is_in none after kept)

pub returns-in-None-clause-agrees : goal.returns-in-None-clause-agrees
returns-in-None-clause-agrees g c =
    let (none, same, kept) = (c.in-None.ensures {u = tt}).none in
    subst (λ (held : Held). AgreesUnlessStale held (g.K.Keeper.store c.complete.new.keeper)) (sym same) (subst (AgreesUnlessStale c.args.self.now) (sym kept) c.requires.agrees)

-- ---- whatever is told of the store

pub returns-in-Some-clause-answer : goal.returns-in-Some-clause-answer
returns-in-Some-clause-answer g c hashes state stands =
    let held = c.args.self.now in
    let came = untold_open held c.complete.new.self (g.K.Keeper.store c.args.keeper.now) (g.K.Keeper.store c.complete.new.keeper) c.in-Some.completed (c.in-Some.ensures {u = tt}).some in
    subst (λ answer. CompletesTo held.vault.mapping hashes state answer c.complete.new.self None) (sym c.resume_answer.ensures)
    (open_completes hashes state held c.complete.ensures.valid_mapping None c.requires.fresh (untold_in hashes state held stands c.requires.fresh) c.complete.new.self None c.in-Some.completed came)

pub returns-in-None-clause-answer : goal.returns-in-None-clause-answer
returns-in-None-clause-answer g c hashes state stands =
    let (none, same, kept) = (c.in-None.ensures {u = tt}).none in
    subst (λ (held : Held). CompletesTo c.args.self.now.vault.mapping hashes state NothingOpen held None) (sym same)
    (nothing_completes hashes state c.args.self.now c.complete.ensures.valid_mapping None c.requires.fresh (untold_in hashes state c.args.self.now stands c.requires.fresh) none None refl)
