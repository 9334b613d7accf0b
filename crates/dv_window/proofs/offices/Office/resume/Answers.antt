use Rattle.dv_window.proofs.Vocabulary.{CompletesTo, Err, Held, IsLeftIn, None, StandsFor, ap, hashes_of, subst, sym, ◌∙◌}
use Rattle.dv_window.proofs.Refreshed.{is_damaged, not_err, unresumed_step}
use Rattle.dv_window.proofs.offices.Office.resume.Goals as goal

pub returns-in-Err-clause-step : goal.returns-in-Err-clause-step
returns-in-Err-clause-step g c state is_in =
    let hashes = hashes_of g.H.KeyDigest.function in
    let after = g.K.Keeper.store c.refresh.new.keeper in
    let held_same = (c.in-Err.ensures {u = tt}).kept in
    let left : IsLeftIn hashes state c.refresh.new.self after = subst (λ (held : Held). IsLeftIn hashes state held after) (sym held_same)
    (subst (IsLeftIn hashes state c.args.self.now) (sym c.refresh.ensures.store) (record { stands = is_in.stands; store_stands = is_in.store_stands })) in
    subst (λ answer. CompletesTo c.args.self.now.vault.mapping hashes state answer c.refresh.new.self after) (sym c.unresumed.ensures)
    (unresumed_step c.args.self.now.vault.mapping hashes state c.refresh.new.self after left c.in-Err.fault)

pub returns-in-Err-clause-damaged : goal.returns-in-Err-clause-damaged
returns-in-Err-clause-damaged g c damage is = c.refresh.ensures.damaged damage (c.in-Err.is ∙ ap Err (is_damaged c.in-Err.fault damage (sym c.unresumed.ensures ∙ is)))

pub returns-in-Err-clause-undamaged : goal.returns-in-Err-clause-undamaged
returns-in-Err-clause-undamaged g c damage is = c.refresh.ensures.undamaged damage (c.in-Err.is ∙ ap Err (is_damaged c.in-Err.fault damage (sym c.unresumed.ensures ∙ is)))

-- ---- an office that isn't stale is as it was after the refresh

pub returns-in-Err-clause-answer : goal.returns-in-Err-clause-answer
returns-in-Err-clause-answer g c fresh state stands = absurd (not_err c.in-Err.fault (sym (c.refresh.ensures.still fresh).0 ∙ c.in-Err.is))

pub returns-in-Err-clause-kept : goal.returns-in-Err-clause-kept
returns-in-Err-clause-kept g c fresh is = absurd (not_err c.in-Err.fault (sym (c.refresh.ensures.still fresh).0 ∙ c.in-Err.is))

pub returns-clause-answer : goal.returns-clause-answer
returns-clause-answer g c fresh state stands =
    let hashes = hashes_of g.H.KeyDigest.function in
    let same = (c.refresh.ensures.still fresh).1 in
    subst (λ (held : Held). CompletesTo held.vault.mapping hashes state c.resume_fresh.result c.resume_fresh.new.self None) same
    (c.resume_fresh.ensures.answer hashes state (subst (λ (held : Held). StandsFor hashes state held) (sym same) stands))

pub returns-clause-kept : goal.returns-clause-kept
returns-clause-kept g c fresh is = c.resume_fresh.ensures.kept is ∙ (c.refresh.ensures.still fresh).1
