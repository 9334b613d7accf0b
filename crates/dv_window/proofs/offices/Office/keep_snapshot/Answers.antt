use Rattle.dv_window.proofs.Vocabulary.{Held, Snap, ap, ◌∙◌}
use Rattle.dv_window.proofs.KeptSnapshots.{agrees_broken, agrees_kept, broken_step, made_with, new_there, stored_step}
use Rattle.dv_window.proofs.offices.Office.keep_snapshot.Goals as goal

pub put_snapshot-requires : goal.put_snapshot-requires
put_snapshot-requires g c = λ store at.
    new_there c.args.self.now.snapshots (record { head = c.args.head.now; tables = c.args.tables.now }) c.requires.may store (c.requires.agrees c.requires.fresh store at).kept.snapshots_are

-- ---- the keeper refused it

pub returns-in-Err-clause-step : goal.returns-in-Err-clause-step
returns-in-Err-clause-step g c hashes state of_state is_in =
    let held = c.args.self.now in
    let snap : Snap = record { head = c.args.head.now; tables = c.args.tables.now } in
    broken_step hashes state held (g.K.Keeper.store c.args.keeper.now) c.requires.fresh is_in snap of_state c.in-Err.error _ (g.K.Keeper.store c.put_snapshot.new.self)
    (λ i. record (c.self.view_is i) { stale = c.is_failed-self-inside.ensures i }) c.in-Err.ensures.change

pub returns-in-Err-clause-agrees : goal.returns-in-Err-clause-agrees
returns-in-Err-clause-agrees g c =
    let snap : Snap = record { head = c.args.head.now; tables = c.args.tables.now } in
    agrees_broken c.args.self.now snap c.in-Err.error _ (g.K.Keeper.store c.args.keeper.now) (g.K.Keeper.store c.put_snapshot.new.self) (c.requires.agrees c.requires.fresh)
    (λ i. record (c.self.view_is i) { stale = c.is_failed-self-inside.ensures i }) c.in-Err.ensures.change

-- ---- it was stored

pub returns-clause-step : goal.returns-clause-step
returns-clause-step g c hashes state of_state is_in =
    let held = c.args.self.now in
    let snap : Snap = record { head = c.args.head.now; tables = c.args.tables.now } in
    let same = c.items.ensures ∙ ap (λ (h : Held). h.snapshots) c.self.view_is in
    let made = made_with held.snapshots snap c.requires.may c.items.result.now c.in_ok-snapshots.snapshots same c.in_ok-snapshots.ensures.made in
    stored_step hashes state held (g.K.Keeper.store c.args.keeper.now) c.requires.fresh is_in snap of_state _ (g.K.Keeper.store c.put_snapshot.new.self)
    (λ i. record (c.self.view_is i) { snapshots = made i }) c.in_default.ensures.change

pub returns-clause-agrees : goal.returns-clause-agrees
returns-clause-agrees g c =
    let held = c.args.self.now in
    let snap : Snap = record { head = c.args.head.now; tables = c.args.tables.now } in
    let same = c.items.ensures ∙ ap (λ (h : Held). h.snapshots) c.self.view_is in
    let made = made_with held.snapshots snap c.requires.may c.items.result.now c.in_ok-snapshots.snapshots same c.in_ok-snapshots.ensures.made in
    agrees_kept held snap _ (g.K.Keeper.store c.args.keeper.now) (g.K.Keeper.store c.put_snapshot.new.self) (c.requires.agrees c.requires.fresh)
    (λ i. record (c.self.view_is i) { snapshots = made i }) c.in_default.ensures.change
