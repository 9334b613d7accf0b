use Rattle.dv_crew.proofs.Vocabulary.{All, All-nil, All-push, Claimant, Done, GivesWith, [], ap, arith, counterpart, map-append, numbers, refl, subst, sym, tasks_drawn, times, times_last, ◌++◌, ◌+◌, ◌-◌, ◌<◌, ◌∙◌, ◌∷◌, ◌≡◌, ◌≤◌}
use Rattle.dv_crew.proofs.Counting.{counterpart_within}
use Rattle.dv_crew.proofs.crews.work.Goals as goal

pub draws-init : goal.draws-init
draws-init g c =
    let crew = c.args.crew.now in
    let seat = c.requires.seat in
    let P : Done g.row.T.Denot → Type 0 = λ one. GivesWith (goal.F-post g crew.job.now) (counterpart crew.order crew.tasks one.number) one.out in record {
      board = ap (λ (y : Claimant). y.board) seat;
      fresh = ap (λ (y : Claimant). y.had_none) seat;
      share = refl;
      drew = ap numbers c.new-done.ensures.items ∙ sym (ap (λ (y : Claimant). y.claims) seat);
      latest = λ no. absurd (omega (arith, no));
      last = omega arith;
      each = subst (All P) (sym c.new-done.ensures.items) (All-nil P);
      did = subst (λ claims. g.C.Carrier.has_done crew.carrier.now c.args.worker.own (tasks_drawn crew.order crew.tasks claims)) (sym (ap (λ (y : Claimant). y.claims) seat)) c.requires.own;
      own_share = refl;
    }

pub do_task-requires-clause-ready : goal.do_task-requires-clause-ready
do_task-requires-clause-ready g c κs within =
    let crew = c.args.crew.now in
    let number = c.in-Some.number in
    let under = subst (λ n. number < n) c.requires.board c.in-Some.ensures.some.0 in
    c.requires.ready (counterpart crew.order crew.tasks number) c.draws.own (tasks_drawn crew.order crew.tasks c.draws.seat.claims) (counterpart_within crew.order crew.tasks number under) c.draws.invariant.did

pub draws-preserved : goal.draws-preserved
draws-preserved g c =
    let i = c.draws.invariant in
    let crew = c.args.crew.now in
    let some = c.in-Some.ensures.some in
    let number = c.in-Some.number in
    let under = some.0 in
    let pushed = c.in_ok-push.ensures.items in
    let P : Done g.row.T.Denot → Type 0 = λ one. GivesWith (goal.F-post g crew.job.now) (counterpart crew.order crew.tasks one.number) one.out in
    let back : number ≡ number + 1 - 1 = omega arith in
    let claims = ap (λ (y : Claimant). y.claims) some.1 in
    let so_far = tasks_drawn crew.order crew.tasks c.draws.seat.claims in
    let within = counterpart_within crew.order crew.tasks number (subst (λ n. number < n) c.requires.board under) in
    let step = c.requires.does (counterpart crew.order crew.tasks number) c.draws.own c.in_ok-after.after c.in_ok-after.out so_far within i.did c.in_ok-after.ensures in record {
      board = ap (λ (y : Claimant). y.board) some.1 ∙ i.board;
      fresh = ap (λ (y : Claimant). y.had_none) some.1 ∙ i.fresh;
      share = ap (λ (y : Claimant). y.share) some.1 ∙ i.share;
      drew = ap numbers pushed ∙ (map-append (λ (one : Done g.row.T.Denot). one.number) _ _ ∙ (ap (λ all. all ++ number ∷ []) i.drew ∙ sym claims));
      latest = λ _. subst (λ n. 1 ≤ times n c.claim.new.seat.claims) back (subst (λ (y : Claimant). 1 ≤ times number y.claims) (sym some.1) (times_last c.draws.seat.claims number));
      last = omega (arith, under);
      each = subst (All P) (sym pushed) (All-push P c.draws.done.items _ i.each (c.draws.own, c.in_ok-after.after, c.in_ok-after.ensures));
      did = subst (g.C.Carrier.has_done crew.carrier.now c.in_ok-after.after) (sym (ap (tasks_drawn crew.order crew.tasks) claims ∙ map-append (counterpart crew.order crew.tasks) c.draws.seat.claims (number ∷ []))) step.1;
      own_share = step.0 ∙ i.own_share;
    }

pub returns-clause-worked : goal.returns-clause-worked
returns-clause-worked g c =
    let i = c.draws.invariant in
    let crew = c.args.crew.now in
    let none = c.in_default.ensures.none in record {
      mine = ap (λ (y : Claimant). y.board) none ∙ i.board;
      ended = ap (λ (y : Claimant). y.had_none) none;
      whole = ap (λ (y : Claimant). y.share) none ∙ i.share;
      drew = i.drew ∙ sym (ap (λ (y : Claimant). y.claims) none);
      each = i.each;
      did = subst (λ claims. g.C.Carrier.has_done crew.carrier.now c.draws.own (tasks_drawn crew.order crew.tasks claims)) (sym (ap (λ (y : Claimant). y.claims) none)) i.did;
    }

pub returns-clause-share : goal.returns-clause-share
returns-clause-share g c = c.draws.invariant.own_share
