use Rattle.dv_crew.proofs.Vocabulary.{All, All-append, All-drop, All-take, Bool, Done, GivesWith, ap, arith, cond, counterpart, drop, nat_eq, numbers, placed_within, position, rules, subst, sym, take, times, ℕ, ◌+◌, ◌==◌, ◌∙◌, ◌≡◌, ◌≤◌}
use Rattle.dv_crew.proofs.Counting.{back_again, found_within, none_there, times_cut}
use Rattle.dv_crew.proofs.results.take_result.Goals as goal

pub remove-requires : goal.remove-requires
remove-requires g c =
    let has : Done g.row.T.Denot → Bool = λ one. one.number == c.counterpart-number.result in
    let within = placed_within has c.args.done.now.items c.in-Some.place (ap (position has) (sym c.deref.ensures.value) ∙ sym c.position_of.ensures ∙ c.in-Some.is) in
    search (rules, within)

pub unreachable-requires : goal.unreachable-requires
unreachable-requires g c =
    let has : Done g.row.T.Denot → Bool = λ one. one.number == c.counterpart-number.result in
    let none = none_there c.counterpart-number.result c.args.done.now.items (ap (position has) (sym c.deref.ensures.value) ∙ sym c.position_of.ensures ∙ c.in-None.is) in
    let there = subst (λ n. 1 ≤ times n (numbers c.args.done.now.items)) (sym c.counterpart-number.ensures) c.requires.there in
    omega (arith, none, there)

pub returns-clause-given : goal.returns-clause-given
returns-clause-given g c =
    let has : Done g.row.T.Denot → Bool = λ one. one.number == c.counterpart-number.result in
    let crew = c.args.crew.now in
    let one : Done g.row.T.Denot = c.remove.result in
    let value = c.remove.ensures.value in
    let found = found_within c.counterpart-number.result c.args.done.now.items c.in-Some.place one (ap (position has) (sym c.deref.ensures.value) ∙ sym c.position_of.ensures ∙ c.in-Some.is) value in
    let P : Done g.row.T.Denot → Type 0 = λ one. GivesWith (goal.F-post g crew.job.now) (counterpart crew.order crew.tasks one.number) one.out in
    let here = subst P (sym value) (c.requires.each c.in-Some.place one found.0) in
    subst (λ n. GivesWith (goal.F-post g crew.job.now) n one.out) (ap (counterpart crew.order crew.tasks) (found.1 ∙ c.counterpart-number.ensures) ∙ back_again crew.order crew.tasks c.args.task c.requires.task) here

pub returns-clause-left : goal.returns-clause-left
returns-clause-left g c x =
    let has : Done g.row.T.Denot → Bool = λ one. one.number == c.counterpart-number.result in
    let crew = c.args.crew.now in
    let one : Done g.row.T.Denot = c.remove.result in
    let removed = c.remove.ensures in
    let found = found_within c.counterpart-number.result c.args.done.now.items c.in-Some.place one (ap (position has) (sym c.deref.ensures.value) ∙ sym c.position_of.ensures ∙ c.in-Some.is) removed.value in
    let cut = times_cut x c.args.done.now.items c.in-Some.place one found.0 removed.value in
    let same : cond (nat_eq one.number x) 1 0 ≡ cond (nat_eq (counterpart crew.order crew.tasks c.args.task) x) 1 0 = ap {B = ℕ} (λ n. cond (nat_eq n x) 1 0) (found.1 ∙ c.counterpart-number.ensures) in
    let items = ap {B = ℕ} (λ all. times x (numbers all)) removed.items in
    omega (arith, cut, same, items)

pub returns-clause-each : goal.returns-clause-each
returns-clause-each g c =
    let crew = c.args.crew.now in
    let items = c.args.done.now.items in
    let place = c.in-Some.place in
    let P : Done g.row.T.Denot → Type 0 = λ one. GivesWith (goal.F-post g crew.job.now) (counterpart crew.order crew.tasks one.number) one.out in
    subst (All P) (sym c.remove.ensures.by_index.2) (All-append P (take place items) (drop (place + 1) items) (All-take P place items c.requires.each) (All-drop P (place + 1) items c.requires.each))
