use Rattle.dv_vault.proofs.Vocabulary.{Became, Begun, BreaksParts, BreaksWindow, Err, IfErr, List, Ok, OnOk, Part, Result, Some, TookRows, Vec, ap, arith, entry_of, length, map, opened_in, refl, rules, subst, sym, tables_whole, taken_first, true, whole_in, with_items, with_items_is, ◌∙◌, ◌≡◌}
use Rattle.dv_vault.proofs.{Broken.appending_breaks, Broken.err_passed, Broken.is_staged, Broken.of_error, Broken.opens_with, Broken.sealing_breaks, Parts.all_taken}
use Rattle.dv_vault.proofs.keeping.complete.Goals as goal

-- parts in their places
items_now : {Z : Type 0} (v : Vec Part Z) (lent new : List Part) → lent ≡ v.items → length new ≡ length lent → (with_items v new).items ≡ new
items_now v lent new was long = with_items_is v new (long ∙ ap length was ∙ sym v.ok.0)

-- what holds whatever is answered
on_any : {T E : Type 0} {P : Type 0} (r : Result T E) → P → OnOk r P
on_any (Ok x) p = p
on_any (Err e) p = tt

pub returns-in_err-append_all-clause-broke : goal.returns-in_err-append_all-clause-broke
returns-in_err-append_all-clause-broke g c =
    let begun = c.args.begun.now in
    let entries = map entry_of c.args.tables.now in
    let before = g.K.Keeper.store c.args.keeper.now in
    let after = g.K.Keeper.store c.append_all.new.keeper in
    let lent = c.deref_mut.result.now in
    let new = c.append_all.new.parts in
    let left : Begun = record { window = begun.window; parts = with_items begun.parts new; rows = begun.rows; weight = begun.weight } in
    let now : left.parts.items ≡ new = items_now begun.parts lent new c.deref_mut.ensures.value c.append_all.auto.parts in
    err_passed c.append_all.result c.from_residual.result (λ error. BreaksWindow true entries begun before after (record { error = error; begun = Some left })) (λ e same. search rules)
    (of_error c.append_all.result (λ error. BreaksWindow true entries begun before after (record { error = error; begun = Some left })) (λ error is.
    appending_breaks entries begun left refl refl refl before after (is_staged entries begun before c.requires.told) error
    (subst (λ parts. BreaksParts entries begun.parts.items before after error parts) (sym now)
    (subst (λ parts. BreaksParts entries parts before after error new) c.deref_mut.ensures.value
    (subst (λ r. IfErr r (λ error. BreaksParts entries lent before after error new)) is c.append_all.ensures.broke)))))

pub returns-clause-all : goal.returns-clause-all
returns-clause-all g c =
    let begun = c.args.begun.now in
    let lent = c.deref_mut.result.now in
    let now = items_now begun.parts lent c.append_all.new.parts c.deref_mut.ensures.value c.append_all.auto.parts in
    on_any c.seal.result (ap opened_in (now ∙ c.in_ok-append_all.ensures.taken) ∙ all_taken (length lent) lent (omega arith) ∙ ap whole_in c.deref_mut.ensures.value)

pub returns-clause-broke : goal.returns-clause-broke
returns-clause-broke g c =
    let begun = c.args.begun.now in
    let entries = map entry_of c.args.tables.now in
    let before = g.K.Keeper.store c.args.keeper.now in
    let mid = g.K.Keeper.store c.append_all.new.keeper in
    let after = g.K.Keeper.store c.seal.new.self in
    let lent = c.deref_mut.result.now in
    let new = c.append_all.new.parts in
    let left : Begun = record { window = begun.window; parts = with_items begun.parts new; rows = begun.rows; weight = begun.weight } in
    let now : left.parts.items ≡ new = items_now begun.parts lent new c.deref_mut.ensures.value c.append_all.auto.parts in
    let all : left.parts.items ≡ taken_first (length begun.parts.items) begun.parts.items = now ∙ c.in_ok-append_all.ensures.taken ∙ ap (λ parts. taken_first (length parts) parts) c.deref_mut.ensures.value in
    let told : Became (TookRows (tables_whole entries begun.parts.items)) before mid = subst (λ parts. Became (TookRows (tables_whole entries parts)) before mid) c.deref_mut.ensures.value c.in_ok-append_all.ensures.told in
    of_error c.seal.result (λ error. BreaksWindow true entries begun before after (record { error = error; begun = Some left })) (λ error is.
    sealing_breaks entries begun left refl refl refl all c.args.head.now c.requires.head before mid after (opens_with begun.window (tables_whole entries begun.parts.items) before mid (is_staged entries begun before c.requires.told) told) c.seal.result error is c.seal.ensures.change)
