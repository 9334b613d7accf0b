use Rattle.dv_vault.proofs.Vocabulary.{ArePartsOf, Became, BreaksParts, Changes, List, Part, Table, TookRows, add-one, ap, arith, entry_of, get_or, is_of_kind, length, length-map, map, rules, set-get_or, slice_set, subst, sym, taken_first, taken_part, with_batch, ℕ, ◌<◌, ◌∙◌, ◌≡◌, ◌≤◌}
use Rattle.dv_vault.proofs.{BatchSteps.entry_here, Broken.err_passed, Broken.of_error, Parts.none_taken, Parts.taken_at, Parts.taken_long, Parts.taken_more, Parts.taken_whole, StoreSteps.as_many, StoreSteps.changed_ok, StoreSteps.own_part, StoreSteps.parts_break, StoreSteps.parts_first}
use Rattle.dv_vault.proofs.{StoreSteps.parts_kind, StoreSteps.parts_more}
use Rattle.dv_vault.proofs.keeping.append_all.Goals as goal

pub loop-i-init : goal.loop-i-init
loop-i-init g c = record {
  taken = sym (none_taken c.args.parts.now);
  told = parts_first (map entry_of c.args.tables.now) c.args.parts.now (g.K.Keeper.store c.args.keeper.now) c.requires.told;
  stays = λ told. told;
  later = omega arith;
}

-- there is a table for each part
tables_bound : (tables : List Table) (parts now : List Part) (i : ℕ) → ArePartsOf (map entry_of tables) parts → now ≡ taken_first i parts → i < length now → i < length tables
tables_bound tables parts now i are taken under =
    let many = as_many (map entry_of tables) parts are in
    let long = taken_long i parts in
    let same = ap length taken in
    let counted = length-map tables entry_of in
    omega (arith, many, long, same, counted, under)

pub bounds-tables-i : goal.bounds-tables-i
bounds-tables-i g c =
    let under : c.loop-i.i < length c.loop-i.parts = omega arith in
    tables_bound c.args.tables.now c.args.parts.now c.loop-i.parts c.loop-i.i c.requires.parts c.loop-i.invariant.taken under

-- the part of this turn is one that has not got what it lacks
own : (parts now : List Part) (i : ℕ) (part : Part) → now ≡ taken_first i parts → i < length now → part ≡ get_or now i part → (i < length parts) × (get_or parts i part ≡ part)
own parts now i part taken under is =
    let same = ap length taken in
    let long = taken_long i parts in
    let within : i < length parts = omega (arith, under, same, long) in
    (within, sym (taken_at parts i part within) ∙ ap (λ now. get_or now i part) (sym taken) ∙ sym is)

pub append_rest-requires-clause-opened : goal.append_rest-requires-clause-opened
append_rest-requires-clause-opened g c =
    let under : c.loop-i.i < length c.loop-i.parts = omega arith in
    let (within, at) = own c.args.parts.now c.loop-i.parts c.loop-i.i c.index-parts-i.result c.loop-i.invariant.taken under c.index-parts-i.is in
    let (there, here) = entry_here c.args.tables.now c.loop-i.i c.index-tables-i.result (tables_bound c.args.tables.now c.args.parts.now c.loop-i.parts c.loop-i.i c.requires.parts c.loop-i.invariant.taken under) c.index-tables-i.is in
    let kind = own_part (map entry_of c.args.tables.now) c.args.parts.now c.requires.parts c.requires.apart c.loop-i.i (entry_of c.index-tables-i.result) c.index-parts-i.result there here at in
    ap (λ (p : Part). is_of_kind c.id.result p.opened) (sym c.index-parts-i.is) ∙ ap (λ t. is_of_kind t c.index-parts-i.result.opened) c.id.ensures ∙ kind.opened

pub append_rest-requires-clause-rest : goal.append_rest-requires-clause-rest
append_rest-requires-clause-rest g c =
    let under : c.loop-i.i < length c.loop-i.parts = omega arith in
    let (within, at) = own c.args.parts.now c.loop-i.parts c.loop-i.i c.index-parts-i.result c.loop-i.invariant.taken under c.index-parts-i.is in
    let (there, here) = entry_here c.args.tables.now c.loop-i.i c.index-tables-i.result (tables_bound c.args.tables.now c.args.parts.now c.loop-i.parts c.loop-i.i c.requires.parts c.loop-i.invariant.taken under) c.index-tables-i.is in
    let kind = own_part (map entry_of c.args.tables.now) c.args.parts.now c.requires.parts c.requires.apart c.loop-i.i (entry_of c.index-tables-i.result) c.index-parts-i.result there here at in
    ap (λ (p : Part). is_of_kind c.id.result p.rest) (sym c.index-parts-i.is) ∙ ap (λ t. is_of_kind t c.index-parts-i.result.rest) c.id.ensures ∙ kind.rest

pub append_rest-requires-clause-stored : goal.append_rest-requires-clause-stored
append_rest-requires-clause-stored g c =
    let under : c.loop-i.i < length c.loop-i.parts = omega arith in
    let (within, at) = own c.args.parts.now c.loop-i.parts c.loop-i.i c.index-parts-i.result c.loop-i.invariant.taken under c.index-parts-i.is in
    let (there, here) = entry_here c.args.tables.now c.loop-i.i c.index-tables-i.result (tables_bound c.args.tables.now c.args.parts.now c.loop-i.parts c.loop-i.i c.requires.parts c.loop-i.invariant.taken under) c.index-tables-i.is in
    parts_kind (map entry_of c.args.tables.now) c.args.parts.now c.requires.parts c.requires.apart c.loop-i.i (entry_of c.index-tables-i.result) c.index-parts-i.result there here at c.id.result c.id.ensures
    (g.K.Keeper.store c.args.keeper.now) (g.K.Keeper.store c.loop-i.keeper) c.loop-i.invariant.told

pub returns-in_err-append_rest-clause-broke : goal.returns-in_err-append_rest-clause-broke
returns-in_err-append_rest-clause-broke g c =
    let under : c.loop-i.i < length c.loop-i.parts = omega arith in
    let (within, at) = own c.args.parts.now c.loop-i.parts c.loop-i.i c.index-parts-i.result c.loop-i.invariant.taken under c.index-parts-i.is in
    let (there, here) = entry_here c.args.tables.now c.loop-i.i c.index-tables-i.result (tables_bound c.args.tables.now c.args.parts.now c.loop-i.parts c.loop-i.i c.requires.parts c.loop-i.invariant.taken under) c.index-tables-i.is in
    let entries = map entry_of c.args.tables.now in
    let before = g.K.Keeper.store c.args.keeper.now in
    let after = g.K.Keeper.store c.append_rest.new.keeper in
    let left : slice_set c.loop-i.parts c.loop-i.i c.append_rest.new.part ≡ taken_first c.loop-i.i c.args.parts.now =
    ap (slice_set c.loop-i.parts c.loop-i.i) c.in_err-append_rest.ensures.kept ∙ set-get_or c.loop-i.parts c.loop-i.i c.index-parts-i.result ∙ c.loop-i.invariant.taken in
    err_passed c.append_rest.result c.from_residual.result (λ error. BreaksParts entries c.args.parts.now before after error (slice_set c.loop-i.parts c.loop-i.i c.append_rest.new.part)) (λ e same. search rules)
    (of_error c.append_rest.result (λ error. BreaksParts entries c.args.parts.now before after error (slice_set c.loop-i.parts c.loop-i.i c.append_rest.new.part)) (λ error is.
    subst (λ left. BreaksParts entries c.args.parts.now before after error left) (sym left)
    (parts_break entries c.args.parts.now c.requires.parts c.requires.apart c.loop-i.i (entry_of c.index-tables-i.result) c.index-parts-i.result there here at c.id.result c.id.ensures before (g.K.Keeper.store c.loop-i.keeper) after c.append_rest.result error is
    (subst (λ (p : Part). Changes (with_batch c.id.result p.rest) (g.K.Keeper.store c.loop-i.keeper) after c.append_rest.result) (sym c.index-parts-i.is) c.append_rest.ensures.change) c.loop-i.invariant.told)))

pub loop-i-preserved : goal.loop-i-preserved
loop-i-preserved g c =
    let under : c.loop-i.i < length c.loop-i.parts = omega arith in
    let (within, at) = own c.args.parts.now c.loop-i.parts c.loop-i.i c.index-parts-i.result c.loop-i.invariant.taken under c.index-parts-i.is in
    let (there, here) = entry_here c.args.tables.now c.loop-i.i c.index-tables-i.result (tables_bound c.args.tables.now c.args.parts.now c.loop-i.parts c.loop-i.i c.requires.parts c.loop-i.invariant.taken under) c.index-tables-i.is in
    let entries = map entry_of c.args.tables.now in
    let after = g.K.Keeper.store c.append_rest.new.keeper in
    let part : c.append_rest.new.part ≡ taken_part c.index-parts-i.result = c.in_ok-append_rest.ensures.taken ∙ ap taken_part (sym c.index-parts-i.is) in
    record {
      taken = (λ i. slice_set (c.loop-i.invariant.taken i) c.loop-i.i (part i)) ∙ taken_more c.args.parts.now c.loop-i.i c.index-parts-i.result within at ∙ ap (λ n. taken_first n c.args.parts.now) (sym (add-one c.loop-i.i));
      told = parts_more entries c.args.parts.now c.requires.parts c.requires.apart c.loop-i.i (entry_of c.index-tables-i.result) c.index-parts-i.result there here at c.id.result c.id.ensures (g.K.Keeper.store c.args.keeper.now) (g.K.Keeper.store c.loop-i.keeper) after
          (changed_ok (with_batch c.id.result c.index-parts-i.result.rest) (g.K.Keeper.store c.loop-i.keeper) after c.append_rest.result (search rules)
          (subst (λ (p : Part). Changes (with_batch c.id.result p.rest) (g.K.Keeper.store c.loop-i.keeper) after c.append_rest.result) (sym c.index-parts-i.is) c.append_rest.ensures.change))
          c.loop-i.invariant.told;
      stays = λ told. c.append_rest.ensures.stays (c.loop-i.invariant.stays told);
      later = omega (arith, c.loop-i.invariant.later, c.append_rest.ensures.cause.later);
    }

pub returns-clause-told : goal.returns-clause-told
returns-clause-told g c =
    let same = ap length c.loop-i.invariant.taken in
    let long = taken_long c.loop-i.i c.args.parts.now in
    let all : length c.args.parts.now ≤ c.loop-i.i = omega (arith, same, long) in
    subst (λ tables. Became (TookRows tables) (g.K.Keeper.store c.args.keeper.now) (g.K.Keeper.store c.loop-i.keeper)) (taken_whole c.loop-i.i (map entry_of c.args.tables.now) c.args.parts.now all) c.loop-i.invariant.told
