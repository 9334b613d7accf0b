use Rattle.dv_restore.proofs.Vocabulary.{Damaged, Err, IsNamed, Mapping, Result, ap, arith, damage_at, entries_in, err_from_is_err_and, flaw_in, get_or, get_or_default, hashes_of, is_table_of, known_first, length, option_map, rows_in, subst, sym, table_at, table_name, ◌<◌, ◌∙◌, ◌≡◌}
use Rattle.dv_catalog.specs.declared.tables.TableId.TheVariants.{Hub}
use Rattle.dv_restore.proofs.GatherSteps.{gathered_damaged, gathered_more}
use Rattle.dv_restore.proofs.readings.gather.Goals as goal

same_fault : {T E : Type 0} (result : Result T E) (made fault told : E) → result ≡ Err made → made ≡ fault → result ≡ Err told → fault ≡ told
same_fault result made fault told is from e = cc

pub read_table-requires-after_bounds : goal.read_table-requires-after_bounds
read_table-requires-after_bounds g c κs within =
    let under : c.loop-id.id-index < length c.args.ids.now = omega (arith, c.loop-id-test.true) in
    ap (λ m. is_table_of m (get_or c.args.ids.now c.loop-id.id-index (Hub 0))) c.known-known.ensures.catalog_is ∙ table_at c.args.catalog.now c.args.ids.now c.loop-id.id-index (Hub 0) c.requires under

pub returns-in_err-made-clause-damaged : goal.returns-in_err-made-clause-damaged
returns-in_err-made-clause-damaged g c damage e =
    let first = known_first c.args.catalog.now (hashes_of g.H.KeyDigest.function) g.H.KeyDigest.function.width c.args.heads.now in
    let i = c.loop-id.id-index in
    let items = c.args.ids.now in
    let id = get_or items i (Hub 0) in
    let under : i < length items = omega (arith, c.loop-id-test.true) in
    let so_far = c.loop-id.invariant.gathered in
    let p = err_from_is_err_and c.from_residual.result c.from_residual.ensures.1 in
    let fault : c.in_err-made.field-0.0 ≡ Damaged damage = same_fault c.from_residual.result p.0 c.in_err-made.field-0.0 (Damaged damage) p.1 p.2 e in
    let found = c.in_err-made.ensures.damaged (record first { tables = entries_in c.loop-id.gathered }) (so_far.known c.known-known.result c.known-known.ensures) damage (ap Err fault) in
    gathered_damaged first (g.K.Keeper.store c.args.keeper.now) items c.requires i id under (get_or_default items i id (Hub 0) under) c.loop-id.gathered so_far damage
    (λ s is. ap (λ m. option_map (damage_at (table_name m id)) (flaw_in (record first { tables = entries_in c.loop-id.gathered }) id (rows_in id s.tables))) (sym c.known-known.ensures.catalog_is) ∙ found s (c.loop-id.invariant.kept ∙ is))

pub returns-in_err-made-clause-formed : goal.returns-in_err-made-clause-formed
returns-in_err-made-clause-formed g c damage e =
    let first = known_first c.args.catalog.now (hashes_of g.H.KeyDigest.function) g.H.KeyDigest.function.width c.args.heads.now in
    let p = err_from_is_err_and c.from_residual.result c.from_residual.ensures.1 in
    let fault : c.in_err-made.field-0.0 ≡ Damaged damage = same_fault c.from_residual.result p.0 c.in_err-made.field-0.0 (Damaged damage) p.1 p.2 e in
    subst (λ (m : Mapping). IsNamed m damage) c.known-known.ensures.catalog_is
    (c.in_err-made.ensures.formed (record first { tables = entries_in c.loop-id.gathered }) (c.loop-id.invariant.gathered.known c.known-known.result c.known-known.ensures) damage (ap Err fault))

pub loop-id-preserved : goal.loop-id-preserved
loop-id-preserved g c =
    let first = known_first c.args.catalog.now (hashes_of g.H.KeyDigest.function) g.H.KeyDigest.function.width c.args.heads.now in
    let i = c.loop-id.id-index in
    let items = c.args.ids.now in
    let id = get_or items i (Hub 0) in
    let under : i < length items = omega (arith, c.loop-id-test.true) in
    let so_far = c.loop-id.invariant.gathered in
    let before = record first { tables = entries_in c.loop-id.gathered } in
    let is = so_far.known c.known-known.result c.known-known.ensures in
    let made = c.in_ok-made.ensures in
    record {
      gathered = gathered_more first (g.K.Keeper.store c.args.keeper.now) items c.requires i id under (get_or_default items i id (Hub 0) under) c.loop-id.gathered so_far
          c.put.new.self c.in_ok-made.made.table c.in_ok-made.made.weight c.known-known.result c.known-known.ensures c.in_ok-put.ensures made.id made.weight (made.clear before is) (λ s e. made.told before is s (c.loop-id.invariant.kept ∙ e));
      kept = made.store ∙ c.loop-id.invariant.kept;
      later = omega (arith, made.later, c.loop-id.invariant.later);
    }
