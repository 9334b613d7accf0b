use Rattle.dv_vault.proofs.Vocabulary.{ClashesAt, Some, ap, arith, entry_of, hashes_of, length, length-map, map, names_of_hubs, slice_get, slice_get-get_or, subst, sym, ◌∙◌, ◌≡◌, ◌≤◌}
use Rattle.dv_vault.proofs.{BatchSteps.entry_here, BatchesSoFar.at_last, BatchesSoFar.clashed, BatchesSoFar.more_at}
use Rattle.dv_vault.proofs.batches.deltas_beside.Goals as goal

pub returns-in-Err-clause-clashes : goal.returns-in-Err-clause-clashes
returns-in-Err-clause-clashes g c =
    let entries = map entry_of c.args.tables.now in
    let entry = entry_of c.index-tables-place.result in
    let (under, at) = entry_here c.args.tables.now c.loop-place.place c.index-tables-place.result c.loop-place-test.true c.index-tables-place.is in
    let there : slice_get entries c.loop-place.place ≡ Some entry = slice_get-get_or entries c.loop-place.place entry under ∙ ap (λ e. Some e) at in
    subst (ClashesAt c.args.catalog.now (hashes_of g.H.KeyDigest.function) (names_of_hubs c.args.names.now) c.args.window.now.window.now entries) (sym c.fault_of.ensures)
    (clashed c.args.catalog.now (hashes_of g.H.KeyDigest.function) (names_of_hubs c.args.names.now) c.args.window.now.window.now entries c.loop-place.place c.loop-place.batches
    entry c.delta_at.result c.in-Err.fault c.id.result under at c.loop-place.invariant.so_far c.requires.tables c.in-Err.is (c.delta_at.ensures.delta entry there).collision c.id.ensures)

pub loop-place-preserved : goal.loop-place-preserved
loop-place-preserved g c =
    let entries = map entry_of c.args.tables.now in
    let entry = entry_of c.index-tables-place.result in
    let (under, at) = entry_here c.args.tables.now c.loop-place.place c.index-tables-place.result c.loop-place-test.true c.index-tables-place.is in
    let there : slice_get entries c.loop-place.place ≡ Some entry = slice_get-get_or entries c.loop-place.place entry under ∙ ap (λ e. Some e) at in
    let delta = (c.in-Ok.ensures {u = tt}).delta entry there in record {
      so_far = more_at c.args.catalog.now (hashes_of g.H.KeyDigest.function) (names_of_hubs c.args.names.now) c.args.window.now.window.now entries c.loop-place.place c.loop-place.batches
          c.push.new.self entry c.in-Ok.rows under at c.loop-place.invariant.so_far (c.in_ok-push-in-Ok.ensures {u = tt}).ok delta.rows delta.apart delta.follow delta.stamped;
      found = c.delta_at.ensures.found;
    }

pub returns-clause-apart : goal.returns-clause-apart
returns-clause-apart g c =
    let all : length (map entry_of c.args.tables.now) ≤ c.loop-place.place = omega (arith, c.loop-place-test.false, length-map c.args.tables.now entry_of) in
    (at_last c.args.catalog.now (hashes_of g.H.KeyDigest.function) (names_of_hubs c.args.names.now) c.args.window.now.window.now (map entry_of c.args.tables.now) c.loop-place.place c.loop-place.batches
    all c.loop-place.invariant.so_far).apart
