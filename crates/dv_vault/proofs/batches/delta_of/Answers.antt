use Rattle.dv_vault.proofs.Vocabulary.{IsDelta, Some, TableRows, ap, entry_of, hashes_of, is_table_of, is_up_to, map, names_of_hubs, same_Some, slice_get-get_or, subst, sym, ◌∙◌}
use Rattle.dv_vault.proofs.{BatchSteps.entry_here, BatchesSoFar.passes_here}
use Rattle.dv_vault.proofs.batches.delta_of.Goals as goal

pub delta-requires-clause-table : goal.delta-requires-clause-table
delta-requires-clause-table g c = λ κs b.
    let (under, at) = entry_here c.args.tables.now c.args.place c.index-tables-place.result c.requires.place c.index-tables-place.is in
    passes_here (λ (entry : TableRows). is_table_of c.args.catalog.now entry.table) (map entry_of c.args.tables.now) c.args.place (entry_of c.index-tables-place.result) c.requires.tables under at

pub delta-requires-clause-dated : goal.delta-requires-clause-dated
delta-requires-clause-dated g c = λ κs b.
    let (under, at) = entry_here c.args.tables.now c.args.place c.index-tables-place.result c.requires.place c.index-tables-place.is in
    passes_here (λ (entry : TableRows). is_up_to c.args.window.now.window.now.load entry.rows) (map entry_of c.args.tables.now) c.args.place (entry_of c.index-tables-place.result) c.requires.dated under at

pub returns : goal.returns
returns g c entry there =
    let (under, at) = entry_here c.args.tables.now c.args.place c.index-tables-place.result c.requires.place c.index-tables-place.is in
    let own = entry_of c.index-tables-place.result in
    let same = same_Some own entry (sym (slice_get-get_or (map entry_of c.args.tables.now) c.args.place own under ∙ ap (λ e. Some e) at) ∙ there) in
    subst (λ e. IsDelta c.args.catalog.now (hashes_of g.H.KeyDigest.function) (names_of_hubs c.args.names.now) c.args.window.now.window.now e c.delta.result) same
    (record { rows = c.delta.ensures.rows; apart = c.delta.ensures.apart; collision = c.delta.ensures.collision; follow = c.delta.ensures.follow; stamped = c.delta.ensures.stamped })
