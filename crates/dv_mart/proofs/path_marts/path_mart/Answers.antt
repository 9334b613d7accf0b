use Rattle.dv_mart.proofs.Vocabulary.{AreFirstWays, Err, HasTooManyWays, Mapping, Some, ap, err_from_is_err_and, got_member, is_link_feed, keyed_links, length, list_all, map, slice_get, subst, sym, true, valid_path, ◌+◌, ◌∙◌, ◌≡◌}
use Rattle.dv_mart.proofs.PathMarts.{fault_told, mart_along, mart_fits, mart_too_many}
use Rattle.dv_mart.proofs.path_marts.path_mart.Goals as goal

pub all_sorted_links-requires-clause-feeds : goal.all_sorted_links-requires-clause-feeds
all_sorted_links-requires-clause-feeds c =
    let mapping = c.args.vault.now.mapping in
    let at = subst (λ (m : Mapping). slice_get m.paths c.args.path ≡ Some c.path-definition.result.now) c.catalog-catalog.ensures.value c.path-definition.ensures in
    subst (λ feeds. list_all (λ feed. is_link_feed (slice_get mapping.feeds feed)) feeds ≡ true) (sym c.items-feeds.ensures) (valid_path mapping c.catalog-catalog.ensures.valid c.args.path c.path-definition.result.now at).of_links

pub path_ways-requires-clause-path : goal.path_ways-requires-clause-path
path_ways-requires-clause-path c = got_member c.catalog-catalog.result.now.paths c.args.path c.path-definition.result.now c.path-definition.ensures

pub returns-clause-mart : goal.returns-clause-mart
returns-clause-mart c hashes sealed zeros has =
    let raw = c.args.vault.now in
    let path = c.path-definition.result.now in
    let at = subst (λ (m : Mapping). slice_get m.paths c.args.path ≡ Some path) c.catalog-catalog.ensures.value c.path-definition.ensures in
    let links_are = c.deref.ensures.value ∙ c.in_ok-links.ensures ∙ ap (map (keyed_links raw.mapping raw.tables c.args.date)) c.items-feeds.ensures in
    let are = subst (λ (m : Mapping). AreFirstWays m c.deref.result.now path (length path.via + 1) c.in_ok-ways.ways) c.catalog-catalog.ensures.value c.in_ok-ways.ensures.ways in
    c.in_ok-copied_rows.ensures ∙ mart_along raw c.args.date path hashes sealed zeros has c.catalog-catalog.ensures.valid c.args.path at c.deref.result.now links_are c.in_ok-ways.ways are

pub returns-clause-fits : goal.returns-clause-fits
returns-clause-fits c hashes sealed zeros has =
    let raw = c.args.vault.now in
    let path = c.path-definition.result.now in
    let at = subst (λ (m : Mapping). slice_get m.paths c.args.path ≡ Some path) c.catalog-catalog.ensures.value c.path-definition.ensures in
    let links_are = c.deref.ensures.value ∙ c.in_ok-links.ensures ∙ ap (map (keyed_links raw.mapping raw.tables c.args.date)) c.items-feeds.ensures in
    let are = subst (λ (m : Mapping). AreFirstWays m c.deref.result.now path (length path.via + 1) c.in_ok-ways.ways) c.catalog-catalog.ensures.value c.in_ok-ways.ensures.ways in
    mart_fits raw c.args.date path hashes sealed zeros has c.catalog-catalog.ensures.valid c.args.path at c.deref.result.now links_are c.in_ok-ways.ways are

pub returns-in_err-ways-clause-too_large : goal.returns-in_err-ways-clause-too_large
returns-in_err-ways-clause-too_large c large hashes sealed zeros has =
    let raw = c.args.vault.now in
    let path = c.path-definition.result.now in
    let at = subst (λ (m : Mapping). slice_get m.paths c.args.path ≡ Some path) c.catalog-catalog.ensures.value c.path-definition.ensures in
    let links_are = c.deref.ensures.value ∙ c.in_ok-links.ensures ∙ ap (map (keyed_links raw.mapping raw.tables c.args.date)) c.items-feeds.ensures in
    let p = err_from_is_err_and c.from_residual-in_err-ways.result c.from_residual-in_err-ways.ensures.1 in
    let told = fault_told c.from_residual-in_err-ways.result c.in_err-ways.field-0.0 p.0 p.1 p.2 large in
    let many = subst (λ (m : Mapping). HasTooManyWays m c.deref.result.now path) c.catalog-catalog.ensures.value (c.in_err-ways.ensures.too_large (ap Err told)) in
    mart_too_many raw c.args.date path hashes sealed zeros has c.catalog-catalog.ensures.valid c.args.path at c.deref.result.now links_are many
