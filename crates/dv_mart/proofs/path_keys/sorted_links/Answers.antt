use Rattle.dv_mart.proofs.Vocabulary.{IfOk-weaker, KeyedRow, Mapping, ap, bare, feed_hubs, feed_links, keyed_cmp, keyed_row, map, map-map, named_within, sorted_by, ◌∙◌}
use Rattle.dv_mart.proofs.path_keys.sorted_links.Goals as goal

pub fronts_of-requires-clause-hubs : goal.fronts_of-requires-clause-hubs
fronts_of-requires-clause-hubs c =
    named_within c.args.vault.now.mapping c.catalog.ensures.valid c.catalog.result.now c.feed_hubs-hubs.result.now _ c.catalog.ensures.value c.feed_hubs-hubs.ensures

pub returns : goal.returns
returns c =
    let mapping = c.args.vault.now.mapping in
    let tables = c.args.vault.now.tables in
    let hubs_are = c.feed_hubs-hubs.ensures ∙ ap (λ (m : Mapping). feed_hubs m c.args.feed) c.catalog.ensures.value in
    let links_are = c.items.ensures ∙ c.in_ok-links.ensures in
    let fronts_are =
    c.in_ok-fronts.ensures
    ∙ (λ i. map (λ (link : KeyedRow). keyed_row mapping tables (hubs_are i) link.row) (links_are i))
    ∙ map-map (λ (link : KeyedRow). keyed_row mapping tables (feed_hubs mapping c.args.feed) link.row) bare (feed_links mapping tables c.args.date c.args.feed) in
    IfOk-weaker c.links_alone.result _ _ (λ links is. is ∙ c.in_ok-sorted_firsts.ensures ∙ ap (sorted_by keyed_cmp) fronts_are) c.links_alone.ensures
