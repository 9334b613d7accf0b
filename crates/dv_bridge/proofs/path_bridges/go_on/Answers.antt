use Rattle.dv_bridge.proofs.Vocabulary.{AreFirstWays, KeyedRow, List, Some, ap, arith, length, most_path_rows, slice_get-get_or, subst, sym, ◌+◌, ◌<◌, ◌∙◌, ◌≡◌}
use Rattle.dv_bridge.proofs.{PathBridges.both_ok, PathBridges.feed_more, PathBridges.more_too_many, PathBridges.same_longer, PathFeeds.got_named, PathFeeds.path_facts}
use Rattle.dv_bridge.proofs.path_bridges.go_on.Goals as goal

pub offset_bounds-feeds-place : goal.offset_bounds-feeds-place
offset_bounds-feeds-place c =
    let facts = path_facts c.args.catalog.now c.note_valid.ensures c.args.path.now c.requires.path in
    omega (arith, facts.one_less, facts.few_feeds)

pub bounds-feeds-place : goal.bounds-feeds-place
bounds-feeds-place c =
    let facts = path_facts c.args.catalog.now c.note_valid.ensures c.args.path.now c.requires.path in
    omega (arith, facts.one_less, ap length c.items-feeds.ensures)

pub overflow_add-next : goal.overflow_add-next
overflow_add-next c =
    let facts = path_facts c.args.catalog.now c.note_valid.ensures c.args.path.now c.requires.path in
    omega (arith, facts.one_less, facts.few_feeds)

pub offset_bounds-feeds-place-2 : goal.offset_bounds-feeds-place-2
offset_bounds-feeds-place-2 c =
    let facts = path_facts c.args.catalog.now c.note_valid.ensures c.args.path.now c.requires.path in
    omega (arith, facts.one_less, facts.few_feeds)

pub bounds-feeds-place-2 : goal.bounds-feeds-place-2
bounds-feeds-place-2 c =
    let facts = path_facts c.args.catalog.now c.note_valid.ensures c.args.path.now c.requires.path in
    omega (arith, facts.one_less, ap length c.items-feeds.ensures)

pub offset_bounds-links-place : goal.offset_bounds-links-place
offset_bounds-links-place c =
    let facts = path_facts c.args.catalog.now c.note_valid.ensures c.args.path.now c.requires.path in
    omega (arith, facts.one_less, facts.few_feeds)

pub bounds-links-place : goal.bounds-links-place
bounds-links-place c =
    let facts = path_facts c.args.catalog.now c.note_valid.ensures c.args.path.now c.requires.path in
    omega (arith, facts.one_less, c.requires.links)

pub returns-clause-ways : goal.returns-clause-ways
returns-clause-ways c =
    let mapping = c.args.catalog.now in
    let links = c.args.links.now in
    let path = c.args.path.now in
    let ways = c.args.ways.now in
    let facts = path_facts mapping c.note_valid.ensures path c.requires.path in
    let last_at = got_named c.items-feeds.result.now path.feeds c.args.place c.items-feeds.ensures (omega (arith, facts.one_less)) in
    let next_at = got_named c.items-feeds.result.now path.feeds (c.args.place + 1) c.items-feeds.ensures (omega (arith, facts.one_less)) in
    let hub_at = got_named c.items.result.now path.via c.args.place c.items.ensures c.requires.place in
    let more_at = slice_get-get_or links (c.args.place + 1) c.index-links-place.result (omega (arith, facts.one_less, c.requires.links)) ∙ ap Some (sym c.index-links-place.is) in
    let joined = same_longer c.place_of-left.ensures.place c.place_of-right.ensures.place c.items-2.ensures ways in
    let count : c.args.place + 1 + 1 ≡ c.args.place + 2 = omega arith in
    both_ok c.go_on.result _ _ _ (λ u is few before.
    subst (λ n. AreFirstWays mapping links path n c.go_on.new.self) count
    (feed_more mapping links path c.requires.links facts.one_less c.args.place _ _ _ c.index-links-place.result last_at next_at hub_at more_at ways c.go_on.new.self (is ∙ joined) few before))
    c.go_on.ensures.ok c.go_on.ensures.few

pub returns-clause-too_large : goal.returns-clause-too_large
returns-clause-too_large c is before =
    let mapping = c.args.catalog.now in
    let links = c.args.links.now in
    let path = c.args.path.now in
    let ways = c.args.ways.now in
    let facts = path_facts mapping c.note_valid.ensures path c.requires.path in
    let last_at = got_named c.items-feeds.result.now path.feeds c.args.place c.items-feeds.ensures (omega (arith, facts.one_less)) in
    let next_at = got_named c.items-feeds.result.now path.feeds (c.args.place + 1) c.items-feeds.ensures (omega (arith, facts.one_less)) in
    let hub_at = got_named c.items.result.now path.via c.args.place c.items.ensures c.requires.place in
    let more_at = slice_get-get_or links (c.args.place + 1) c.index-links-place.result (omega (arith, facts.one_less, c.requires.links)) ∙ ap Some (sym c.index-links-place.is) in
    let joined = same_longer c.place_of-left.ensures.place c.place_of-right.ensures.place c.items-2.ensures ways in
    more_too_many mapping links path c.requires.links facts.one_less c.args.place _ _ _ c.index-links-place.result last_at next_at hub_at more_at ways
    (subst (λ (made : List (List KeyedRow)). most_path_rows < length made) joined (c.go_on.ensures.too_large is)) before
