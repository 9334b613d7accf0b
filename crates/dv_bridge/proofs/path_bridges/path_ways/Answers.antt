use Rattle.dv_bridge.proofs.Vocabulary.{AreFirstWays, Err, KeyedRow, List, Some, TooLarge, [], ap, arith, err_from_is_err_and, length, map, most_path_rows, slice_get-get_or, subst, sym, ◌+◌, ◌<◌, ◌∙◌, ◌∷◌, ◌≡◌}
use Rattle.dv_bridge.proofs.{PathBridges.one_feed, PathBridges.one_too_many, PathFeeds.path_facts}
use Rattle.dv_bridge.proofs.path_bridges.path_ways.Goals as goal

pub bounds-links-0 : goal.bounds-links-0
bounds-links-0 c =
    let facts = path_facts c.args.catalog.now c.note_valid.ensures c.args.path.now c.requires.path in
    omega (arith, facts.some_feeds, c.requires.links)

pub loop-place-init : goal.loop-place-init
loop-place-init c =
    let path = c.args.path.now in
    let links = c.args.links.now in
    let facts = path_facts c.args.catalog.now c.note_valid.ensures path c.requires.path in
    let at = slice_get-get_or path.feeds 0 0 (omega (arith, facts.some_feeds)) in
    let first_at = slice_get-get_or links 0 c.index-links-0.result (omega (arith, facts.some_feeds, c.requires.links)) ∙ ap Some (sym c.index-links-0.is) in
    one_feed c.args.catalog.now links path c.requires.links facts.one_less _ at c.index-links-0.result first_at c.in_ok-ways.ways
    (c.in_ok-ways.ensures.ok ∙ ap (map (λ (link : KeyedRow). link ∷ [])) c.items.ensures) c.in_ok-ways.ensures.few

pub loop-place-preserved : goal.loop-place-preserved
loop-place-preserved c =
    let count : c.loop-place.place + 2 ≡ c.loop-place.place + 1 + 1 = omega arith in
    subst (λ n. AreFirstWays c.args.catalog.now c.args.links.now c.args.path.now n c.go_on.new.ways) count (c.in_ok-go_on.ensures.ways c.loop-place.invariant)

pub returns-clause-ways : goal.returns-clause-ways
returns-clause-ways c =
    let count : c.loop-place.place + 1 ≡ length c.args.path.now.via + 1 = omega (arith, c.loop-place-test.false, c.loop-place.auto.place-end, ap length c.items-place-end.ensures) in
    subst (λ n. AreFirstWays c.args.catalog.now c.args.links.now c.args.path.now n c.loop-place.ways) count c.loop-place.invariant

pub returns-in_err-ways-clause-too_large : goal.returns-in_err-ways-clause-too_large
returns-in_err-ways-clause-too_large c =
    let path = c.args.path.now in
    let links = c.args.links.now in
    let facts = path_facts c.args.catalog.now c.note_valid.ensures path c.requires.path in
    let at = slice_get-get_or path.feeds 0 0 (omega (arith, facts.some_feeds)) in
    let first_at = slice_get-get_or links 0 c.index-links-0.result (omega (arith, facts.some_feeds, c.requires.links)) ∙ ap Some (sym c.index-links-0.is) in
    let p = err_from_is_err_and c.from_residual.result c.from_residual.ensures.1 in
    rw (p.1, p.2)
    (λ (large : Err _ ≡ Err TooLarge).
    let same : c.in_err-ways.field-0.0 ≡ TooLarge = cc in
    one_too_many c.args.catalog.now links path c.requires.links facts.one_less _ at c.index-links-0.result first_at
    (subst (λ (first : List KeyedRow). most_path_rows < length first) c.items.ensures (c.in_err-ways.ensures.too_large (ap Err same))))
