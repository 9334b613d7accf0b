use Rattle.dv_bridge.proofs.Vocabulary.{arith, length, most_references, position-Some, refl, sym, ◌==◌, ◌∙◌, ◌≤◌}
use Rattle.dv_bridge.proofs.PathFeeds.{few_named}
use Rattle.dv_bridge.proofs.path_bridges.place_of.Goals as goal

pub overflow_cast-result : goal.overflow_cast-result
overflow_cast-result c =
    let few : length c.feed_hubs-hubs.result.now ≤ most_references = few_named c.args.catalog.now c.note_valid.ensures _ _ _ refl c.feed_hubs-hubs.ensures in
    let found = position-Some (λ h. h == c.args.hub) c.feed_hubs-hubs.result.now c.in-Some.place 0 (sym c.position_of.ensures ∙ c.in-Some.is) in
    omega (arith, few, found.0)

pub overflow_cast-result-in-None : goal.overflow_cast-result-in-None
overflow_cast-result-in-None c =
    let few : length c.feed_hubs-hubs.result.now ≤ most_references = few_named c.args.catalog.now c.note_valid.ensures _ _ _ refl c.feed_hubs-hubs.ensures in
    omega (arith, few)

pub returns-in-Some-clause-few : goal.returns-in-Some-clause-few
returns-in-Some-clause-few c =
    let few : length c.feed_hubs-hubs.result.now ≤ most_references = few_named c.args.catalog.now c.note_valid.ensures _ _ _ refl c.feed_hubs-hubs.ensures in
    let found = position-Some (λ h. h == c.args.hub) c.feed_hubs-hubs.result.now c.in-Some.place 0 (sym c.position_of.ensures ∙ c.in-Some.is) in
    omega (arith, few, found.0)

pub returns-in-None-clause-few : goal.returns-in-None-clause-few
returns-in-None-clause-few c =
    let few : length c.feed_hubs-hubs.result.now ≤ most_references = few_named c.args.catalog.now c.note_valid.ensures _ _ _ refl c.feed_hubs-hubs.ensures in
    omega (arith, few)
