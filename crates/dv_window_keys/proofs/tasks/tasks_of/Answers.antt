use Rattle.dv_window_keys.proofs.Vocabulary.{Contains, Contains-get_or, List, Staged, Task, [], ap, feed_tasks, flat_map, flat_map_more, slice_get_within, subst, sym, take, take_more, ◌++◌, ◌∙◌, ◌∷◌}
use Rattle.dv_window_keys.proofs.{TaskFacts.few_tasks, WindowFacts.rows_of_staged}
use Rattle.dv_window_keys.proofs.tasks.tasks_of.Goals as goal

pub add_feed-requires : goal.add_feed-requires
add_feed-requires c =
    let staged = c.staged-item.result in
    let has : Contains c.args.window.now.extracts staged =
    subst (λ (all : List Staged). Contains all staged) c.items-staged-items.ensures
    (subst (Contains c.items-staged-items.result.now) (sym c.staged-item.is) (Contains-get_or c.items-staged-items.result.now c.loop-staged.staged-index staged c.loop-staged-test.true)) in
    let (feed, got, are) = rows_of_staged c.args.catalog.now c.args.window.now c.requires.window staged has in
    slice_get_within c.args.catalog.now.feeds staged.feed feed got

pub loop-staged-preserved : goal.loop-staged-preserved
loop-staged-preserved c =
    let of = λ (staged : Staged). feed_tasks c.args.catalog.now staged.feed in
    let items = c.items-staged-items.result.now in
    let at = c.loop-staged.staged-index in
    let staged = c.staged-item.result in
    c.in_ok-add_feed.ensures ∙ ap (λ (all : List Task). all ++ of staged) c.loop-staged.invariant ∙ flat_map_more of [] (take at items) staged
    ∙ ap (flat_map of) (sym (take_more items at staged c.loop-staged-test.true ∙ ap (λ last. take at items ++ last ∷ []) (sym c.staged-item.is)))

pub returns-clause-few : goal.returns-clause-few
returns-clause-few c = few_tasks c.args.catalog.now c.requires.valid c.args.window.now c.requires.window

pub returns-in_err-add_feed-clause-few : goal.returns-in_err-add_feed-clause-few
returns-in_err-add_feed-clause-few c = few_tasks c.args.catalog.now c.requires.valid c.args.window.now c.requires.window
