use Rattle.dv_index.proofs.Vocabulary.{AreEntries, Entry, arith, get_or, latest_at, length, length-map, numbers_of, option_map, parents_of, sym, take, take_all, ◌∙◌, ◌≡◌}
use Rattle.dv_index.proofs.{Latest.latest_is, Runs.latest_parts, Runs.mapped_or, Runs.order_newer, Runs.order_older, Runs.runs_within, Scattered.all_answered, Scattered.asked_more, Scattered.asked_within, Scattered.one_answered}
use Rattle.dv_index.proofs.askings.answers.Goals as goal

pub split_at-requires : goal.split_at-requires
split_at-requires g c = runs_within g.R.Placed.place c.args.rows.now c.args.index.now c.args.recent.now c.requires.runs

pub count_near-older_count-requires-clause-order : goal.count_near-older_count-requires-clause-order
count_near-older_count-requires-clause-order g c = order_older g.R.Placed.place c.split_at.result.1.now c.split_at.result.0.now (rw c.split_at.ensures.by_index.0 at c.requires.order)

pub count_near-newer_count-requires-clause-order : goal.count_near-newer_count-requires-clause-order
count_near-newer_count-requires-clause-order g c = order_newer g.R.Placed.place c.split_at.result.1.now c.split_at.result.0.now (rw c.split_at.ensures.by_index.0 at c.requires.order)

pub bounds-parents-entry : goal.bounds-parents-entry
bounds-parents-entry g c = asked_within (length c.args.parents.now) c.args.asked.now c.requires.asked c.loop-entry.entry-index c.loop-entry-test.true (record { prefix = 0; number = 0 })

pub offset_bounds-parents-entry : goal.offset_bounds-parents-entry
offset_bounds-parents-entry g c = let inside = bounds-parents-entry g c in omega arith

pub index_mut-requires : goal.index_mut-requires
index_mut-requires g c =
    let within = asked_within (length c.args.parents.now) c.args.asked.now c.requires.asked c.loop-entry.entry-index c.loop-entry-test.true (record { prefix = 0; number = 0 }) in
    omega (arith, within, c.loop-entry.invariant.answered.long)

pub loop-entry-preserved : goal.loop-entry-preserved
loop-entry-preserved g c =
    let i = c.loop-entry.entry-index in
    let none : Entry = record { prefix = 0; number = 0 } in
    let asked = c.args.asked.now in
    let within = asked_within (length c.args.parents.now) asked c.requires.asked i c.loop-entry-test.true none in
    let more = asked_more (length c.args.parents.now) asked c.requires.asked i c.loop-entry-test.true none in
    let parent = c.index-parents-entry.result in
    let place = g.R.Placed.place in
    let older = c.split_at.result.0.now in
    let newer = c.split_at.result.1.now in
    let parts = c.split_at.ensures.by_index.0 in
    let runs_older : AreEntries (parents_of place older) c.args.index.now = rw c.split_at.ensures.front c.requires.runs.older in
    let runs_newer : AreEntries (parents_of place newer) c.args.recent.now = rw c.split_at.ensures.back c.requires.runs.newer in
    let older_count = c.count_near-older_count in
    let newer_count = c.count_near-newer_count in
    let first =
    c.row_before-in-loop-entry.ensures
    ∙ latest_is place older (numbers_of c.args.index.now) runs_older.index parent c.args.date older_count.result (omega (arith, older_count.ensures.within, length-map c.args.index.now (λ (entry : Entry). entry.number))) older_count.ensures.point in
    let second =
    c.row_before.ensures
    ∙ latest_is place newer (numbers_of c.args.recent.now) runs_newer.index parent c.args.date newer_count.result (omega (arith, newer_count.ensures.within, length-map c.args.recent.now (λ (entry : Entry). entry.number))) newer_count.ensures.point in
    let answer : option_map (λ row. row.now) c.or.result ≡ latest_at place c.args.rows.now parent c.args.date = rw (parts, latest_parts place parent older newer c.args.date, c.or.ensures, ← first, ← second) (mapped_or _ _ _) in
    record {
      older = older_count.ensures.within;
      newer = newer_count.ensures.within;
      answered =
          rw more (one_answered (option_map (λ row. row.now)) (λ parent. latest_at g.R.Placed.place c.args.rows.now parent c.args.date) c.args.parents.now
          (take i (numbers_of asked)) c.loop-entry.found.items (get_or asked i none).number parent c.or.result c.loop-entry.invariant.answered within (sym c.index-parents-entry.is) answer);
    }

pub returns : goal.returns
returns g c =
    let long = length-map c.args.asked.now (λ (entry : Entry). entry.number) in
    let all = take_all c.loop-entry.entry-index (numbers_of c.args.asked.now) (omega (arith, long, c.loop-entry-test.false)) in
    all_answered (option_map (λ row. row.now)) (λ parent. latest_at g.R.Placed.place c.args.rows.now parent c.args.date) c.args.parents.now (numbers_of c.args.asked.now) c.loop-entry.found.items c.requires.asked
    (rw all at c.loop-entry.invariant.answered)
