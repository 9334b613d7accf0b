use Rattle.dv_window_rules.proofs.Vocabulary.{Taken, arith, err_from_is_err_and, length, rules, sym, ◌<◌}
use Rattle.dv_window_rules.proofs.{FeedSteps.fault_told, FeedSteps.feed_absent, FeedSteps.feed_read, FeedSteps.rows_taken, stagings.stage_window.Goals.in-Some+in_ok-push, stagings.stage_window.Goals.in_default}
use Rattle.dv_window_rules.proofs.stagings.stage_window.Goals as goal

pub returns-in_err-read-clause-broken : goal.returns-in_err-read-clause-broken
returns-in_err-read-clause-broken c =
    let mapping = c.args.catalog.now in
    let extracts = c.args.given.now.extracts in
    let under : c.loop-feed.feed < length mapping.feeds = rw c.feed_count-feed-end.ensures.value at c.loop-feed-test.true in
    let p = err_from_is_err_and c.from_residual.result c.from_residual.ensures.1 in
    rw (p.1, p.2)
    (fault_told mapping extracts c.loop-feed.feed c.loop-feed.taken c.in_err-read.field-0.0 _ under c.in_err-read.ensures.broken c.loop-feed.invariant.rule)

pub loop-feed-preserved : goal.loop-feed-preserved
loop-feed-preserved c =
    let mapping = c.args.catalog.now in
    let extracts = c.args.given.now.extracts in
    let feed = c.loop-feed.feed in
    let taken = c.loop-feed.taken in
    let under : feed < length mapping.feeds = rw c.feed_count-feed-end.ensures.value at c.loop-feed-test.true in
    elim c.match-branch-2.branch [
      | in-Some+in_ok-push w ↦
          let some = sym (rw w.in-Some.is at c.in_ok-read.ensures.ok) in
          let place = rw w.in-Some.is at c.in_ok-read.ensures.place in
          let read = w.in-Some.read in
          rw (w.taken-is, w.extracts-is, w.in_ok-push.ensures.ok, w.from-taken.ensures)
          (record {
            within = omega (arith, under);
            counted = search rules;
            rule = rw (feed_read mapping extracts feed taken (Taken read.staged.rows read.taken) under some) at c.loop-feed.invariant.rule;
            extracts = rows_taken mapping extracts feed taken read.staged read.taken c.loop-feed.extracts _ under some place c.loop-feed.invariant.extracts;
          })
      | in_default w ↦
          let none = sym (rw w.in_default.is at c.in_ok-read.ensures.ok) in
          rw (w.taken-is, w.extracts-is)
          (record {
            within = omega (arith, under);
            counted = omega (arith, c.loop-feed.invariant.counted);
            rule = rw (feed_absent mapping extracts feed taken under none) at c.loop-feed.invariant.rule;
            extracts = rw (feed_absent mapping extracts feed taken under none) at c.loop-feed.invariant.extracts;
          })
    ]
