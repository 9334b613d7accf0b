use Rattle.dv_window.proofs.Vocabulary.{AreTried, Taken, arith, err_from_is_err_and, fault_told, feed_absent, feed_read, rows_taken, rules, subst, sym, valid_parts}
use Rattle.dv_window.proofs.{TriedFeeds.tried_behind, TriedFeeds.tried_first, TriedFeeds.tried_within, stagings.stage_side_by_side.Goals.in-Some-2+in_ok-push, stagings.stage_side_by_side.Goals.in_default}
use Rattle.dv_window.proofs.stagings.stage_side_by_side.Goals as goal

pub with_room-requires-clause-tried : goal.with_room-requires-clause-tried
with_room-requires-clause-tried g c =
    let mapping = c.args.catalog.now in
    let extracts = c.args.given.now.extracts in
    let all = subst (AreTried mapping extracts c.loop-tried.feed) (c.in-Some.ensures {u = tt}).steps.0 c.loop-tried.invariant.tried in
    tried_first mapping extracts c.loop-tried.feed c.in-Some.tried c.next.new.self.rest.items all

pub returns-in_err-read-clause-broken : goal.returns-in_err-read-clause-broken
returns-in_err-read-clause-broken g c =
    let mapping = c.args.catalog.now in
    let extracts = c.args.given.now.extracts in
    let all = subst (AreTried mapping extracts c.loop-tried.feed) (c.in-Some.ensures {u = tt}).steps.0 c.loop-tried.invariant.tried in
    let under = tried_within mapping extracts c.loop-tried.feed c.in-Some.tried c.next.new.self.rest.items all in
    let p = err_from_is_err_and c.from_residual-in_err-read.result c.from_residual-in_err-read.ensures.1 in
    rw (p.1, p.2)
    (fault_told mapping extracts c.loop-tried.feed c.loop-tried.taken c.in_err-read.field-0.0 _ under c.in_err-read.ensures.broken c.loop-tried.invariant.rule)

pub overflow_add-feed : goal.overflow_add-feed
overflow_add-feed g c =
    let mapping = c.args.catalog.now in
    let extracts = c.args.given.now.extracts in
    let all = subst (AreTried mapping extracts c.loop-tried.feed) (c.in-Some.ensures {u = tt}).steps.0 c.loop-tried.invariant.tried in
    let under = tried_within mapping extracts c.loop-tried.feed c.in-Some.tried c.next.new.self.rest.items all in
    let few = (valid_parts mapping c.note_valid.ensures).few_feeds in
    omega (arith, under, few)

pub loop-tried-preserved : goal.loop-tried-preserved
loop-tried-preserved g c =
    let mapping = c.args.catalog.now in
    let extracts = c.args.given.now.extracts in
    let feed = c.loop-tried.feed in
    let taken = c.loop-tried.taken in
    let all = subst (AreTried mapping extracts feed) (c.in-Some.ensures {u = tt}).steps.0 c.loop-tried.invariant.tried in
    let under = tried_within mapping extracts feed c.in-Some.tried c.next.new.self.rest.items all in
    let behind = tried_behind mapping extracts feed c.in-Some.tried c.next.new.self.rest.items all in
    elim c.match-branch-3.branch [
      | in-Some-2+in_ok-push w ↦
          let some = sym (rw w.in-Some-2.is at c.in_ok-read.ensures.ok) in
          let place = rw w.in-Some-2.is at c.in_ok-read.ensures.place in
          let read = w.in-Some-2.read in
          rw (w.taken-is, w.extracts-is, w.in_ok-push.ensures.ok, w.from-taken.ensures)
          (record {
            tried = behind;
            counted = search rules;
            rule = rw (feed_read mapping extracts feed taken (Taken read.staged.rows read.taken) under some) at c.loop-tried.invariant.rule;
            extracts = rows_taken mapping extracts feed taken read.staged read.taken c.loop-tried.extracts _ under some place c.loop-tried.invariant.extracts;
          })
      | in_default w ↦
          let none = sym (rw w.in_default.is at c.in_ok-read.ensures.ok) in
          rw (w.taken-is, w.extracts-is)
          (record {
            tried = behind;
            counted = omega (arith, c.loop-tried.invariant.counted);
            rule = rw (feed_absent mapping extracts feed taken under none) at c.loop-tried.invariant.rule;
            extracts = rw (feed_absent mapping extracts feed taken under none) at c.loop-tried.invariant.extracts;
          })
    ]
