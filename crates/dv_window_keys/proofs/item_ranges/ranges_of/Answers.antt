use Rattle.dv_window_keys.proofs.Vocabulary.{All-nil, AreRanges, AreUpTo, ItemRange, List, [], ap, arith, length, length-append, subst, sym, ◌∷◌, ◌≤◌}
use Rattle.dv_window_keys.proofs.OfferedItems.{none_up_to, range_put, ranges_put}
use Rattle.dv_window_keys.proofs.item_ranges.ranges_of.Goals as goal

pub loop-task-init : goal.loop-task-init
loop-task-init c = record {
  are = subst (AreRanges (length c.args.items.now)) (sym c.new-ranges.ensures.items) (All-nil (λ (range : ItemRange). (range.from ≤ range.to) × (range.to ≤ length c.args.items.now)));
  many = ap (λ (all : List ItemRange). length all) c.new-ranges.ensures.items;
  all = none_up_to c.new-ranges.result.items;
  last = omega arith;
}

pub loop-task-preserved : goal.loop-task-preserved
loop-task-preserved c =
    let i = c.loop-task.invariant in
    let count = length c.args.items.now in
    let range = c.range_of-range.result in
    let made = c.range_of-range.ensures in
    let pushed = c.in_ok-push.ensures.items in
    let long = length-append c.loop-task.ranges.items (range ∷ []) in
    let many = i.many in
    let now = ap (λ (all : List ItemRange). length all) pushed in record {
      are = subst (AreRanges count) (sym pushed) (range_put count c.loop-task.ranges.items range i.are (subst (λ n. n ≤ range.to) (sym made.from) made.to.0) made.to.1);
      many = omega (arith, long, many, now);
      all = subst (λ (all : List ItemRange). AreUpTo all range.to) (sym pushed) (ranges_put c.loop-task.ranges.items range c.loop-task.end made.from i.all);
      last = made.to.1;
    }
