use Rattle.dv_track.proofs.Vocabulary.{Bool, List, ascending-sorted_by, digest_cmp, filter, missing_in, nat_list_cmp_total, refl, sorted_by, there_at, ℕ, ◌∙◌, ◌≡◌}
use Rattle.dv_track.proofs.PutIn.{both_sorted, merged}
use Rattle.dv_track.proofs.presences.update.Goals as goal

pub take_out-requires-clause-others : goal.take_out-requires-clause-others
take_out-requires-clause-others g c = rw (c.deref.ensures.value, c.sort_distinct.ensures.value) (ascending-sorted_by digest_cmp nat_list_cmp_total c.args.touched.now.items)

pub merge-requires-clause-olds : goal.merge-requires-clause-olds
merge-requires-clause-olds g c =
    let touched = c.args.touched.now.items in
    rw (c.take_out.ensures.items, c.deref.ensures.value, c.sort_distinct.ensures.value)
    (both_sorted (λ parent. there_at g.R.Placed.place g.R.Telling.says c.args.indexed.now.rows parent c.args.date) c.args.present.now.items (sorted_by digest_cmp touched) c.requires.order (ascending-sorted_by digest_cmp nat_list_cmp_total touched)).0

pub merge-requires-clause-news : goal.merge-requires-clause-news
merge-requires-clause-news g c =
    let touched = c.args.touched.now.items in
    rw (c.deref-2.ensures.value, c.keep_there.ensures.items, c.sort_distinct.ensures.value)
    (both_sorted (λ parent. there_at g.R.Placed.place g.R.Telling.says c.args.indexed.now.rows parent c.args.date) c.args.present.now.items (sorted_by digest_cmp touched) c.requires.order (ascending-sorted_by digest_cmp nat_list_cmp_total touched)).1

pub returns-clause-present : goal.returns-clause-present
returns-clause-present g c =
    let touched = sorted_by digest_cmp c.args.touched.now.items in
    let passes : List ℕ → Bool = λ parent. there_at g.R.Placed.place g.R.Telling.says c.args.indexed.now.rows parent c.args.date in
    let kept : c.take_out.new.digests.items ≡ missing_in touched c.args.present.now.items = c.take_out.ensures.items ∙ rw (c.deref.ensures.value, c.sort_distinct.ensures.value) refl in
    let new : c.deref-2.result.now ≡ filter passes touched = c.deref-2.ensures.value ∙ c.keep_there.ensures.items ∙ rw c.sort_distinct.ensures.value refl in
    merged passes c.args.present.now.items touched c.requires.order (ascending-sorted_by digest_cmp nat_list_cmp_total c.args.touched.now.items) c.merge.new.digests.items
    (rw (kept, new) at c.merge.ensures.each) c.merge.ensures.ordered
