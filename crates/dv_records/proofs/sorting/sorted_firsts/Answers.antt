use Rattle.dv_records.proofs.Vocabulary.{always_returns_same, dedup_same, firsts-sort_dedup, is_eq, is_lt, ranks_by, refl, rules, ◌∙◌}
use Rattle.dv_records.proofs.sorting.sorted_firsts.Goals as goal

pub returns : goal.returns
returns g c =
    let cmp = g.R.Ranked.rank_cmp in
    let total = g.met.R.Ranked.total in
    let sorted = c.in_ok-sort_by.ensures.sorted (λ x y. is_lt (cmp x y)) (ranks_by total (λ x. x)) (always_returns_same _ _ _ (λ a r f' called. search rules)) in
    let stable = c.in_ok-sort_by.ensures.stable (λ x y. is_lt (cmp x y)) (ranks_by total (λ x. x)) (always_returns_same _ _ _ (λ a r f' called. search rules)) in
    let kept = dedup_same _ (λ x y. is_eq (cmp x y)) _ (λ x y b f' x' y' called. search rules) _ _ c.dedup_by.ensures.filtered in
    c.from_vec.ensures ∙ kept ∙ firsts-sort_dedup total (λ x y. refl) c.args.rows.items _ sorted stable
