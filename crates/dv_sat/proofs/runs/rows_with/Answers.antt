use Rattle.dv_sat.proofs.Vocabulary.{IsPartitionPoint-from_clause, MultiRow, Place, bytes_eq, is_gt, is_lt, multi_place, not, place_cmp, rules, take_rest, ◌&&◌, ◌==◌}
use Rattle.dv_sat.proofs.{RowPlacing.place_total, RowPlacing.rows_by_place, RowPlacing.same_place, RowPlacing.tied_place, Together.alike_tied, Together.before_first, Together.behind_last, Together.parted_rest, Together.run_is, Together.unlike_greater, Together.unlike_less}
use Rattle.dv_sat.proofs.runs.rows_with.Goals as goal

pub returns : goal.returns
returns c =
    let rows = c.args.rows.now in
    let parent = c.args.parent.now in
    let start = c.partition_point-start.result in
    let is = take_rest rows start in
    let order = rows_by_place rows c.requires in
    let at : Place = record { parent = parent; load = c.args.load } in
    let first = IsPartitionPoint-from_clause (λ (row : MultiRow). is_lt (place_cmp c.args.load parent row)) _ _ c.partition_point-start.ensures.partitioned (before_first place_total multi_place rows at order) (λ a r q k. search rules) in
    let second = IsPartitionPoint-from_clause (λ (row : MultiRow). not (is_gt (place_cmp c.args.load parent row))) _ _ c.partition_point-end.ensures.partitioned
    (parted_rest (λ (row : MultiRow). not (is_gt (place_cmp c.args.load parent row))) rows _ start is (behind_last place_total multi_place rows at order)) (λ a r q k. search rules) in
    run_is (λ (row : MultiRow). is_lt (place_cmp c.args.load parent row)) (λ (row : MultiRow). is_gt (place_cmp c.args.load parent row)) (λ (row : MultiRow). bytes_eq row.parent parent && row.load == c.args.load) rows _ start c.partition_point-end.result is
    c.partition_point-start.ensures.bound first c.partition_point-end.ensures.bound second
    (λ row less. unlike_less _ _ (tied_place row parent c.args.load) less) (λ row low high. alike_tied _ _ (same_place row parent c.args.load) low high) (λ row greater. unlike_greater _ _ (tied_place row parent c.args.load) greater)
