use Rattle.dv_sat.proofs.Vocabulary.{Equal, IsPartitionPoint-from_clause, NRow, is_gt, is_lt, not, refs_cmp, refs_eq, refs_eq-Decides, refs_exact, refs_total, rules, take_rest, tied_itself, true, ◌≡◌}
use Rattle.dv_sat.proofs.Together.{alike_tied, before_first, behind_last, not_less, parted_rest, run_is, sorted_by_key, unlike_greater, unlike_less}
use Rattle.dv_sat.proofs.runs.rows_of_list.Goals as goal

pub returns : goal.returns
returns c =
    let tied : (row : NRow) → refs_eq row.refs c.args.refs.now ≡ true → refs_cmp row.refs c.args.refs.now ≡ Equal = λ row e. rw ((refs_eq-Decides row.refs c.args.refs.now).0 e) (tied_itself refs_total c.args.refs.now) in
    let same : (row : NRow) → refs_cmp row.refs c.args.refs.now ≡ Equal → refs_eq row.refs c.args.refs.now ≡ true = λ row e. (refs_eq-Decides row.refs c.args.refs.now).1 (refs_exact row.refs c.args.refs.now e) in
    let rows = c.args.rows.now in
    let refs = c.args.refs.now in
    let start = c.partition_point-start.result in
    let is = take_rest rows start in
    let order = sorted_by_key refs_total (λ (row : NRow). row.refs) rows _ (λ a b less. not_less refs_total a.refs b.refs _ less) c.requires in
    let first = IsPartitionPoint-from_clause (λ (row : NRow). is_lt (refs_cmp row.refs refs)) _ _ c.partition_point-start.ensures.partitioned (before_first refs_total (λ (row : NRow). row.refs) rows refs order) (λ a r q k. search rules) in
    let second = IsPartitionPoint-from_clause (λ (row : NRow). not (is_gt (refs_cmp row.refs refs))) _ _ c.partition_point-end.ensures.partitioned
    (parted_rest (λ (row : NRow). not (is_gt (refs_cmp row.refs refs))) rows _ start is (behind_last refs_total (λ (row : NRow). row.refs) rows refs order)) (λ a r q k. search rules) in
    run_is (λ (row : NRow). is_lt (refs_cmp row.refs refs)) (λ (row : NRow). is_gt (refs_cmp row.refs refs)) (λ (row : NRow). refs_eq row.refs refs) rows _ start c.partition_point-end.result is
    c.partition_point-start.ensures.bound first c.partition_point-end.ensures.bound second
    (λ row less. unlike_less _ _ (tied row) less) (λ row low high. alike_tied _ _ (same row) low high) (λ row greater. unlike_greater _ _ (tied row) greater)
