use Rattle.dv_window_rules.proofs.Vocabulary.{always_returns_same, is_lt, row_name_cmp, rules}
use Rattle.dv_window_rules.proofs.RowOrders.{order_told}
use Rattle.dv_window_rules.proofs.row_orders.are_in_order.Goals as goal

pub returns : goal.returns
returns c =
    order_told c.args.rows.now c.is_sorted_by.result
    (c.is_sorted_by.ensures.cases (λ before row. is_lt (row_name_cmp before row)) (always_returns_same _ _ _ (λ a r f' called. search rules)))
