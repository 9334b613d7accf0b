use Rattle.dv_window_rules.proofs.Vocabulary.{always_returns_same, is_lt, nat_cmp, rules}
use Rattle.dv_window_rules.proofs.WindowForms.{feeds_told}
use Rattle.dv_window_rules.proofs.forms.feeds_ascend.Goals as goal

pub returns : goal.returns
returns c =
    feeds_told c.args.extracts.now c.is_sorted_by.result
    (c.is_sorted_by.ensures.cases (λ before staged. is_lt (nat_cmp before.feed staged.feed)) (always_returns_same _ _ _ (λ a r f' called. search rules)))
