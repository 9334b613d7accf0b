use Rattle.dv_contents.proofs.Vocabulary.{FeedDef, RawVault, Some, filter_map, got_from, is_valid, length, period_read, slice_get, subst, sym, true, ◌<◌, ◌∙◌, ◌≡◌}
use Rattle.dv_contents.proofs.PeriodFacts.{effect_within, periods_by, periods_told}
use Rattle.dv_contents.proofs.feed_periods.periods.Goals as goal

pub unreachable-requires : goal.unreachable-requires
unreachable-requires c = (c.in_default.ensures {u = tt}).absent c.requires.driven

pub periods_read-requires : goal.periods_read-requires
periods_read-requires c = subst (λ (vault : RawVault). c.args.feed < length vault.mapping.feeds) (sym c.new-lender.ensures) (effect_within c.args.vault.now.mapping c.args.feed c.requires.driven)

pub returns-clause-read : goal.returns-clause-read
returns-clause-read c =
    let vault = c.args.vault.now in
    let (definition, got) = got_from vault.mapping.feeds c.args.feed (effect_within vault.mapping c.args.feed c.requires.driven) in
    let rows_are = subst (λ (vault : RawVault). (definition : FeedDef) → slice_get vault.mapping.feeds c.args.feed ≡ Some definition → c.in_ok-rows.rows.items ≡ filter_map (period_read vault.mapping vault.tables definition) c.items-2.result.now)
    c.new-lender.ensures (c.in_ok-rows.ensures {u = tt}) in
    (c.in_ok-rows-2.ensures {u = tt})
    ∙ periods_by vault.mapping vault.tables c.args.feed c.args.date definition c.in_ok-rows.rows.items c.items-2.result.now c.in-Some.table.now.rows got c.in-Some.ensures.rows
    (c.items-2.ensures ∙ c.in_ok-periods.ensures {u = tt}) (rows_are definition got)

pub returns-clause-told : goal.returns-clause-told
returns-clause-told c hashes sealed has =
    returns-clause-read c
    ∙ periods_told hashes sealed c.args.vault.now has (subst (λ (vault : RawVault). is_valid vault.mapping ≡ true) c.new-lender.ensures c.new-lender.result.valid) c.args.feed c.args.date c.requires.driven
