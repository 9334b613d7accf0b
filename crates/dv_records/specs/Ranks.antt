-- The orders in which rows are sorted are total.
use Rattle.std.specs.Cmp.{IsTotalOrder, nat_cmp_total, on_total, then_total}
use Rattle.std.specs.Cmp.Lexicographic.{lists_total, nat_list_cmp_total}
use Rattle.dv_text.specs.declared.rows.Key.{Key}
use Rattle.dv_records.specs.declared.mart_rows.Period.{Period}
use Rattle.dv_records.specs.declared.mart_rows.PeriodRow.{PeriodRow}
use Rattle.dv_records.specs.declared.raw_rows.MultiRow.{MultiRow}
use Rattle.dv_records.specs.declared.raw_rows.SatRow.{SatRow}
use Rattle.dv_records.specs.EffectPeriods.{parent_period_cmp}
use Rattle.dv_records.specs.Marts.{period_cmp}
use Rattle.dv_records.specs.Satellites.{multi_cmp, sat_cmp}

pub sat_total : IsTotalOrder sat_cmp
sat_total = on_total (λ (row : SatRow). row.parent) nat_list_cmp_total

pub multi_total : IsTotalOrder multi_cmp
multi_total = then_total (on_total (λ (row : MultiRow). row.parent) nat_list_cmp_total) (on_total (λ (row : MultiRow). row.sub) (lists_total nat_list_cmp_total))

pub parent_period_total : IsTotalOrder parent_period_cmp
parent_period_total = then_total (on_total (λ (period : Period). period.parent) nat_list_cmp_total) (on_total (λ (period : Period). period.begin) nat_cmp_total)

pub period_total : IsTotalOrder period_cmp
period_total =
    then_total (on_total (λ (row : PeriodRow). row.refs) (lists_total (on_total (λ (key : Key). key.parts) (lists_total nat_list_cmp_total)))) (on_total (λ (row : PeriodRow). row.begin) nat_cmp_total)
