-- The orders of keys, and of links by their keys, are total.
use Rattle.std.specs.Cmp.{IsTotalOrder, on_total}
use Rattle.std.specs.Cmp.Lexicographic.{lists_total, nat_list_cmp_total}
use Rattle.dv_text.specs.declared.rows.Key.{Key}
use Rattle.dv_text.specs.Orders.{key_cmp}
use Rattle.dv_bridge.specs.KeyedRows.{KeyedRow}
use Rattle.dv_mart.specs.PathTables.{keyed_cmp}

pub key_total : IsTotalOrder key_cmp
key_total = on_total (λ (key : Key). key.parts) (lists_total nat_list_cmp_total)

pub keyed_total : IsTotalOrder keyed_cmp
keyed_total = on_total (λ (link : KeyedRow). link.keys) (lists_total key_total)
