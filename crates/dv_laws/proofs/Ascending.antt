-- The rows of a batch ascend strictly.
use Rattle.dv_laws.proofs.Vocabulary.{EffectRow, Extract, ExtractBatchesAscend, Hashes, Hub, HubRow, Link, LinkRow, List, Mapping, SatRow, StatusRow, Window, WindowBatchesAscend, all_refs, ascending-sorted_by, deliveries, effect_cmp, effect_row, filter_map, hub_cmp, link_cmp, multi_cmp}
use Rattle.dv_laws.proofs.Vocabulary.{multi_row, multi_total, nat_list_cmp_total, newest_rows, on_total, sat_cmp, sat_row, status_cmp, status_row, ℕ, ◌++◌}
use Rattle.dv_records.specs.Hubs.{hub_row, link_row}

module _ (mapping : Mapping) (hashes : Hashes) (place : ℕ) (older : List Window) (window : Window) where
  pub window_batches : WindowBatchesAscend mapping hashes place older window
  window_batches = record {
    hub = ascending-sorted_by hub_cmp (on_total (λ (row : HubRow). row.digest) nat_list_cmp_total) (filter_map (hub_row mapping hashes place older window) (deliveries mapping (Hub place) window));
    link = ascending-sorted_by link_cmp (on_total (λ (row : LinkRow). row.digest) nat_list_cmp_total) (filter_map (link_row mapping hashes place older window) (deliveries mapping (Link place) window));
  }

module _ (hashes : Hashes) (source : List ℕ) (older : List Extract) (newest : Extract) where
  pub extract_batches : ExtractBatchesAscend hashes source older newest
  extract_batches = record {
    sat = ascending-sorted_by sat_cmp (on_total (λ (row : SatRow). row.parent) nat_list_cmp_total) (filter_map (sat_row hashes source older newest) newest.rows);
    multi = ascending-sorted_by multi_cmp multi_total (filter_map (multi_row hashes source older newest) newest.rows);
    status = ascending-sorted_by status_cmp (on_total (λ (row : StatusRow). row.parent) nat_list_cmp_total) (filter_map (status_row hashes source older newest) (all_refs (newest_rows older) ++ all_refs newest.rows));
    effect = ascending-sorted_by effect_cmp (on_total (λ (row : EffectRow). row.parent) nat_list_cmp_total) (filter_map (effect_row hashes source older newest) (all_refs (newest_rows older) ++ all_refs newest.rows));
  }
