-- Hubs stand before links in table order, and both before the tables of feeds.
use Rattle.dv_store_rules.proofs.Vocabulary.{Contains, Contains-append_cases, Contains-append_right, Contains-map, Contains-range, HubTable, LinkTable, List, Mapping, TableId, append_assoc, feed_tables, inl, inr, length, map, map_member, range_with_len, refl, ℕ, ◌++◌, ◌<◌, ◌≡◌}
use Rattle.dv_store_rules.proofs.Reached.{IsEarlier}

abbrev hub_tables : Mapping → List TableId
hub_tables mapping = map (λ n. HubTable n) (range_with_len 0 (length mapping.hubs))

abbrev link_tables : Mapping → List TableId
link_tables mapping = map (λ n. LinkTable n) (range_with_len 0 (length mapping.links))

module _ (mapping : Mapping) (id : TableId) (no_hub : (n : ℕ) → HubTable n ≡ id → ⊥) where
  out_of_hubs : Contains (hub_tables mapping) id → ⊥
  out_of_hubs has = let (n, there, same) = map_member (λ n. HubTable n) (range_with_len 0 (length mapping.hubs)) id has in no_hub n same

  -- a hub stands before a table that is no hub
  pub hub_earlier : (hub : ℕ) → hub < length mapping.hubs → IsEarlier mapping (HubTable hub) id
  hub_earlier hub under = record {
    some = hub_tables mapping;
    later = link_tables mapping ++ feed_tables 0 mapping.feeds;
    tables_are = append_assoc (hub_tables mapping) (link_tables mapping) (feed_tables 0 mapping.feeds);
    without = out_of_hubs;
    has_other = Contains-map (λ n. HubTable n) (range_with_len 0 (length mapping.hubs)) hub (Contains-range (length mapping.hubs) hub under);
  }

  -- a link before one that is no link either
  pub link_earlier : ((n : ℕ) → LinkTable n ≡ id → ⊥) → (link : ℕ) → link < length mapping.links → IsEarlier mapping (LinkTable link) id
  link_earlier no_link link under = record {
    some = hub_tables mapping ++ link_tables mapping;
    later = feed_tables 0 mapping.feeds;
    tables_are = refl;
    without = λ has. elim (Contains-append_cases (hub_tables mapping) (link_tables mapping) id has) [
      | inl hub ↦ out_of_hubs hub
      | inr other ↦ let (n, there, same) = map_member (λ n. LinkTable n) (range_with_len 0 (length mapping.links)) id other in no_link n same
    ];
    has_other =
        Contains-append_right (hub_tables mapping) (link_tables mapping) (LinkTable link)
        (Contains-map (λ n. LinkTable n) (range_with_len 0 (length mapping.links)) link (Contains-range (length mapping.links) link under));
  }
