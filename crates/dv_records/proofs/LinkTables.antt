-- A link table has a row for each reference list that the windows bring, and no other one.
use Rattle.dv_records.proofs.Vocabulary.{Contains, Delivery, Hashes, IsApart, IsLinkBatch, Key, Link, LinkRow, List, Mapping, Some, Window, appended, deliveries, each_hash, false, flat_map, is_known, link_batch, link_row, offered_refs, refl, rules, source, true, ℕ, ◌↔◌, ◌≡◌}
use Rattle.dv_records.proofs.ParentTables as tables

module _ (mapping : Mapping) (link : ℕ) (hashes : Hashes) where
  -- what the row of a list says of it
  abbrev IsRowOf : List Key → LinkRow → Type 0
  IsRowOf refs row = (row.digest ≡ hashes.hash refs) × (row.hubs ≡ each_hash hashes refs)

  row_made : (older : List Window) (window : Window) (item : Delivery) (row : LinkRow) → link_row mapping hashes link older window item ≡ Some row → IsRowOf item.refs row
  row_made older window item row gives = search (rules)

  row_makes : (older : List Window) (window : Window) (item : Delivery) → Contains (deliveries mapping (Link link) window) item → is_known mapping (Link link) older item.refs ≡ false
      → (row : LinkRow) × (link_row mapping hashes link older window item ≡ Some row)
  row_makes older window item has new = (record { digest = hashes.hash item.refs; load = window.load; source = source mapping item.feed; hubs = each_hash hashes item.refs }, rw new refl)

  pub link_tied : (older : List Window) (window : Window) → IsApart hashes (offered_refs mapping (Link link) window) → (rows : List LinkRow)
      → (rows ≡ link_batch mapping hashes link older window) ↔ IsLinkBatch mapping hashes link older window rows
  link_tied = tables.tied mapping (Link link) hashes (λ (row : LinkRow). row.digest) (link_row mapping hashes link) IsRowOf (λ refs row is. is.0) row_made row_makes

  pub table_row : (windows : List Window) (row : LinkRow) → Contains (appended (link_batch mapping hashes link) windows) row
      → (refs : List Key) × (is_known mapping (Link link) windows refs ≡ true) × (row.digest ≡ hashes.hash refs) × (row.hubs ≡ each_hash hashes refs)
  table_row windows row has =
      let (refs, known, is) = tables.table_row mapping (Link link) hashes (λ (row : LinkRow). row.digest) (link_row mapping hashes link) IsRowOf (λ refs row is. is.0) row_made row_makes windows row has in
      (refs, known, is.0, is.1)

  pub table_has : (windows : List Window) → IsApart hashes (flat_map (offered_refs mapping (Link link)) windows) → (refs : List Key) → is_known mapping (Link link) windows refs ≡ true
      → (row : LinkRow) × Contains (appended (link_batch mapping hashes link) windows) row × (row.digest ≡ hashes.hash refs) × (row.hubs ≡ each_hash hashes refs)
  table_has windows apart refs known =
      let (row, has, is) = tables.table_has mapping (Link link) hashes (λ (row : LinkRow). row.digest) (link_row mapping hashes link) IsRowOf (λ refs row is. is.0) row_made row_makes windows apart refs known in
      (row, has, is.0, is.1)
