-- What windows bring to hubs and links.
use Rattle.std.specs.Prelude.{◌≡◌, true, false, [], ◌∷◌, codes, map, reverse}
use Rattle.dv_catalog.specs.declared.entries.Parent.TheVariants.{Hub, Link}
use Rattle.dv_catalog.specs.declared.tables.TableId.TheVariants.{Hub as HubTable, Link as LinkTable}
use Rattle.dv_records.specs.Deliveries.{deliveries, is_known}
use Rattle.dv_shown.specs.Mappings.{with_accounts, with_channels, with_orders, with_placements}
use Rattle.dv_shown.specs.Windows.{crossed, orders, placed_first, tiers, two_channels}
use Rattle.dv_shown.specs.Words.{key}

pub record BroughtHold : Type 0 where
  -- each key once, by the first feed that brings it
  pub keys : map (deliveries with_accounts (Hub 0)) tiers ≡ (
      record { table = HubTable 0; refs = key (codes "1") ∷ []; feed = 0 }
      ∷ record { table = HubTable 0; refs = key (codes "2") ∷ []; feed = 0 }
      ∷ record { table = HubTable 0; refs = key (codes "3") ∷ []; feed = 1 }
      ∷ []) ∷ []
  -- in the order of the keys, whichever feed brings them
  pub in_order : map (deliveries with_accounts (Hub 0)) crossed ≡ (
      record { table = HubTable 0; refs = key (codes "1") ∷ []; feed = 1 } ∷ record { table = HubTable 0; refs = key (codes "2") ∷ []; feed = 0 } ∷ []) ∷ []
  -- keys of links' feeds too
  pub by_links : map (deliveries with_placements (Hub 0)) placed_first ≡
      (record { table = HubTable 0; refs = key (codes "1") ∷ []; feed = 0 } ∷ [])
      ∷ (record { table = HubTable 0; refs = key (codes "1") ∷ []; feed = 2 }
      ∷ record { table = HubTable 0; refs = key (codes "2") ∷ []; feed = 0 }
      ∷ record { table = HubTable 0; refs = key (codes "3") ∷ []; feed = 2 }
      ∷ [])
      ∷ []
  -- reference lists of a link, with a missing reference, and of several rows
  pub lists : map (deliveries with_orders (Link 0)) orders ≡ (
      record { table = LinkTable 0; refs = key [] ∷ key (codes "O2") ∷ []; feed = 0 }
      ∷ record { table = LinkTable 0; refs = key (codes "1") ∷ key (codes "O1") ∷ []; feed = 0 }
      ∷ []) ∷ []
  pub once : map (deliveries with_channels (Link 0)) two_channels ≡ (record { table = LinkTable 0; refs = key (codes "1") ∷ key (codes "O1") ∷ []; feed = 0 } ∷ []) ∷ []
  -- a missing key isn't brought
  pub none_missing : map (deliveries with_orders (Hub 0)) orders ≡ (record { table = HubTable 0; refs = key (codes "1") ∷ []; feed = 0 } ∷ []) ∷ []
  pub known : is_known with_accounts (Hub 0) (reverse tiers) (key (codes "3") ∷ []) ≡ true
  pub unknown : is_known with_accounts (Hub 0) (reverse tiers) (key (codes "4") ∷ []) ≡ false
