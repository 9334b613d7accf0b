-- Hub and link batches (Linstedt and Olschimke 2015, chapter 4, on hubs and links, and chapter 12, on loading them).
use Rattle.std.specs.Prelude.{ℕ, List, [], ◌∷◌, Option, Some, None, map, if◌then◌else◌}
use Rattle.std.specs.Option.{option_map}
use Rattle.std.specs.declared.cmp.Ordering.{Ordering}
use Rattle.dv_text.specs.declared.rows.Key.{Key}
use Rattle.dv_text.specs.declared.rows.Window.{Window}
use Rattle.dv_text.specs.Keys.{Hashes}
use Rattle.dv_catalog.specs.declared.entries.Parent.TheVariants.{Hub, Link}
use Rattle.dv_catalog.specs.Entries.{Mapping}
use Rattle.dv_catalog.specs.Feeds.{source}
use Rattle.dv_records.specs.declared.deliveries.Delivery.{Delivery}
use Rattle.dv_records.specs.declared.raw_rows.HubRow.{HubRow}
use Rattle.dv_records.specs.declared.raw_rows.LinkRow.{LinkRow}
use Rattle.dv_records.specs.Batches.{batch_of, digest_cmp, IsBatchOf}
use Rattle.dv_records.specs.Deliveries.{deliveries, is_known}

-- ---- hubs

-- the key of a list of one
abbrev pub only_key : List Key → Option Key
only_key (key ∷ []) = Some key
only_key refs = None

-- the hub row of a delivered key; none where an older window brings the key
abbrev pub hub_row : Mapping → Hashes → ℕ → List Window → Window → Delivery → Option HubRow
hub_row mapping hashes hub older window item =
    if is_known mapping (Hub hub) older item.refs then None
    else
    option_map
    (λ key. record { digest = hashes.hash item.refs; load = window.load; source = source mapping item.feed; key = key })
    (only_key item.refs)

-- by hash key
abbrev pub hub_cmp : HubRow → HubRow → Ordering
hub_cmp a b = digest_cmp a.digest b.digest

-- a window's batch for a hub: a row for each key that the window brings and no older one, by hash key; its record source
-- is that of the first feed that brings the key
abbrev pub hub_batch : Mapping → Hashes → ℕ → List Window → Window → List HubRow
hub_batch mapping hashes hub older window = batch_of hub_cmp (hub_row mapping hashes hub older window) (deliveries mapping (Hub hub) window)

-- the same said of a list
abbrev pub IsHubBatch : Mapping → Hashes → ℕ → List Window → Window → List HubRow → Type 0
IsHubBatch mapping hashes hub older window = IsBatchOf hub_cmp (hub_row mapping hashes hub older window) (deliveries mapping (Hub hub) window)

-- ---- links

-- the hash key of each key alone: the zero key for a missing one
abbrev pub each_hash : Hashes → List Key → List (List ℕ)
each_hash hashes refs = map (λ key. hashes.hash (key ∷ [])) refs

-- the link row of a delivered reference list; none where an older window brings the list
abbrev pub link_row : Mapping → Hashes → ℕ → List Window → Window → Delivery → Option LinkRow
link_row mapping hashes link older window item =
    if is_known mapping (Link link) older item.refs then None
    else
    Some (record {
      digest = hashes.hash item.refs;
      load = window.load;
      source = source mapping item.feed;
      hubs = each_hash hashes item.refs;
    })

-- by hash key
abbrev pub link_cmp : LinkRow → LinkRow → Ordering
link_cmp a b = digest_cmp a.digest b.digest

-- a window's batch for a link: a row for each reference list that the window brings and no older one, by hash key
abbrev pub link_batch : Mapping → Hashes → ℕ → List Window → Window → List LinkRow
link_batch mapping hashes link older window = batch_of link_cmp (link_row mapping hashes link older window) (deliveries mapping (Link link) window)

-- the same said of a list
abbrev pub IsLinkBatch : Mapping → Hashes → ℕ → List Window → Window → List LinkRow → Type 0
IsLinkBatch mapping hashes link older window = IsBatchOf link_cmp (link_row mapping hashes link older window) (deliveries mapping (Link link) window)
