-- The reference lists that the rows of a link stand for, by the keys that the hubs name.
use Rattle.std.specs.Prelude.{ℕ, Bool, false, List, [], ◌∷◌, Option, Some, None, map}
use Rattle.std.specs.List.{list_all, zip}
use Rattle.dv_text.specs.declared.rows.Key.{Key}
use Rattle.dv_catalog.specs.declared.entries.Parent.TheVariants.{Link}
use Rattle.dv_catalog.specs.declared.tables.TableId.{TableId}
use Rattle.dv_catalog.specs.declared.tables.TableId.TheVariants.{Hub, Link as LinkTable, Sat, Multi, Status, Effect}
use Rattle.dv_catalog.specs.Entries.{Mapping}
use Rattle.dv_catalog.specs.Feeds.{parent_hubs}
use Rattle.dv_catalog.specs.Mappings.{is_link}
use Rattle.dv_records.specs.declared.deliveries.Delivery.{Delivery}
use Rattle.dv_records.specs.declared.raw_rows.LinkRow.{LinkRow}
use Rattle.dv_records.specs.Deltas.{Hashed}
use Rattle.dv_records.specs.HubNames.{HubName, key_named}
use Rattle.dv_records.specs.LinkPlaces.{link_place}
use Rattle.dv_records.specs.ReadBack.{missing_key}
use Rattle.dv_hub_link.specs.KeyDeltas.{lists_of}

abbrev pub key_or : Key → Option Key → Key
key_or other None = other
key_or other (Some key) = key

-- the key that a digest stands for in a hub: the one that is named, and the missing key where none is
abbrev pub key_under : Mapping → List HubName → ℕ → List ℕ → Key
key_under mapping names hub digest = key_or (missing_key mapping hub) (key_named hub digest names)

-- the keys that digests stand for, each in its hub
abbrev pub keys_under : Mapping → List HubName → List ℕ → List (List ℕ) → List Key
keys_under mapping names hubs digests = map (λ (hub, digest). key_under mapping names hub digest) (zip hubs digests)

-- the hubs of a link's table
abbrev pub hubs_in : Mapping → TableId → List ℕ
hubs_in mapping (LinkTable link) = parent_hubs mapping (Link link)
hubs_in mapping (Hub hub) = []
hubs_in mapping (Sat feed) = []
hubs_in mapping (Multi feed) = []
hubs_in mapping (Status feed) = []
hubs_in mapping (Effect feed) = []

-- the hubs of the link that deliveries are to; none where there are no deliveries
abbrev pub hubs_of : Mapping → List Delivery → List ℕ
hubs_of mapping [] = []
hubs_of mapping (item ∷ items) = hubs_in mapping item.table

-- whether a table is that of a link of the mapping
abbrev pub is_of_link : Mapping → TableId → Bool
is_of_link mapping (LinkTable link) = is_link mapping link
is_of_link mapping (Hub hub) = false
is_of_link mapping (Sat feed) = false
is_of_link mapping (Multi feed) = false
is_of_link mapping (Status feed) = false
is_of_link mapping (Effect feed) = false

-- whether deliveries are to links of the mapping
abbrev pub are_of_links : Mapping → List Delivery → Bool
are_of_links mapping items = list_all (λ item. is_of_link mapping item.table) items

-- the reference lists of a link's rows, with the hash keys under which they stand
abbrev pub stored : Mapping → List HubName → List ℕ → List LinkRow → List Hashed
stored mapping names hubs rows = lists_of link_place (λ row. keys_under mapping names hubs row.hubs) rows
