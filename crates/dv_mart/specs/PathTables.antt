-- The links of the feeds of a path with their keys, and what stands in the mart along its ways.
use Rattle.std.specs.Prelude.{ℕ, List, map}
use Rattle.std.specs.List.{flat_map}
use Rattle.std.specs.declared.cmp.Ordering.{Ordering}
use Rattle.dv_text.specs.declared.rows.Key.{Key}
use Rattle.dv_text.specs.Orders.{refs_cmp}
use Rattle.dv_text.specs.Sorting.{sorted_by}
use Rattle.dv_catalog.specs.Entries.{Mapping}
use Rattle.dv_catalog.specs.Feeds.{feed_hubs}
use Rattle.dv_records.specs.declared.mart_rows.PathRow.{PathRow}
use Rattle.dv_records.specs.declared.raw_rows.LinkRow.{LinkRow}
use Rattle.dv_records.specs.declared.stores.TableRows.{TableRows}
use Rattle.dv_records.specs.ReadBack.{keys_read}
use Rattle.dv_bridge.specs.BridgeTables.{feed_links}
use Rattle.dv_bridge.specs.KeyedRows.{KeyedRow}
use Rattle.dv_bridge.specs.declared.fault.BridgeFault.{BridgeFault}
use Rattle.dv_bridge.specs.declared.fault.BridgeFault.TheVariants as bridge
use Rattle.dv_mart.specs.declared.mart_faults.MartFault.{MartFault}
use Rattle.dv_mart.specs.declared.mart_faults.MartFault.TheVariants as mart
use Rattle.dv_print.specs.Texts.{all_parts}

-- a link with the keys that the hash keys of its references stand for
abbrev pub keyed_row : Mapping → List TableRows → List ℕ → LinkRow → KeyedRow
keyed_row mapping tables hubs row = record { row = row; keys = keys_read mapping tables hubs row.hubs }

-- the order of links by their keys
abbrev pub keyed_cmp : KeyedRow → KeyedRow → Ordering
keyed_cmp a b = refs_cmp a.keys b.keys

-- the links that a feed has at a date and that miss no reference with their keys, in the order of these
abbrev pub keyed_links : Mapping → List TableRows → ℕ → ℕ → List KeyedRow
keyed_links mapping tables date feed =
    sorted_by keyed_cmp (map (keyed_row mapping tables (feed_hubs mapping feed)) (feed_links mapping tables date feed))

-- the reference lists along a way
abbrev pub steps_along : List KeyedRow → List (List Key)
steps_along way = map (λ link. link.keys) way

-- the row of a path mart with these reference lists
abbrev pub path_row : List (List Key) → PathRow
path_row steps = record { steps = steps }

-- the record of the row along a way: the parts of its keys
abbrev pub way_record : List KeyedRow → List (List ℕ)
way_record way = flat_map (λ link. all_parts link.keys) way

-- what a path's mart says of a fault of its ways
abbrev pub fault_of : BridgeFault → MartFault
fault_of bridge.TooLarge = mart.TooLarge
fault_of bridge.Memory = mart.Memory
