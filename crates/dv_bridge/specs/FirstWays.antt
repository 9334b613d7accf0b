-- The ways along the first feeds of a path, of the links of these.
use Rattle.std.specs.Prelude.{◌≡◌, ℕ, ◌-◌, ◌≤◌, ◌<◌, List, filter, length, map, take}
use Rattle.dv_catalog.specs.declared.entries.PathDef.{PathDef}
use Rattle.dv_catalog.specs.Entries.{Mapping}
use Rattle.dv_records.specs.Limits.{most_path_rows}
use Rattle.dv_records.specs.Marts.{choices}
use Rattle.dv_bridge.specs.BridgeTables.{are_linked}
use Rattle.dv_bridge.specs.KeyedRows.{KeyedRow}

-- the ways along the first feeds of a path, of which these are the links: each choice of one link of each feed in which
-- neighbours share the hub between them
abbrev pub first_ways : Mapping → List (List KeyedRow) → PathDef → ℕ → List (List KeyedRow)
first_ways mapping links path n =
    filter (λ way. are_linked mapping (take n path.feeds) (take (n - 1) path.via) (map (λ link. link.row) way)) (choices (take n links))

-- ways are those along the first n feeds of a path, and neither these nor fewer feeds give too many
pub record AreFirstWays (mapping : Mapping) (links : List (List KeyedRow)) (path : PathDef) (n : ℕ) (ways : List (List KeyedRow)) : Type 0 where
  pub ways_are : ways ≡ first_ways mapping links path n
  pub few : (k : ℕ) → 1 ≤ k → k ≤ n → length (first_ways mapping links path k) ≤ most_path_rows

-- some first feeds of a path give too many ways
pub record HasTooManyWays (mapping : Mapping) (links : List (List KeyedRow)) (path : PathDef) : Type 0 where
  pub count : ℕ
  pub some : 1 ≤ count
  pub within : count ≤ length path.feeds
  pub many : most_path_rows < length (first_ways mapping links path count)
