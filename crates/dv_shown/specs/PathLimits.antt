-- The mart and the bridge of a path at the limit of their rows, for any windows.
use Rattle.std.specs.Prelude.{◌≡◌, ℕ, ◌+◌, ◌<◌, ◌≤◌, List, Some, Ok, Err, length, slice_get}
use Rattle.dv_text.specs.declared.rows.Window.{Window}
use Rattle.dv_text.specs.Keys.{Hashes}
use Rattle.dv_catalog.specs.declared.entries.PathDef.{PathDef}
use Rattle.dv_catalog.specs.Entries.{Mapping}
use Rattle.dv_records.specs.declared.stores.TableRows.{TableRows}
use Rattle.dv_records.specs.Marts.{contents, path_mart, prefix_rows}
use Rattle.dv_records.specs.Snapshots.{bridge}
use Rattle.dv_mart.specs.MartTexts.{mart_text}
use Rattle.dv_print.specs.Texts.{bridge_text, path_text}
use Rattle.dv_print.specs.declared.query_rules.QueryRule.TheVariants.{TooLarge}
use Rattle.dv_mart.specs.declared.whats.What.TheVariants.{Bridge, Path}

-- a path of a mapping, what it is asked of, and at which date
pub record PathQuery : Type 0 where
  pub mapping : Mapping
  pub hashes : Hashes
  pub sealed : List Window
  pub tables : List TableRows
  pub date : ℕ
  pub place : ℕ
  pub path : PathDef
  pub path_is : slice_get mapping.paths place ≡ Some path

-- the number of rows of the path's first n feeds
abbrev pub row_count : PathQuery → ℕ → ℕ
row_count a n = length (prefix_rows a.mapping (contents a.sealed a.date) a.path n)

pub record PathLimitsHold : Type 0 where
  -- a million rows are not too many
  pub mart_kept :
      (a : PathQuery) → ((n : ℕ) → row_count a n ≤ 1000000)
      → mart_text a.mapping a.hashes a.sealed a.tables (Path a.place) a.date
      ≡ Ok (path_text a.mapping a.path.feeds (path_mart a.mapping a.sealed a.place a.date))
  pub bridge_kept :
      (a : PathQuery) → ((n : ℕ) → row_count a n ≤ 1000000)
      → mart_text a.mapping a.hashes a.sealed a.tables (Bridge a.place) a.date
      ≡ Ok (bridge_text a.mapping a.path.feeds a.date (bridge a.mapping a.hashes a.sealed a.place a.date))
  -- one row more of some first feeds is one too many
  pub mart_passed :
      (a : PathQuery) (i : ℕ) → i < length a.path.feeds → row_count a (1 + i) ≡ 1000001
      → mart_text a.mapping a.hashes a.sealed a.tables (Path a.place) a.date ≡ Err (TooLarge a.path.name)
  pub bridge_passed :
      (a : PathQuery) (i : ℕ) → i < length a.path.feeds → row_count a (1 + i) ≡ 1000001
      → mart_text a.mapping a.hashes a.sealed a.tables (Bridge a.place) a.date ≡ Err (TooLarge a.path.name)
