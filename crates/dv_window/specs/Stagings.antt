-- What is staged of the feeds' extracts side by side, each as if no feed stood before it.
use Rattle.std.specs.Prelude.{◌≡◌, ℕ, ◌+◌, List, Option, Some, IfSome, length, slice_get}
use Rattle.dv_catalog.specs.declared.windows.ExtractIn.{ExtractIn}
use Rattle.dv_catalog.specs.Entries.{Mapping}
use Rattle.dv_catalog.specs.Readings.Read.{Taken}
use Rattle.dv_stage.specs.declared.stages.Staged2.{Staged2}
use Rattle.dv_window_rules.specs.Staging.{read_at}

-- what was staged of the extract of a feed is what it reads as where no record was taken before it
abbrev pub IsTried : Mapping → List ExtractIn → ℕ → Option Staged2 → Type 0
IsTried mapping extracts feed tried =
    IfSome tried (λ read. (read_at mapping extracts 0 feed ≡ Some (Taken read.staged.rows read.taken)) × (read.staged.feed ≡ feed))

-- these were tried for the feeds from a place on
pub record AreTried (mapping : Mapping) (extracts : List ExtractIn) (feed : ℕ) (all : List (Option Staged2)) : Type 0 where
  pub as_many : feed + length all ≡ length mapping.feeds
  pub each : (later : ℕ) (tried : Option Staged2) → slice_get all later ≡ Some tried → IsTried mapping extracts (feed + later) tried
