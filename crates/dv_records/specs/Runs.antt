-- Runs: from when to when a reference list was delivered without a break. A run is a longest unbroken series of a feed's
-- extracts that hold the list. Windows without the feed have no extract, so they break no run.
use Rattle.std.specs.Prelude.{ℕ, Bool, true, false, List, [], ◌∷◌, ◌++◌, Option, Some, None, if◌then◌else◌}
use Rattle.std.specs.Option.{unwrap_or}
use Rattle.dv_text.specs.Stamps.{open_end}
use Rattle.dv_text.specs.declared.rows.Key.{Key}
use Rattle.dv_records.specs.History.{Extract, delivers}

-- the begin and the end of a run
pub record Span : Type 0 where
  pub begin : ℕ
  pub end : ℕ

-- the begin of the run that the newest extract is in: the load date of the run's first extract; none where the newest
-- extract doesn't hold the list
abbrev pub run_begin : List Extract → List Key → Option ℕ
run_begin [] refs = None
run_begin (newest ∷ older) refs = if delivers newest.rows refs then Some (unwrap_or (run_begin older refs) newest.load) else None

-- the run that an extract ends: the extract before it was in a run, and it doesn't hold the list; the run ends at its
-- load date
abbrev pub ended : ℕ → Option ℕ → Bool → List Span
ended load (Some begin) false = record { begin = begin; end = load } ∷ []
ended load (Some begin) true = []
ended load None now = []

-- the runs of a list that have an end, the newest first
abbrev pub ended_runs : List Extract → List Key → List Span
ended_runs [] refs = []
ended_runs (newest ∷ older) refs = ended newest.load (run_begin older refs) (delivers newest.rows refs) ++ ended_runs older refs

-- the run that has no end yet
abbrev pub open_run : Option ℕ → List Span
open_run None = []
open_run (Some begin) = record { begin = begin; end = open_end } ∷ []

-- all runs of a list, the newest first
abbrev pub runs : List Extract → List Key → List Span
runs extracts refs = open_run (run_begin extracts refs) ++ ended_runs extracts refs
