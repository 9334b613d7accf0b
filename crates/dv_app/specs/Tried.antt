-- What `try` writes for a folder's files, and its status.
use Rattle.std.specs.Prelude.{ℕ, Bool, true, false, ◌||◌, List, [], ◌∷◌, ◌++◌, Option, Some, None, Result, Ok, Err}
use Rattle.dv_text.specs.Keys.{Hashes}
use Rattle.dv_text.specs.Stamps.{stamp_of}
use Rattle.dv_catalog.specs.Entries.{Mapping}
use Rattle.dv_catalog.specs.Windows.{window_of}
use Rattle.dv_catalog.specs.declared.map_error.MapError.{MapError}
use Rattle.dv_catalog.specs.declared.rules.Rule.{Rule}
use Rattle.dv_catalog.specs.declared.windows.WindowIn.{WindowIn}
use Rattle.dv_mart.specs.MartTexts.{mart_text}
use Rattle.dv_mart.specs.Whats.{what_of}
use Rattle.dv_print.specs.declared.query_rules.QueryRule.{QueryRule}
use Rattle.dv_print.specs.declared.query_rules.QueryRule.TheVariants.{UnknownMart, BadDate}
use Rattle.dv_mart.specs.declared.whats.What.{What}
use Rattle.dv_outside.specs.declared.folders.NamedFile.{NamedFile}
use Rattle.dv_outside.specs.declared.statuses.Status.TheVariants as statuses
use Rattle.dv_records.specs.Outcomes.{outcome}
use Rattle.dv_records.specs.States.{State, beginning}
use Rattle.dv_records.specs.Steps.{sealed_with}
use Rattle.dv_records.specs.Vault.{vault}
use Rattle.dv_records.specs.declared.answers.Outcome.{Outcome}
use Rattle.dv_records.specs.declared.answers.Outcome.TheVariants as outcomes
use Rattle.dv_given.specs.Given.{absent_line, query_line, refused_mapping_line}
use Rattle.dv_given.specs.Lines.{mapping_file}
use Rattle.dv_given.specs.Tried.{Absent, Arrival, Broken, Brought, Tried, arrival, ended, is_refused, mapping_at, outcome_text, refusal_text, status_for, window_line}

-- ---- the run over manifests

-- where a run stands between two manifests: the state, whether a window was refused, and the lines so far
pub record Progress : Type 0 where
  pub state : State
  pub refused : Bool
  pub lines : List ℕ

-- before the first of them
abbrev pub start : Progress
start = record { state = beginning; refused = false; lines = [] }

-- the state after a window: it changes only where the window is loaded
abbrev pub state_after : Mapping → WindowIn → Outcome → State → State
state_after mapping given outcomes.Load state = sealed_with (window_of mapping given) state
state_after mapping given outcomes.Repeated state = state
state_after mapping given (outcomes.Refused rule) state = state

-- the run after a window of which this came
abbrev pub with_outcome : Mapping → Hashes → List ℕ → WindowIn → Progress → Outcome → Progress
with_outcome mapping hashes name given p o = record {
  state = state_after mapping given o p.state;
  refused = p.refused || is_refused o;
  lines = p.lines ++ window_line name (outcome_text mapping hashes p.state given o);
}

-- the run after a manifest that breaks a rule before the load
abbrev pub with_refusal : List ℕ → Rule → Progress → Progress
with_refusal name rule p = record { state = p.state; refused = true; lines = p.lines ++ window_line name (refusal_text rule) }

-- the run after what a manifest brings; a file that the folder hasn't ends it, with these lines
abbrev pub step_by : Mapping → Hashes → List ℕ → Arrival → Progress → Result Progress (List ℕ)
step_by mapping hashes name (Absent file) p = Err (p.lines ++ absent_line file)
step_by mapping hashes name (Broken rule) p = Ok (with_refusal name rule p)
step_by mapping hashes name (Brought given) p = Ok (with_outcome mapping hashes name given p (outcome mapping hashes p.state given))

-- the run after a manifest
abbrev pub step : Mapping → Hashes → List NamedFile → List ℕ → Progress → Result Progress (List ℕ)
step mapping hashes files name p = step_by mapping hashes name (arrival files name) p

-- what goes on behind a run that did not end
abbrev pub step_on : Result Progress (List ℕ) → (Progress → Result Progress (List ℕ)) → Result Progress (List ℕ)
step_on (Err lines) rest = Err lines
step_on (Ok p) rest = rest p

-- the run after manifests, which are taken one after another
abbrev pub steps : Mapping → Hashes → List NamedFile → Progress → List (List ℕ) → Result Progress (List ℕ)
steps mapping hashes files p [] = Ok p
steps mapping hashes files p (name ∷ names) = step_on (step mapping hashes files name p) (λ q. steps mapping hashes files q names)

-- the mart's text, or, where there is none, the line of the rule that is broken behind those of the windows
abbrev pub with_text : Progress → Result (List ℕ) QueryRule → Tried
with_text p (Ok text) = record { out = text; err = p.lines; status = status_for p.refused }
with_text p (Err rule) = ended statuses.Refused (p.lines ++ query_line rule)

-- at the end comes the mart, over the windows that are sealed then; none is open
abbrev pub at_end : Mapping → Hashes → What → ℕ → Result Progress (List ℕ) → Tried
at_end mapping hashes what date (Err lines) = ended statuses.ReadFault lines
at_end mapping hashes what date (Ok p) =
    with_text p (mart_text mapping hashes p.state.sealed (vault mapping hashes p.state.sealed) what date)

-- ---- the whole command

-- by the date that was asked for
abbrev pub tried_at : Mapping → Hashes → List NamedFile → What → List ℕ → List (List ℕ) → Option ℕ → Tried
tried_at mapping hashes files what date names None = ended statuses.Refused (query_line (BadDate date))
tried_at mapping hashes files what date names (Some at) = at_end mapping hashes what at (steps mapping hashes files start names)

-- by the mart or table that its word names
abbrev pub tried_for : Mapping → Hashes → List NamedFile → List ℕ → List ℕ → List (List ℕ) → Option What → Tried
tried_for mapping hashes files word date names None = ended statuses.Refused (query_line (UnknownMart word))
tried_for mapping hashes files word date names (Some what) = tried_at mapping hashes files what date names (stamp_of date)

-- by the mapping's file
abbrev pub tried_with : Hashes → List NamedFile → List ℕ → List ℕ → List (List ℕ) → Option (Result Mapping MapError) → Tried
tried_with hashes files what date names None = ended statuses.ReadFault (absent_line mapping_file)
tried_with hashes files what date names (Some (Err e)) = ended statuses.Mapping (refused_mapping_line e)
tried_with hashes files what date names (Some (Ok mapping)) = tried_for mapping hashes files what date names (what_of mapping what)

-- what `try` writes for the folder's files, and its status
abbrev pub tried : Hashes → List NamedFile → List ℕ → List ℕ → List (List ℕ) → Tried
tried hashes files what date names = tried_with hashes files what date names (mapping_at files)
