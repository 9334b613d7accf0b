-- What came of a window, as the code has it.
use Rattle.std.specs.Prelude.{ℕ, List}
use Rattle.dv_records.specs.declared.answers.Outcome.{Outcome}
use Rattle.dv_records.specs.declared.answers.Outcome.TheVariants as outcomes
use Rattle.dv_given.specs.declared.windows.Taken.{Taken}
use Rattle.dv_given.specs.declared.windows.Taken.TheVariants as taken
use Rattle.dv_given.specs.Tried.{loaded_text, refusal_text, repeated_text}

-- the outcome that the code has of a window
abbrev pub outcome_of : Taken → Outcome
outcome_of (taken.Loaded rows) = outcomes.Load
outcome_of taken.Repeated = outcomes.Repeated
outcome_of (taken.Refused rule) = outcomes.Refused rule

-- a line's words for what came of it
abbrev pub taken_text : Taken → List ℕ
taken_text (taken.Loaded rows) = loaded_text rows
taken_text taken.Repeated = repeated_text
taken_text (taken.Refused rule) = refusal_text rule
