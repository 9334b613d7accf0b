-- What comes of what a manifest brought, where it is given to an office.
use Rattle.std.specs.Prelude.{◌≡◌, ◌≤◌, ℕ, List}
use Rattle.dv_text.specs.Causes.{Rose}
use Rattle.dv_text.specs.Keys.{Hashes}
use Rattle.dv_catalog.specs.Entries.{Mapping}
use Rattle.dv_outside.specs.Seen.{Seen}
use Rattle.dv_records.specs.declared.answers.Damage.{Damage}
use Rattle.dv_records.specs.declared.answers.LoadAnswer.{LoadAnswer}
use Rattle.dv_records.specs.declared.answers.LoadAnswer.TheVariants as load
use Rattle.dv_records.specs.declared.stores.Store.{Store}
use Rattle.dv_records.specs.States.{State}
use Rattle.dv_window.specs.Offices.{Held, IsIn, LeavesStore}
use Rattle.dv_given.specs.declared.windows.Taken.{Taken}
use Rattle.dv_given.specs.WindowOutcomes.{outcome_of, taken_text}
use Rattle.dv_given.specs.Tried.{Arrival, Tried, ended, is_refused, status_for, window_line}
use Rattle.dv_app.specs.Kept.{ArrivalStep, StandsAt}

-- what is said of what came of a window: its line, and the status
abbrev pub taken_said : List ℕ → Taken → Tried
taken_said name taken = ended (status_for (is_refused (outcome_of taken))) (window_line name (taken_text taken))

-- the step that an answer is, and the state that the store stands for then
pub record IsStep (mapping : Mapping) (hashes : Hashes) (state : State) (came : Arrival) (keeper : Seen Store) (answer : LoadAnswer) : Type 0 where
  pub state' : State
  pub step : ArrivalStep mapping hashes state came answer state'
  pub stands : StandsAt mapping hashes state' keeper.new

-- what a manifest brought was given to an office that isn't stale
pub record Gave (hashes : Hashes) (office : Held) (came : Arrival) (keeper : Seen Store) (answer : LoadAnswer) : Type 0 where
  pub steps : (state : State) → IsIn hashes state office keeper.old → IsStep office.vault.mapping hashes state came keeper answer
  pub leaves : LeavesStore answer keeper.old keeper.new
  pub undamaged : (damage : Damage) → answer ≡ load.Damaged damage → ⊥
  pub cause : answer ≡ load.KeeperFault → Rose keeper.before keeper.now
  pub later : keeper.before ≤ keeper.now
