-- The results of numbered tasks.
use Rattle.std.specs.Prelude.{◌≡◌, ◌<◌, ◌≤◌, ◌++◌, ◌∷◌, [], ℕ, List, Some, Ok, Result, length, slice_get}
use Rattle.dv_board.specs.Counting.{times}
use Rattle.dv_text.specs.declared.failure.Memory.{Memory}

-- As many results as tasks, each of which the task gives whose number is its place.
pub record AreResults {T : Type 0} (gives : ℕ → T → Type 0) (tasks : ℕ) (results : List T) : Type 0 where
  pub as_many : length results ≡ tasks
  pub each : (task : ℕ) (out : T) → slice_get results task ≡ Some out → gives task out

-- whether a call may do each task below a number
abbrev pub IsReady : (ℕ → Type 0) → ℕ → Type 0
IsReady pre tasks = (task : ℕ) → task < tasks → pre task

-- what a call may give of a task, where it has memory
abbrev pub Gives : {T : Type 0} → (ℕ → Result T Memory → Type 0) → ℕ → T → Type 0
Gives post task out = post task (Ok out)

-- ---- where each worker carries something of its own

-- whether a call may do each task below a number, whatever the worker has done before
abbrev pub IsReadyWith : {S : Type 0} → (S → List ℕ → Type 0) → (ℕ → S → Type 0) → ℕ → Type 0
IsReadyWith has_done pre tasks = (task : ℕ) (own : _) (done : List ℕ) → task < tasks → has_done own done → pre task own

-- what a call may give of a task, where it has memory
abbrev pub GivesWith : {S T : Type 0} → (ℕ → S → Result (S × T) Memory → Type 0) → ℕ → T → Type 0
GivesWith {S} post task out = (own after : S) × post task own (Ok (after, out))

-- A call leaves the worker with its share, and with the work of the task beside that of those before.
abbrev pub DoesTasks : {S T : Type 0} → (S → ℕ) → (S → List ℕ → Type 0) → (ℕ → S → Result (S × T) Memory → Type 0) → ℕ → Type 0
DoesTasks {S} {T} share has_done post tasks = (task : ℕ) (own after : S) (out : T) (done : List ℕ) → task < tasks → has_done own done → post task own (Ok (after, out))
    → (share after ≡ share own) × has_done after (done ++ task ∷ [])

-- It has the work of each task below a number, and of no other.
pub record HasDoneAll {S : Type 0} (has_done : S → List ℕ → Type 0) (tasks : ℕ) (own : S) : Type 0 where
  pub done : List ℕ
  pub did : has_done own done
  pub each : (task : ℕ) → task < tasks → 1 ≤ times task done
  pub only : (task : ℕ) → 1 ≤ times task done → task < tasks
