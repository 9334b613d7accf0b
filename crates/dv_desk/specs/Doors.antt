-- How the connections of doors are served, one after another.
use Rattle.std.specs.Prelude.{◌≡◌, ◌⊎◌, ℕ, ◌≤◌, false, List, Option, Some, None, Result, Ok, Err, codes}
use Rattle.dv_text.specs.Causes.{HasCause, Rose}
use Rattle.dv_text.specs.Keys.{DigestFunction, Hashes, hashes_of}
use Rattle.dv_text.specs.Told.{Told}
use Rattle.dv_outside.specs.Ends.{Ends, line_of}
use Rattle.dv_outside.specs.Lines.{Lines}
use Rattle.dv_outside.specs.Seen.{NoFault, Seen}
use Rattle.dv_outside.specs.declared.doors.Doors.{Ghosts as OfDoors}
use Rattle.dv_outside.specs.declared.folders.Failed.{Failed}
use Rattle.dv_outside.specs.declared.links.Link.{Ghosts as OfLink}
use Rattle.dv_outside.specs.declared.statuses.Status.{Status}
use Rattle.dv_outside.specs.declared.statuses.Status.TheVariants as statuses
use Rattle.dv_catalog.specs.Entries.{Mapping}
use Rattle.dv_records.specs.declared.stores.Store.{Store}
use Rattle.dv_records.specs.Standing.{Stands}
use Rattle.dv_records.specs.States.{State}
use Rattle.dv_restore.specs.Damages.{IsFirstDamage, IsInForm, IsNamedBySome}
use Rattle.dv_restore.specs.declared.faults.StoreFault.TheVariants as unread
use Rattle.dv_restore.specs.declared.faults.StartFault.{StartFault}
use Rattle.dv_restore.specs.declared.faults.StartFault.TheVariants as faults
use Rattle.dv_window.specs.Offices.{Agrees, StandsFor}
use Rattle.dv_given.specs.Endings.{EndsBy, ending_of_start}
use Rattle.dv_given.specs.Lines.{read_fault_front}
use Rattle.dv_serving.specs.Doors.{ServesDoors}
pub use Rattle.dv_serving.specs.Serving.{Tells, tells}
use Rattle.dv_desk.specs.Serving.{IsSurelyReplied, LeadsInStates}
use Rattle.dv_desk.specs.Answers.{refusal}
use Rattle.dv_desk.specs.Turns.{IsReplied, Moment}

-- ---- the office

-- why no office could be started over a store
abbrev pub IsFaultOf : DigestFunction → Option Store → ℕ → ℕ → StartFault → Type 0
IsFaultOf function store before now faults.NoMapping = Told store (λ s. s.mapping ≡ None)
IsFaultOf function store before now (faults.Unread (unread.Damaged damage)) =
    Told store (λ s. IsFirstDamage (hashes_of function) function.width s damage) × IsNamedBySome damage
IsFaultOf function store before now (faults.Unread unread.KeeperFault) = Rose before now
IsFaultOf function store before now (faults.Unread unread.Memory) = Unit {0}

-- an office was started over a store, and stands for each state that this stands for
pub record Started (function : DigestFunction) (store : Option Store) (began : Moment) : Type 0 where
  pub store_is : began.store ≡ store
  pub fresh : began.held.stale ≡ false
  pub width_is : began.held.width ≡ function.width
  pub agrees : Told store (Agrees began.held)
  pub in_form : Told store (IsInForm (hashes_of function) function.width began.held.vault.mapping)
  pub stands : (state : State) (s : Store) → store ≡ Some s → Stands began.held.vault.mapping (hashes_of function) state s
      → StandsFor (hashes_of function) state began.held

-- ---- all of it

-- the line where the doors failed
abbrev pub doors_line : List ℕ
doors_line = line_of read_fault_front (codes "doors")

-- no connection was taken
pub record Unstarted {L : Type 0} (function : DigestFunction) (old new : Option (Lines L)) (kept : Seen Store) (err : Seen (List ℕ)) (result : Status) : Type 0 where
  pub fault : StartFault
  pub is_fault : IsFaultOf function kept.old kept.before kept.now fault
  pub doors : new ≡ old
  pub store : kept.new ≡ kept.old
  pub ends : EndsBy (ending_of_start fault) err result

-- how it ends where the doors have no connection left or enough were served, and where they failed
abbrev pub EndsAs : Result (Unit {0}) Failed → Seen (List ℕ) → Status → Type 0
EndsAs (Ok done) err result = (result ≡ statuses.Done) × (err.new ≡ err.old)
EndsAs (Err fault) err result = Ends statuses.ReadFault doors_line err.old err.new err.before err.now result

-- connections were served with an office that was started
pub record ServesWith {L : Type 0} (function : DigestFunction) (tells : Tells L) (old new : Option (Lines L)) (before now : ℕ) (began after : Moment) (err : Seen (List ℕ)) (result : Status) : Type 0 where
  pub ended : Result (Unit {0}) Failed
  pub serves : ServesDoors (IsReplied function) refusal tells old new began after ended
  pub cause : HasCause before now ended
  pub ends : EndsAs ended err result

-- the same, by what doors and the connections that come through them tell
abbrev pub ServesBy : {D L : Type 0} → DigestFunction → OfDoors D L → OfLink L → D → D → Moment → Moment → Seen (List ℕ) → Status → Type 0
ServesBy function doors links old new began after err result =
    ServesWith function (tells links) (doors.lines old) (doors.lines new) (doors.faults old) (doors.faults new) began after err result

-- the store stands for a state
abbrev pub StandsThen : Mapping → Hashes → Option Store → Type 0
StandsThen mapping hashes store = (state : State) × (s : Store) × (store ≡ Some s) × Stands mapping hashes state s

-- an office was started, and connections were served with it, which led from each state for which the store stood to a state
-- for which it stands; so did what was answered on each of them
pub record ServedDoors {L : Type 0} (function : DigestFunction) (tells : Tells L) (old new : Option (Lines L)) (kept : Seen Store) (err : Seen (List ℕ)) (result : Status) : Type 0 where
  pub began : Moment
  pub after : Moment
  pub started : Started function kept.old began
  pub store : kept.new ≡ after.store
  pub faults : (kept.before ≤ began.faults) × (kept.now ≡ after.faults)
  pub ended : Result (Unit {0}) Failed
  pub serves : ServesDoors (IsReplied function) refusal tells old new began after ended
  pub in_states : LeadsInStates function
  pub leads : (state : State) (s : Store) → kept.old ≡ Some s → Stands began.held.vault.mapping (hashes_of function) state s
      → StandsThen began.held.vault.mapping (hashes_of function) kept.new
  pub ends : EndsAs ended err result

-- no office could be started, or connections were served with it
abbrev pub ServeSays : {L : Type 0} → DigestFunction → Tells L → Option (Lines L) → Option (Lines L) → Seen Store → Seen (List ℕ) → Status → Type 0
ServeSays function tells old new kept err result = Unstarted function old new kept err result ⊎ ServedDoors function tells old new kept err result

-- ---- causes

-- a status of a fault comes only where a count rose; the others are no status of it
abbrev pub IsServeCause : ℕ → ℕ → Seen Store → Seen (List ℕ) → Status → Type 0
IsServeCause before now kept err statuses.Done = Unit {0}
IsServeCause before now kept err statuses.Refused = ⊥
IsServeCause before now kept err statuses.Usage = ⊥
IsServeCause before now kept err statuses.Mapping = Unit {0}
IsServeCause before now kept err statuses.ReadFault = Rose before now
IsServeCause before now kept err statuses.KeeperFault = Rose kept.before kept.now
IsServeCause before now kept err statuses.WriteFault = Rose err.before err.now
IsServeCause before now kept err statuses.Memory = Unit {0}
IsServeCause before now kept err statuses.Damaged = Unit {0}

-- ---- completeness

-- serving ended where no connection is left, or could not begin by what is stored
abbrev pub IsServedOut : Status → Type 0
IsServedOut statuses.Done = Unit {0}
IsServedOut statuses.Mapping = Unit {0}
IsServedOut statuses.Damaged = Unit {0}
IsServedOut result = ⊥

-- with an office that was started connections were served until none was left, or as many were as may be, and each of their
-- requests was answered, none of them that the keeper failed
pub record ServedAll {L : Type 0} (function : DigestFunction) (tells : Tells L) (old new : Option (Lines L)) (store : Option Store) (result : Status) : Type 0 where
  pub done : result ≡ statuses.Done
  pub began : Moment
  pub after : Moment
  pub started : Started function store began
  pub serves : ServesDoors (IsSurelyReplied function) refusal tells old new began after (Ok tt)

-- so it ended, and over a store that stands for a state all were served
pub record ServedOut {L : Type 0} (function : DigestFunction) (tells : Tells L) (old new : Option (Lines L)) (store : Option Store) (result : Status) : Type 0 where
  pub ended : IsServedOut result
  pub all : (mapping : Mapping) → StandsThen mapping (hashes_of function) store → ServedAll function tells old new store result

-- with no fault of the doors, the keeper and the sink, and memory enough
abbrev pub ServeCompletes : {L : Type 0} → DigestFunction → Tells L → Option (Lines L) → Option (Lines L) → ℕ → ℕ → Seen Store → Seen (List ℕ) → Status → Type 0
ServeCompletes function tells old new before now kept err result =
    NoFault before now → NoFault kept.before kept.now → NoFault err.before err.now → (result ≡ statuses.Memory → ⊥)
    → ServedOut function tells old new kept.old result
