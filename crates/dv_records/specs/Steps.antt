-- The steps of the machine: what each answer says of the state before and after. What a fault or want of memory leaves is left open within these bounds.
use Rattle.std.specs.List.{list_any}
use Rattle.std.specs.Option.{option_map}
use Rattle.std.specs.Ordering.{nat_cmp}
use Rattle.std.specs.Prelude.{◌≡◌, ◌≢◌, ◌⊎◌, ℕ, ◌==◌, Bool, true, ◌||◌, nat_le, nat_lt, List, [], ◌∷◌, ◌++◌, Option, Some, None, Ok, length, position, if◌then◌else◌}
use Rattle.dv_text.specs.declared.rows.Window.{Window}
use Rattle.dv_text.specs.Keys.{Hashes}
use Rattle.dv_text.specs.Sorting.{sorted_by}
use Rattle.dv_catalog.specs.declared.entries.PathDef.{PathDef}
use Rattle.dv_catalog.specs.declared.windows.WindowIn.{WindowIn}
use Rattle.dv_catalog.specs.Entries.{Mapping}
use Rattle.dv_catalog.specs.FirstOf.{first_of}
use Rattle.dv_catalog.specs.MappingFiles.{read_mapping}
use Rattle.dv_records.specs.declared.answers.InitAnswer.{InitAnswer}
use Rattle.dv_records.specs.declared.answers.LoadAnswer.{LoadAnswer}
use Rattle.dv_records.specs.declared.answers.ResumeAnswer.{ResumeAnswer}
use Rattle.dv_records.specs.declared.answers.SnapAnswer.{SnapAnswer}
use Rattle.dv_records.specs.declared.stores.Store.{Store}
use Rattle.dv_records.specs.GivenWindows.{window_in}
use Rattle.dv_records.specs.Limits.{most_path_rows, most_snapshots, most_snapshot_weight}
use Rattle.dv_records.specs.Loads.{loaded}
use Rattle.dv_records.specs.Marts.{contents, is_larger}
use Rattle.dv_records.specs.Outcomes.{outcome}
use Rattle.dv_records.specs.Snapshots.{snapshot}
use Rattle.dv_records.specs.States.{State, last_load, snapshots_weight}
use Rattle.dv_records.specs.Stores.{with_mapping}
use Rattle.dv_records.specs.declared.answers.InitAnswer.TheVariants as init
use Rattle.dv_records.specs.declared.answers.LoadAnswer.TheVariants as load
use Rattle.dv_records.specs.declared.answers.Outcome.TheVariants as outcomes
use Rattle.dv_records.specs.declared.answers.ResumeAnswer.TheVariants as resume
use Rattle.dv_records.specs.declared.answers.SnapAnswer.TheVariants as snap

-- ---- a load

-- the state with the window open
abbrev pub opened : Window → State → State
opened window state = record state { begun = Some window }

-- the state with the window sealed last, and none open
abbrev pub sealed_with : Window → State → State
sealed_with window state = record state { sealed = state.sealed ++ window ∷ []; begun = None }

-- a load that broke off: the state is as before; or the window was to be loaded, and is open, or sealed
abbrev pub LoadBroke : Mapping → Hashes → State → WindowIn → State → Type 0
LoadBroke mapping hashes state given state' =
    (state' ≡ state)
    ⊎ ((outcome mapping hashes state given ≡ outcomes.Load)
    × ((state' ≡ opened (window_in mapping state.sealed given) state) ⊎ (state' ≡ sealed_with (window_in mapping state.sealed given) state)))

abbrev pub LoadStep : Mapping → Hashes → State → WindowIn → LoadAnswer → State → Type 0
LoadStep mapping hashes state given (load.Loaded rows) state' =
    (outcome mapping hashes state given ≡ outcomes.Load) × (state' ≡ sealed_with (window_in mapping state.sealed given) state)
    × (rows ≡ loaded mapping hashes state.sealed (window_in mapping state.sealed given))
LoadStep mapping hashes state given load.Repeated state' = (outcome mapping hashes state given ≡ outcomes.Repeated) × (state' ≡ state)
LoadStep mapping hashes state given (load.Refused rule) state' = (outcome mapping hashes state given ≡ outcomes.Refused rule) × (state' ≡ state)
LoadStep mapping hashes state given (load.Damaged damage) state' = state' ≡ state
LoadStep mapping hashes state given load.KeeperFault state' = LoadBroke mapping hashes state given state'
LoadStep mapping hashes state given load.Memory state' = LoadBroke mapping hashes state given state'

-- ---- the completion of an open window

-- a completion that broke off: the state is as before, or has the open window sealed
abbrev pub ResumeBroke : State → State → Type 0
ResumeBroke state state' = (state' ≡ state) ⊎ ((window : Window) × (state.begun ≡ Some window) × (state' ≡ sealed_with window state))

abbrev pub ResumeStep : Mapping → Hashes → State → ResumeAnswer → State → Type 0
ResumeStep mapping hashes state (resume.Loaded rows) state' =
    (window : Window) × (state.begun ≡ Some window) × (state' ≡ sealed_with window state) × (rows ≡ loaded mapping hashes state.sealed window)
ResumeStep mapping hashes state resume.NothingOpen state' = (state.begun ≡ None) × (state' ≡ state)
ResumeStep mapping hashes state (resume.Damaged damage) state' = state' ≡ state
ResumeStep mapping hashes state resume.KeeperFault state' = ResumeBroke state state'
ResumeStep mapping hashes state resume.Memory state' = ResumeBroke state state'

-- ---- a snapshot

-- some first steps of a path, or all of them, give more rows than a path mart may have
abbrev pub is_too_large : Mapping → List Window → ℕ → PathDef → Bool
is_too_large mapping sealed date path = is_larger most_path_rows mapping (contents sealed date) path

abbrev pub later_than : Option ℕ → ℕ → Bool
later_than None date = true
later_than (Some last) date = nat_lt last date

-- Q4: the date is later than the last sealed load date, or none is sealed
abbrev pub future : State → ℕ → Option SnapAnswer
future state date = if later_than (last_load state.sealed) date then Some (snap.Future (last_load state.sealed)) else None

-- a snapshot is stored at the date
abbrev pub taken : State → ℕ → Option SnapAnswer
taken state date = if list_any (λ other. other == date) state.dates then Some snap.Repeated else None

-- Q3: the first path of which some first steps give too many rows
abbrev pub too_large : Mapping → State → ℕ → Option SnapAnswer
too_large mapping state date = option_map (λ path. snap.TooLarge path) (position (is_too_large mapping state.sealed date) mapping.paths)

abbrev pub full_with : ℕ → ℕ → Option SnapAnswer
full_with stored weight = if nat_lt most_snapshot_weight weight || nat_le most_snapshots stored then Some (snap.Full weight) else None

-- Q7: the stored snapshots and this one would weigh too much, or there are as many as there may be
abbrev pub snapshots_full : Mapping → Hashes → State → ℕ → Option SnapAnswer
snapshots_full mapping hashes state date =
    full_with (length state.dates) (snapshots_weight mapping hashes state.sealed (state.dates ++ date ∷ []))

-- why no snapshot is stored, the first that holds
abbrev pub snapshot_refusal : Mapping → Hashes → State → ℕ → Option SnapAnswer
snapshot_refusal mapping hashes state date =
    first_of (future state date ∷ taken state date ∷ too_large mapping state date ∷ snapshots_full mapping hashes state date ∷ [])

-- the state with a snapshot at the date
abbrev pub with_date : ℕ → State → State
with_date date state = record state { dates = sorted_by nat_cmp (date ∷ state.dates) }

-- an answer that is a refusal: it is the one that holds, and the state is as before
abbrev pub SnapRefused : Mapping → Hashes → State → ℕ → SnapAnswer → State → Type 0
SnapRefused mapping hashes state date answer state' = (snapshot_refusal mapping hashes state date ≡ Some answer) × (state' ≡ state)

abbrev pub SnapStep : Mapping → Hashes → State → ℕ → SnapAnswer → State → Type 0
SnapStep mapping hashes state date (snap.Stored rows) state' =
    (snapshot_refusal mapping hashes state date ≡ None) × (state' ≡ with_date date state)
    × (rows ≡ (snapshot mapping hashes state.sealed date).head.rows)
SnapStep mapping hashes state date snap.KeeperFault state' =
    (state' ≡ state) ⊎ ((snapshot_refusal mapping hashes state date ≡ None) × (state' ≡ with_date date state))
SnapStep mapping hashes state date snap.Memory state' = state' ≡ state
SnapStep mapping hashes state date answer state' = SnapRefused mapping hashes state date answer state'

-- ---- the storing of a mapping, on a fresh store or one that stands for a state

-- a file that is read as a mapping is stored, where no mapping was
pub record IsStored (file : List ℕ) (store store' : Store) : Type 0 where
  pub mapping : Mapping
  pub reads : read_mapping file ≡ Ok mapping
  pub none_before : store.mapping ≡ None
  pub changed : store' ≡ with_mapping file store

-- it broke off: the store is as before, or the file was not stored and is
abbrev pub InitBroke : List ℕ → Store → Store → Type 0
InitBroke file store store' = (store' ≡ store) ⊎ IsStored file store store'

-- the stored text, and the file's, read as mappings
pub record BothRead (file : List ℕ) (store : Store) (stored new : Mapping) : Type 0 where
  pub text : List ℕ
  pub stored_is : store.mapping ≡ Some text
  pub stored_reads : read_mapping text ≡ Ok stored
  pub file_reads : read_mapping file ≡ Ok new

abbrev pub InitStep : List ℕ → Store → InitAnswer → Store → Type 0
InitStep file store init.Stored store' = IsStored file store store'
InitStep file store init.Kept store' = (mapping : Mapping) × BothRead file store mapping mapping × (store' ≡ store)
InitStep file store init.Differs store' =
    (stored : Mapping) × (new : Mapping) × BothRead file store stored new × (new ≢ stored) × (store' ≡ store)
InitStep file store init.KeeperFault store' = InitBroke file store store'
InitStep file store init.Memory store' = InitBroke file store store'
