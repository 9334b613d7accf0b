-- What each command on the vault that is kept says, by what the keeper's store has and the state that it stands for.
use Rattle.std.specs.List.{list_any}
use Rattle.std.specs.Prelude.{◌≡◌, ◌⊎◌, ℕ, ◌==◌, List, [], Option, Some, None, Result, Ok, Err, if◌then◌else◌, option_map, option_to_list, slice_get}
use Rattle.dv_text.specs.Causes.{Rose}
use Rattle.dv_text.specs.Keys.{DigestFunction, Hashes, hashes_of}
use Rattle.dv_text.specs.Stamps.{stamp_of}
use Rattle.dv_text.specs.Told.{Told}
use Rattle.dv_catalog.specs.declared.map_error.MapError.{MapError}
use Rattle.dv_catalog.specs.declared.tables.TableId.{TableId}
use Rattle.dv_catalog.specs.Entries.{Mapping}
use Rattle.dv_catalog.specs.MappingFiles.{read_mapping}
use Rattle.dv_print.specs.declared.query_rules.QueryRule.{QueryRule}
use Rattle.dv_print.specs.declared.query_rules.QueryRule.TheVariants.{UnknownMart, BadDate, TooLarge, Future, NoSnapshot, UnknownTable, SnapshotsFull, NothingOpen}
use Rattle.dv_mart.specs.declared.whats.What.{What}
use Rattle.dv_mart.specs.MartTexts.{mart_text}
use Rattle.dv_bridge.specs.Paths.{name_of_path}
use Rattle.dv_print.specs.TableTexts.{table_text}
use Rattle.dv_print.specs.Texts.{windows_text}
use Rattle.dv_mart.specs.Whats.{hub_place, offered_mart, path_place, table_named}
use Rattle.dv_outside.specs.declared.folders.NamedFile.{NamedFile}
use Rattle.dv_outside.specs.declared.statuses.Status.TheVariants as statuses
use Rattle.dv_records.specs.declared.answers.Damage.{Damage}
use Rattle.dv_records.specs.declared.answers.InitAnswer.{InitAnswer}
use Rattle.dv_records.specs.declared.answers.InitAnswer.TheVariants as init
use Rattle.dv_records.specs.declared.answers.LoadAnswer.{LoadAnswer}
use Rattle.dv_records.specs.declared.answers.LoadAnswer.TheVariants as load
use Rattle.dv_records.specs.declared.answers.ResumeAnswer.{ResumeAnswer}
use Rattle.dv_records.specs.declared.answers.ResumeAnswer.TheVariants as resume
use Rattle.dv_records.specs.declared.answers.SnapAnswer.{SnapAnswer}
use Rattle.dv_records.specs.declared.answers.SnapAnswer.TheVariants as snap
use Rattle.dv_records.specs.declared.snapshots.SnapId.{SnapId}
use Rattle.dv_records.specs.declared.snapshots.SnapId.TheVariants as ids
use Rattle.dv_records.specs.declared.stores.Store.{Store}
use Rattle.dv_records.specs.Standing.{IsMappedBy, Stands}
use Rattle.dv_records.specs.States.{State, head_of}
use Rattle.dv_records.specs.Steps.{InitStep, LoadStep, ResumeStep, SnapStep}
use Rattle.dv_records.specs.Stores.{rows_in}
use Rattle.dv_records.specs.Vault.{vault}
use Rattle.dv_window.specs.StoredTexts.{table_text as snap_text}
use Rattle.dv_restore.specs.Damages.{IsFirstDamage, IsInForm, IsNotRead, mapping_damage}
use Rattle.dv_given.specs.Given.{absent_line, query_line, read_fault_line, refused_mapping_line}
use Rattle.dv_given.specs.Lines.{damaged_line, differs_line, keeper_line, mapping_file, memory_line, none_line}
use Rattle.dv_given.specs.Says.{IsReadFor}
use Rattle.dv_given.specs.Tried.{Absent, Arrival, Broken, Brought, Tried, arrival, ended, loaded_text, mapping_bytes, refusal_text, repeated_text, window_line}
use Rattle.dv_app.specs.Lines.{kept_line, repeated_line, resumed_line, snapshot_line, stored_line}
use Rattle.dv_app.specs.Places.{Places}
use Rattle.dv_app.specs.Words.{KeptCommand, StoredTable, Init, Load, Resume, Mart, Table, Windows, Snapshot, Stored, Pit, Bridge}

-- ---- what is said of an answer

-- memory ran out
abbrev pub memory_said : Tried
memory_said = ended statuses.Memory memory_line

-- the keeper failed
abbrev pub keeper_said : Tried
keeper_said = ended statuses.KeeperFault keeper_line

-- the store is damaged
abbrev pub damaged_said : Damage → Tried
damaged_said damage = ended statuses.Damaged (damaged_line damage)

-- a rule of queries is broken
abbrev pub refused_said : QueryRule → Tried
refused_said rule = ended statuses.Refused (query_line rule)

-- of the storing of the mapping
abbrev pub init_said : InitAnswer → Tried
init_said init.Stored = ended statuses.Done stored_line
init_said init.Kept = ended statuses.Done kept_line
init_said init.Differs = ended statuses.Mapping differs_line
init_said init.KeeperFault = keeper_said
init_said init.Memory = memory_said

-- of the load of a manifest's window
abbrev pub load_said : List ℕ → LoadAnswer → Tried
load_said name (load.Loaded rows) = ended statuses.Done (window_line name (loaded_text rows))
load_said name load.Repeated = ended statuses.Done (window_line name repeated_text)
load_said name (load.Refused rule) = ended statuses.Refused (window_line name (refusal_text rule))
load_said name (load.Damaged damage) = damaged_said damage
load_said name load.KeeperFault = keeper_said
load_said name load.Memory = memory_said

-- of the completion of the open window
abbrev pub resume_said : ResumeAnswer → Tried
resume_said (resume.Loaded rows) = ended statuses.Done (resumed_line rows)
resume_said resume.NothingOpen = refused_said NothingOpen
resume_said (resume.Damaged damage) = damaged_said damage
resume_said resume.KeeperFault = keeper_said
resume_said resume.Memory = memory_said

-- of the storing of a snapshot
abbrev pub snapshot_said : Mapping → SnapAnswer → Tried
snapshot_said mapping (snap.Stored rows) = ended statuses.Done (snapshot_line rows)
snapshot_said mapping snap.Repeated = ended statuses.Done repeated_line
snapshot_said mapping (snap.Future last) = refused_said (Future last)
snapshot_said mapping (snap.TooLarge path) = refused_said (TooLarge (name_of_path (slice_get mapping.paths path)))
snapshot_said mapping (snap.Full weight) = refused_said (SnapshotsFull weight)
snapshot_said mapping snap.KeeperFault = keeper_said
snapshot_said mapping snap.Memory = memory_said

-- ---- the texts, in a state of the warehouse

-- a text, or the rule that a query breaks
abbrev pub text_or : Result (List ℕ) QueryRule → Tried
text_or (Ok text) = record { out = text; err = []; status = statuses.Done }
text_or (Err rule) = refused_said rule

abbrev pub mart_at : Mapping → Hashes → State → What → List ℕ → Option ℕ → Tried
mart_at mapping hashes state what date None = refused_said (BadDate date)
mart_at mapping hashes state what date (Some at) = text_or (mart_text mapping hashes state.sealed (vault mapping hashes state.sealed) what at)

abbrev pub mart_for : Mapping → Hashes → State → List ℕ → List ℕ → Option What → Tried
mart_for mapping hashes state word date None = refused_said (UnknownMart word)
mart_for mapping hashes state word date (Some what) = mart_at mapping hashes state what date (stamp_of date)

-- the text of a mart over the sealed windows
abbrev pub mart_says : Mapping → Hashes → State → List ℕ → List ℕ → Tried
mart_says mapping hashes state word date = mart_for mapping hashes state word date (offered_mart mapping word)

-- ---- the tables of stored snapshots

-- the name that a table is asked by
abbrev pub name_of_stored : StoredTable → List ℕ
name_of_stored (Pit hub) = hub
name_of_stored (Bridge path) = path

-- the table that is asked for, where the mapping has the hub or the path
abbrev pub stored_id : Mapping → StoredTable → Option SnapId
stored_id mapping (Pit hub) = option_map (λ place. ids.Pit place) (hub_place mapping hub)
stored_id mapping (Bridge path) = option_map (λ place. ids.Bridge place) (path_place mapping path)

-- the text of a table of the snapshot of the sealed windows at a date, or that none is stored at it
abbrev pub stored_text : Mapping → Hashes → State → SnapId → ℕ → Result (List ℕ) QueryRule
stored_text mapping hashes state id at =
    if list_any (λ other. other == at) state.dates then Ok (snap_text mapping hashes state.sealed id at) else Err (NoSnapshot at)

abbrev pub stored_at : Mapping → Hashes → State → SnapId → List ℕ → Option ℕ → Tried
stored_at mapping hashes state id date None = refused_said (BadDate date)
stored_at mapping hashes state id date (Some at) = text_or (stored_text mapping hashes state id at)

abbrev pub stored_for : Mapping → Hashes → State → StoredTable → List ℕ → Option SnapId → Tried
stored_for mapping hashes state table date None = refused_said (UnknownMart (name_of_stored table))
stored_for mapping hashes state table date (Some id) = stored_at mapping hashes state id date (stamp_of date)

-- the text of a stored table: the point-in-time table of the hub, or the bridge of the path, with a name
abbrev pub stored_says : Mapping → Hashes → State → StoredTable → List ℕ → Tried
stored_says mapping hashes state table date = stored_for mapping hashes state table date (stored_id mapping table)

-- ---- the texts of what a store has

abbrev pub table_for : Mapping → Store → List ℕ → Option TableId → Tried
table_for mapping store name None = refused_said (UnknownTable name)
table_for mapping store name (Some table) = text_or (Ok (table_text mapping table (rows_in table store.tables)))

-- the text of a raw table with all its rows
abbrev pub table_says : Mapping → Store → List ℕ → Tried
table_says mapping store name = table_for mapping store name (table_named mapping name)

-- the text of the windows
abbrev pub windows_say : Mapping → Store → Tried
windows_say mapping store = text_or (Ok (windows_text mapping store.windows (option_to_list (option_map head_of store.stage))))

-- ---- faults, and what is left

-- the keeper failed, or memory ran out
abbrev pub IsBroken : Tried → Type 0
IsBroken said = (said ≡ keeper_said) ⊎ (said ≡ memory_said)

-- one of these files could not be read, and the folder's count of faults rose
abbrev pub IsUnread : Places → (List ℕ → Type 0) → Tried → Type 0
IsUnread at IsRead said =
    (file : List ℕ) × IsRead file × Rose at.folder.before at.folder.now × (said ≡ ended statuses.ReadFault (read_fault_line file))

-- the keeper's store is as it was
abbrev pub Stays : Places → Type 0
Stays at = at.keeper.new ≡ at.keeper.old

-- no damage is named
abbrev pub IsUndamaged : Tried → Type 0
IsUndamaged said = said.status ≡ statuses.Damaged → ⊥

-- a store, where it is told, stands for a state
abbrev pub StandsAt : Mapping → Hashes → State → Option Store → Type 0
StandsAt mapping hashes state told = Told told (Stands mapping hashes state)

-- the keeper's store stands for a state of some mapping
pub record IsStanding (hashes : Hashes) (told : Option Store) : Type 0 where
  pub mapping : Mapping
  pub state : State
  pub store : Store
  pub told_is : told ≡ Some store
  pub stands : Stands mapping hashes state store

-- ---- the commands, in a state

-- a step of the machine: its answer is said, or that memory ran out; no damage is named; and the store stands for the state behind it
pub record Steps {A : Type 0} (Step : A → State → Type 0) (said_of : A → Tried) (mapping : Mapping) (hashes : Hashes) (told : Option Store) (said : Tried) : Type 0 where
  pub answer : A
  pub state' : State
  pub step : Step answer state'
  pub says : (said ≡ said_of answer) ⊎ (said ≡ memory_said)
  pub sound : IsUndamaged said
  pub stands : StandsAt mapping hashes state' told

-- the load of what a manifest brought: one that breaks a rule before the load is refused by it
abbrev pub ArrivalStep : Mapping → Hashes → State → Arrival → LoadAnswer → State → Type 0
ArrivalStep mapping hashes state (Absent file) answer state' = ⊥
ArrivalStep mapping hashes state (Broken rule) answer state' = (answer ≡ load.Refused rule) × (state' ≡ state)
ArrivalStep mapping hashes state (Brought given) answer state' = LoadStep mapping hashes state given answer state'

-- a file of the manifest is absent, or it is loaded
abbrev pub LoadSays : Mapping → Hashes → List ℕ → Arrival → State → Option Store → Tried → Type 0
LoadSays mapping hashes name came state told said =
    ((file : List ℕ) × (came ≡ Absent file) × (said ≡ ended statuses.ReadFault (absent_line file)))
    ⊎ Steps (ArrivalStep mapping hashes state came) (load_said name) mapping hashes told said

-- the snapshot at a date, where it is one
abbrev pub SnapshotSays : Mapping → Hashes → List ℕ → Option ℕ → State → Option Store → Tried → Type 0
SnapshotSays mapping hashes date None state told said = said ≡ refused_said (BadDate date)
SnapshotSays mapping hashes date (Some at) state told said =
    Steps (SnapStep mapping hashes state at) (snapshot_said mapping) mapping hashes told said

-- in each state that the store stands for
abbrev pub InEach : Mapping → Hashes → Store → (State → Type 0) → Type 0
InEach mapping hashes store P = (state : State) → Stands mapping hashes state store → P state

-- ---- what a manifest brings

-- this is what it brings, by the folder's files where it tells them
abbrev pub IsBrought : Option (List NamedFile) → List ℕ → Arrival → Type 0
IsBrought told name came = Told told (λ files. came ≡ arrival files name)

-- this file is read for it, by the folder's files where it tells them
abbrev pub IsReadOf : Option (List NamedFile) → List ℕ → List ℕ → Type 0
IsReadOf told name file = Told told (λ files. IsReadFor files name file)

-- ---- the storing of the mapping

-- a step with its line, or that memory ran out
pub record InitSteps (file : List ℕ) (store : Store) (told : Option Store) (said : Tried) : Type 0 where
  pub answer : InitAnswer
  pub store' : Store
  pub step : InitStep file store answer store'
  pub told_is : told ≡ Some store'
  pub says : (said ≡ init_said answer) ⊎ (said ≡ memory_said)

-- the file is read as a mapping: it is stored, or compared with the stored one; a stored text that is not read as a mapping is damage
abbrev pub InitFor : List ℕ → Store → Option Store → Tried → Type 0
InitFor file store told said = InitSteps file store told said ⊎ (IsNotRead store mapping_damage × (said ≡ damaged_said mapping_damage))

abbrev pub InitBy : List ℕ → Store → Option Store → Result Mapping MapError → Tried → Type 0
InitBy file store told (Ok mapping) said = InitFor file store told said
InitBy file store told (Err e) said = said ≡ ended statuses.Mapping (refused_mapping_line e)

abbrev pub InitWith : Store → Option Store → Option (List ℕ) → Tried → Type 0
InitWith store told None said = said ≡ ended statuses.ReadFault (absent_line mapping_file)
InitWith store told (Some file) said = InitBy file store told (read_mapping file) said

-- the file that the folder has is stored; or it could not be read, or the keeper failed or memory ran out before
abbrev pub InitSays : Places → List NamedFile → Store → Tried → Type 0
InitSays at files store said =
    InitWith store at.keeper.new (mapping_bytes files) said ⊎ (IsUnread at (λ file. file ≡ mapping_file) said ⊎ (IsBroken said × Stays at))

-- ---- the opening of what is kept

-- the store has no mapping, or is damaged
abbrev pub IsShut : DigestFunction → Store → Tried → Type 0
IsShut function store said =
    ((store.mapping ≡ None) × (said ≡ ended statuses.Mapping none_line))
    ⊎ ((damage : Damage) × IsFirstDamage (hashes_of function) function.width store damage × (said ≡ damaged_said damage))

-- a mapping is stored, and the store breaks no rule of form
pub record IsOpenedBy (function : DigestFunction) (store : Store) (mapping : Mapping) : Type 0 where
  pub mapped : IsMappedBy mapping store.mapping
  pub in_form : IsInForm (hashes_of function) function.width mapping store

-- by the stored mapping: in each state of the store, or by what the store has. A load is that of what the manifest brings;
-- where the folder tells nothing, of something that a manifest may bring
abbrev pub OpenedSays : Places → Hashes → KeptCommand → Store → Mapping → Tried → Type 0
OpenedSays at hashes Init store mapping said = ⊥
OpenedSays at hashes (Load name) store mapping said =
    IsUnread at (IsReadOf at.folder.old name) said
    ⊎ ((came : Arrival) × IsBrought at.folder.old name came
    × InEach mapping hashes store (λ state. LoadSays mapping hashes name came state at.keeper.new said))
OpenedSays at hashes Resume store mapping said =
    InEach mapping hashes store (λ state. Steps (ResumeStep mapping hashes state) resume_said mapping hashes at.keeper.new said)
OpenedSays at hashes (Mart what date) store mapping said = InEach mapping hashes store (λ state. said ≡ mart_says mapping hashes state what date)
OpenedSays at hashes (Table name) store mapping said = said ≡ table_says mapping store name
OpenedSays at hashes Windows store mapping said = said ≡ windows_say mapping store
OpenedSays at hashes (Snapshot date) store mapping said =
    InEach mapping hashes store (λ state. SnapshotSays mapping hashes date (stamp_of date) state at.keeper.new said)
OpenedSays at hashes (Stored table date) store mapping said = InEach mapping hashes store (λ state. said ≡ stored_says mapping hashes state table date)

-- the store is shut; the keeper failed or memory ran out, and the store is as it was; or it is opened
abbrev pub OpensOr : Places → DigestFunction → KeptCommand → Store → Tried → Type 0
OpensOr at function command store said =
    IsShut function store said
    ⊎ ((IsBroken said × Stays at)
    ⊎ ((mapping : Mapping) × IsOpenedBy function store mapping × OpenedSays at (hashes_of function) command store mapping said))

-- ---- all of them

-- what a command says over a keeper's store; the folder's files are those that it tells
abbrev pub KeptSays : Places → DigestFunction → KeptCommand → Store → Tried → Type 0
KeptSays at function Init store said = Told at.folder.old (λ files. InitSays at files store said)
KeptSays at function command store said = OpensOr at function command store said
