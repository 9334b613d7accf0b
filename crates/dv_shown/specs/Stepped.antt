-- Steps of the machine: answers with the states before and after, and such as are no step.
use Rattle.std.specs.Prelude.{◌≡◌, ℕ, true, List, [], ◌∷◌, ◌++◌, Some, None, codes, drop, take}
use Rattle.dv_text.specs.declared.rows.Window.{Window}
use Rattle.dv_catalog.specs.declared.rules.Rule.TheVariants.{NoExtracts}
use Rattle.dv_catalog.specs.declared.tables.TableId.TheVariants.{Hub, Status}
use Rattle.dv_records.specs.declared.raw_rows.Code.TheVariants.{I}
use Rattle.dv_records.specs.declared.answers.InitAnswer.TheVariants as init
use Rattle.dv_records.specs.declared.answers.Damage.{Damage}
use Rattle.dv_records.specs.declared.answers.LoadAnswer.TheVariants as load
use Rattle.dv_records.specs.declared.answers.ResumeAnswer.TheVariants as resume
use Rattle.dv_records.specs.declared.answers.SnapAnswer.TheVariants as snap
use Rattle.dv_records.specs.declared.snapshots.Snap.{Snap}
use Rattle.dv_records.specs.declared.snapshots.SnapId.TheVariants.{Pit}
use Rattle.dv_records.specs.declared.stores.Store.{Store}
use Rattle.dv_records.specs.declared.stores.Rows.TheVariants.{Hubs, Pits, Statuses}
use Rattle.dv_records.specs.declared.stores.TableRows.{TableRows}
use Rattle.dv_records.specs.MemoryKeepers.{empty_store}
use Rattle.dv_records.specs.Standing.{IsFresh, Stands}
use Rattle.dv_records.specs.States.{State, beginning}
use Rattle.dv_records.specs.Snapshots.{snapshot}
use Rattle.dv_records.specs.Steps.{InitStep, LoadStep, ResumeStep, SnapStep, full_with, snapshot_refusal, with_date}
use Rattle.dv_records.specs.Stores.{with_snapshot as with_one_more}
use Rattle.dv_records.specs.Vault.{vault}
use Rattle.dv_shown.specs.Answered.{begun, first, first_loaded, given, of_customers, sealed}
use Rattle.dv_shown.specs.Mappings.{bare, with_accounts, with_names}
use Rattle.dv_shown.specs.Windows.{next_keys, once, tiers_later, two_keys, two_keys_window}
use Rattle.dv_shown.specs.Words.{day, in_hub, in_status, named_row, plain, staged, window, year_2030}

-- one sealed window, and snapshots at dates
abbrev pub dated : List ℕ → State
dated dates = record { sealed = once; begun = None; dates = dates }

-- a window of the second day with another attribute
abbrev pub renamed : Window
renamed = window 2 (staged 0 (named_row (codes "1") (codes "abd") ∷ []) ∷ [])

-- it is open after the sealed one, with a snapshot at the first day or with none; and it is sealed
abbrev pub renaming : List ℕ → State
renaming dates = record { sealed = once; begun = Some renamed; dates = dates }

abbrev pub renamed_at : List ℕ → State
renamed_at dates = record { sealed = once ++ renamed ∷ []; begun = None; dates = dates }

-- a hub's second row, which has a digest of another width
abbrev pub second_hub_row : Damage
second_hub_row = record { table = codes "hub_customer"; row = 1; rule = 4 }

-- loads
pub record LoadsStep : Type 0 where
  pub loaded : LoadStep with_names plain beginning first (load.Loaded 3) (sealed once)
  pub completed : LoadStep with_names plain (begun first_loaded) first (load.Loaded 3) (sealed once)
  pub other_rows : LoadStep with_names plain beginning first (load.Loaded 2) (sealed once) → ⊥
  pub other_state : LoadStep with_names plain beginning first (load.Loaded 3) beginning → ⊥
  pub repeated : LoadStep with_names plain (sealed once) first load.Repeated (sealed once)
  pub not_repeated : LoadStep with_names plain beginning first load.Repeated beginning → ⊥
  pub refused : LoadStep with_names plain beginning (given 1 []) (load.Refused NoExtracts) beginning
  pub refused_alone : LoadStep with_names plain beginning (given 1 []) (load.Refused NoExtracts) (sealed once) → ⊥
  pub before : LoadStep with_names plain beginning first load.KeeperFault beginning
  pub opened : LoadStep with_names plain beginning first load.KeeperFault (begun first_loaded)
  pub sealed_so : LoadStep with_names plain beginning first load.Memory (sealed once)
  pub never_opened : LoadStep with_names plain beginning (given 1 []) load.Memory (begun first_loaded) → ⊥
  pub loaded_later :
      LoadStep with_names plain (sealed once) (given 2 (of_customers (codes "CUST_NO,NAME\n1,abd\n"))) (load.Loaded 1)
      (sealed (once ++ window 2 (staged 0 (named_row (codes "1") (codes "abd") ∷ []) ∷ []) ∷ []))
  pub refused_not_loaded : LoadStep with_names plain beginning (given 1 []) (load.Loaded 0) (sealed (window 1 [] ∷ [])) → ⊥
  pub loaded_not_open : LoadStep with_names plain beginning first (load.Loaded 3) (begun first_loaded) → ⊥
  pub repeated_alone : LoadStep with_names plain (sealed once) first load.Repeated beginning → ⊥
  pub not_refused : LoadStep with_names plain beginning first (load.Refused NoExtracts) beginning → ⊥
  pub before_for_memory : LoadStep with_names plain beginning first load.Memory beginning
  pub opened_for_memory : LoadStep with_names plain beginning first load.Memory (begun first_loaded)
  pub sealed_by_fault : LoadStep with_names plain beginning first load.KeeperFault (sealed once)
  pub refused_not_opened : LoadStep with_names plain beginning (given 1 []) load.KeeperFault (begun (window 1 [])) → ⊥
  pub refused_not_opened_for_memory : LoadStep with_names plain beginning (given 1 []) load.Memory (begun (window 1 [])) → ⊥
  pub fault_elsewhere : LoadStep with_names plain beginning first load.KeeperFault (sealed (once ++ once)) → ⊥
  pub memory_elsewhere : LoadStep with_names plain beginning first load.Memory (sealed (once ++ once)) → ⊥
  pub damaged : LoadStep with_names plain beginning first (load.Damaged second_hub_row) beginning
  pub damaged_not_opened : LoadStep with_names plain beginning first (load.Damaged second_hub_row) (begun first_loaded) → ⊥
  -- in a state with a snapshot: notices a load that loses it
  pub beside_snapshot : LoadStep with_names plain (dated (day 1 ∷ [])) (given 2 (of_customers (codes "CUST_NO,NAME\n1,abd\n"))) (load.Loaded 1) (renamed_at (day 1 ∷ []))
  pub snapshot_lost : LoadStep with_names plain (dated (day 1 ∷ [])) (given 2 (of_customers (codes "CUST_NO,NAME\n1,abd\n"))) (load.Loaded 1) (renamed_at []) → ⊥
  pub open_beside_snapshot : LoadStep with_names plain (dated (day 1 ∷ [])) (given 2 (of_customers (codes "CUST_NO,NAME\n1,abd\n"))) load.KeeperFault (renaming (day 1 ∷ []))
  pub open_without : LoadStep with_names plain (dated (day 1 ∷ [])) (given 2 (of_customers (codes "CUST_NO,NAME\n1,abd\n"))) load.KeeperFault (renaming []) → ⊥

-- completions of an open window
pub record ResumesStep : Type 0 where
  pub loaded : ResumeStep with_names plain (begun first_loaded) (resume.Loaded 3) (sealed once)
  pub other_rows : ResumeStep with_names plain (begun first_loaded) (resume.Loaded 2) (sealed once) → ⊥
  pub nothing_open : ResumeStep with_names plain (sealed once) resume.NothingOpen (sealed once)
  pub one_open : ResumeStep with_names plain (begun first_loaded) resume.NothingOpen (begun first_loaded) → ⊥
  pub before : ResumeStep with_names plain (begun first_loaded) resume.KeeperFault (begun first_loaded)
  pub sealed_so : ResumeStep with_names plain (begun first_loaded) resume.Memory (sealed once)
  pub never_sealed : ResumeStep with_names plain (sealed once) resume.Memory beginning → ⊥
  pub loaded_unopened : ResumeStep with_names plain beginning (resume.Loaded 3) (sealed once) → ⊥
  pub loaded_not_sealed : ResumeStep with_names plain (begun first_loaded) (resume.Loaded 3) beginning → ⊥
  pub nothing_open_alone : ResumeStep with_names plain (sealed once) resume.NothingOpen beginning → ⊥
  pub before_for_memory : ResumeStep with_names plain (begun first_loaded) resume.Memory (begun first_loaded)
  pub sealed_by_fault : ResumeStep with_names plain (begun first_loaded) resume.KeeperFault (sealed once)
  pub fault_elsewhere : ResumeStep with_names plain (begun first_loaded) resume.KeeperFault (sealed (once ++ once)) → ⊥
  pub memory_elsewhere : ResumeStep with_names plain (begun first_loaded) resume.Memory (sealed (once ++ once)) → ⊥
  pub nothing_to_seal : ResumeStep with_names plain (sealed once) resume.KeeperFault (sealed (once ++ once)) → ⊥
  -- in a state with a snapshot: notices a completion that loses it
  pub beside_snapshot : ResumeStep with_names plain (renaming (day 1 ∷ [])) (resume.Loaded 1) (renamed_at (day 1 ∷ []))
  pub snapshot_lost : ResumeStep with_names plain (renaming (day 1 ∷ [])) (resume.Loaded 1) (renamed_at []) → ⊥
  pub fault_beside_snapshot : ResumeStep with_names plain (renaming (day 1 ∷ [])) resume.KeeperFault (renamed_at (day 1 ∷ []))
  pub fault_without : ResumeStep with_names plain (renaming (day 1 ∷ [])) resume.KeeperFault (renamed_at []) → ⊥
  -- damage leaves the state: notices a damaged store that loses its open window
  pub damaged : ResumeStep with_names plain (renaming (day 1 ∷ [])) (resume.Damaged second_hub_row) (renaming (day 1 ∷ []))
  pub damaged_not_sealed : ResumeStep with_names plain (renaming (day 1 ∷ [])) (resume.Damaged second_hub_row) (renamed_at (day 1 ∷ [])) → ⊥

-- a state with a snapshot at the second day
abbrev pub taken_at : List ℕ → State
taken_at dates = record { sealed = tiers_later; begun = None; dates = dates }

-- snapshots
pub record SnapshotsStep : Type 0 where
  pub stored : SnapStep with_accounts plain (taken_at []) (day 2) (snap.Stored 3) (taken_at (day 2 ∷ []))
  pub stored_before : SnapStep with_accounts plain (taken_at (day 2 ∷ [])) (day 1) (snap.Stored 3) (taken_at (day 1 ∷ day 2 ∷ []))
  pub other_rows : SnapStep with_accounts plain (taken_at []) (day 2) (snap.Stored 2) (taken_at (day 2 ∷ [])) → ⊥
  pub repeated : SnapStep with_accounts plain (taken_at (day 2 ∷ [])) (day 2) snap.Repeated (taken_at (day 2 ∷ []))
  pub future : SnapStep with_names plain (sealed once) year_2030 (snap.Future (Some (day 1))) (sealed once)
  pub nothing_sealed : SnapStep with_names plain beginning (day 1) (snap.Future None) beginning
  pub at_last : SnapStep with_names plain (sealed once) (day 1) (snap.Future (Some (day 1))) (sealed once) → ⊥
  pub before : SnapStep with_accounts plain (taken_at []) (day 2) snap.KeeperFault (taken_at [])
  pub stored_so : SnapStep with_accounts plain (taken_at []) (day 2) snap.KeeperFault (taken_at (day 2 ∷ []))
  pub memory : SnapStep with_accounts plain (taken_at []) (day 2) snap.Memory (taken_at [])
  pub memory_stores_none : SnapStep with_accounts plain (taken_at []) (day 2) snap.Memory (taken_at (day 2 ∷ [])) → ⊥
  pub refused_not_stored : SnapStep with_names plain (sealed once) year_2030 (snap.Stored 1) (dated (year_2030 ∷ [])) → ⊥
  pub stored_not_kept : SnapStep with_accounts plain (taken_at []) (day 2) (snap.Stored 3) (taken_at []) → ⊥
  pub repeated_alone : SnapStep with_accounts plain (taken_at (day 2 ∷ [])) (day 2) snap.Repeated (taken_at []) → ⊥
  pub not_repeated : SnapStep with_accounts plain (taken_at []) (day 2) snap.Repeated (taken_at []) → ⊥
  pub refused_by_fault : SnapStep with_names plain (sealed once) year_2030 snap.KeeperFault (dated (year_2030 ∷ [])) → ⊥
  pub fault_elsewhere : SnapStep with_accounts plain (taken_at []) (day 2) snap.KeeperFault (taken_at (day 1 ∷ [])) → ⊥
  pub future_before_repeated : snapshot_refusal with_names plain (dated (year_2030 ∷ [])) year_2030 ≡ Some (snap.Future (Some (day 1)))
  pub open_is_future : snapshot_refusal with_names plain (begun first_loaded) (day 1) ≡ Some (snap.Future None)
  -- while a window is open over sealed ones: notices a snapshot that is refused, or loses the window
  pub beside_open : SnapStep with_names plain (renaming []) (day 1) (snap.Stored 1) (renaming (day 1 ∷ []))
  pub open_lost : SnapStep with_names plain (renaming []) (day 1) (snap.Stored 1) (dated (day 1 ∷ [])) → ⊥
  -- and at the open window's date: notices an open window that counts as sealed
  pub at_open : SnapStep with_names plain (renaming []) (day 2) (snap.Future (Some (day 1))) (renaming [])
  pub at_open_not_stored : SnapStep with_names plain (renaming []) (day 2) (snap.Stored 1) (renaming (day 2 ∷ [])) → ⊥
  pub ascending : with_date (day 1) (taken_at (day 2 ∷ [])) ≡ taken_at (day 1 ∷ day 2 ∷ [])
  pub too_heavy : full_with 0 268435457 ≡ Some (snap.Full 268435457)
  pub just_heavy : full_with 999 268435456 ≡ None
  pub too_many : full_with 1000 0 ≡ Some (snap.Full 0)

-- a mapping file of one hub and one feed of its keys, and the same with a second hub
abbrev pub bare_file : List ℕ
bare_file = codes "[[hub]]\nname = \"customer\"\nparts = 1\n[[feed]]\nname = \"customers\"\nsource = \"crm\"\nhub = \"customer\"\nkeys = [[\"CUST_NO\"]]\n"

abbrev pub other_file : List ℕ
other_file = bare_file ++ codes "[[hub]]\nname = \"site\"\nparts = 2\n"

-- the first in other bytes, with its feed before its hub, and with the second hub before the first
abbrev pub bare_otherwise : List ℕ
bare_otherwise = codes "# one hub\n[[hub]]\nparts = 1\nname = 'customer'\n\n[[feed]]\nkeys = [ [ \"CUST_NO\" ] ]\nhub = \"customer\"\nsource = \"crm\"\nname = \"customers\"\n"

abbrev pub feed_first : List ℕ
feed_first = codes "[[feed]]\nname = \"customers\"\nsource = \"crm\"\nhub = \"customer\"\nkeys = [[\"CUST_NO\"]]\n[[hub]]\nname = \"customer\"\nparts = 1\n"

abbrev pub site_first : List ℕ
site_first = codes "[[hub]]\nname = \"site\"\nparts = 2\n" ++ bare_file

-- a text that is no mapping: its hub is a number
abbrev pub no_mapping_file : List ℕ
no_mapping_file = codes "hub = 3\n"

-- a store with a mapping
abbrev pub mapped : List ℕ → Store
mapped file = record empty_store { mapping = Some file }

-- the storing of a mapping
pub record InitsStep : Type 0 where
  pub stored : InitStep bare_file empty_store init.Stored (mapped bare_file)
  pub stored_once : InitStep bare_file (mapped bare_file) init.Stored (mapped bare_file) → ⊥
  pub kept : InitStep bare_file (mapped bare_file) init.Kept (mapped bare_file)
  pub before : InitStep bare_file empty_store init.KeeperFault empty_store
  pub stored_so : InitStep bare_file empty_store init.Memory (mapped bare_file)
  pub not_stored : InitStep bare_file empty_store init.Stored empty_store → ⊥
  pub kept_alone : InitStep bare_file (mapped bare_file) init.Kept empty_store → ⊥
  pub other_not_kept : InitStep other_file (mapped bare_file) init.Kept (mapped bare_file) → ⊥
  pub differs : InitStep other_file (mapped bare_file) init.Differs (mapped bare_file)
  pub differs_alone : InitStep other_file (mapped bare_file) init.Differs empty_store → ⊥
  pub equal_not_differs : InitStep bare_file (mapped bare_file) init.Differs (mapped bare_file) → ⊥
  pub before_for_memory : InitStep bare_file empty_store init.Memory empty_store
  pub stored_by_fault : InitStep bare_file empty_store init.KeeperFault (mapped bare_file)
  pub never_replaced : InitStep other_file (mapped bare_file) init.KeeperFault (mapped other_file) → ⊥
  pub fault_elsewhere : InitStep bare_file empty_store init.KeeperFault (mapped other_file) → ⊥
  pub memory_elsewhere : InitStep bare_file empty_store init.Memory (mapped other_file) → ⊥
  -- the same mapping in other bytes, and with its entries in another order: notices a mapping that is told by its bytes
  pub other_bytes : InitStep bare_otherwise (mapped bare_file) init.Kept (mapped bare_file)
  pub other_bytes_not_stored : InitStep bare_otherwise (mapped bare_file) init.Kept (mapped bare_otherwise) → ⊥
  pub entries_turned : InitStep feed_first (mapped bare_file) init.Kept (mapped bare_file)
  pub entries_turned_not_differs : InitStep feed_first (mapped bare_file) init.Differs (mapped bare_file) → ⊥
  -- but two hubs have their order: notices a mapping that is told by its entries whatever their order
  pub hubs_turned : InitStep site_first (mapped other_file) init.Differs (mapped other_file)
  -- bytes that are no mapping are not stored: notices a store that takes any bytes
  pub no_mapping_not_stored : InitStep no_mapping_file empty_store init.Stored (mapped no_mapping_file) → ⊥
  pub no_mapping_not_stored_by_fault : InitStep no_mapping_file empty_store init.KeeperFault (mapped no_mapping_file) → ⊥
  pub no_mapping_not_stored_for_memory : InitStep no_mapping_file empty_store init.Memory (mapped no_mapping_file) → ⊥
  pub no_mapping_before : InitStep no_mapping_file empty_store init.KeeperFault empty_store

-- a store with one sealed window of two keys
abbrev pub two_kept : Store
two_kept = record {
  mapping = Some bare_file;
  stage = None;
  windows = record { load = day 1; feeds = 0 ∷ [] } ∷ [];
  tables = vault bare plain two_keys;
  snapshots = [];
}

-- the same with a snapshot
abbrev pub two_snapped : Store
two_snapped = record two_kept { snapshots = snapshot bare plain two_keys (day 1) ∷ [] }

abbrev pub two_dated : State
two_dated = record { sealed = two_keys; begun = None; dates = day 1 ∷ [] }

-- the window of two keys is open
abbrev pub two_begun : State
two_begun = record { sealed = []; begun = Some two_keys_window; dates = [] }

-- a store in which it is open, with these tables
abbrev pub two_staged : List TableRows → Store
two_staged tables = record { mapping = Some bare_file; stage = Some two_keys_window; windows = []; tables = tables; snapshots = [] }

-- the hub has its batch, and the status table hasn't yet
abbrev pub hub_first : List TableRows
hub_first = take 1 (vault bare plain two_keys) ++ record { table = Status 0; rows = Statuses [] } ∷ []

-- the status table has its batch, and the hub hasn't
abbrev pub status_first : List TableRows
status_first = drop 1 (vault bare plain two_keys)

-- one window of two keys is sealed and the next one is open, with a snapshot at the first day
abbrev pub next_begun : State
next_begun = record { sealed = two_keys; begun = Some next_keys; dates = day 1 ∷ [] }

-- the snapshot: both keys are present, and the feed has no satellite
abbrev pub two_present : Snap
two_present = record {
  head = record { date = day 1; rows = 2; weight = 288 };
  tables = record {
    id = Pit 0;
    rows = Pits (
        record { key = codes "A1"; cells = record { load = None; present = true } ∷ [] }
        ∷ record { key = codes "A2"; cells = record { load = None; present = true } ∷ [] } ∷ []);
  } ∷ [];
}

-- a store in which the next window is open, with these tables and snapshots
abbrev pub next_staged : List TableRows → List Snap → Store
next_staged tables snapshots = record {
  mapping = Some bare_file;
  stage = Some next_keys;
  windows = record { load = day 1; feeds = 0 ∷ [] } ∷ [];
  tables = tables;
  snapshots = snapshots;
}

-- the hub has the batch of the next window, and the status table hasn't yet
abbrev pub next_hub_first : List TableRows
next_hub_first =
    record { table = Hub 0; rows = Hubs (in_hub (codes "A1") 1 (codes "crm.customers") ∷ in_hub (codes "A2") 1 (codes "crm.customers") ∷ in_hub (codes "A3") 2 (codes "crm.customers") ∷ []) }
    ∷ record { table = Status 0; rows = Statuses (in_status (codes "A1") 1 (codes "crm.customers") I ∷ in_status (codes "A2") 1 (codes "crm.customers") I ∷ []) }
    ∷ []

-- what stores stand for
pub record StoresStand : Type 0 where
  pub sealed_window : Stands bare plain (sealed two_keys) two_kept
  pub with_snapshot : Stands bare plain two_dated two_snapped
  pub open_window : Stands bare plain two_begun (two_staged hub_first)
  pub open_in_none : Stands bare plain two_begun (two_staged (record { table = Hub 0; rows = Hubs [] } ∷ record { table = Status 0; rows = Statuses [] } ∷ []))
  pub open_in_all : Stands bare plain two_begun (two_staged (vault bare plain two_keys))
  -- the first storing of a mapping: notices a store that stands for nothing until its first window
  pub beginning_stands : Stands bare plain beginning (mapped bare_file)
  -- and of a snapshot
  pub snapshot_put : with_one_more two_present two_kept ≡ two_snapped
  -- a window is open over sealed rows and a snapshot: notices tables that lose the sealed rows, and a snapshot of the open window
  pub open_over_sealed : Stands bare plain next_begun (next_staged next_hub_first (two_present ∷ []))
  pub sealed_rows_lost : Stands bare plain next_begun (next_staged hub_first (two_present ∷ [])) → ⊥
  pub snapshot_missing : Stands bare plain next_begun (next_staged next_hub_first []) → ⊥
  pub snapshot_of_open : Stands bare plain next_begun (next_staged next_hub_first (snapshot bare plain (two_keys ++ next_keys ∷ []) (day 2) ∷ [])) → ⊥
  pub out_of_order : Stands bare plain two_begun (two_staged status_first) → ⊥
  pub not_valid : Stands bare plain (sealed (two_keys ++ two_keys)) (record two_kept { windows = two_kept.windows ++ two_kept.windows; tables = vault bare plain (two_keys ++ two_keys) }) → ⊥
  pub no_mapping : Stands bare plain (sealed two_keys) (record two_kept { mapping = None }) → ⊥
  pub other_mapping : Stands bare plain (sealed two_keys) (record two_kept { mapping = Some other_file }) → ⊥
  pub other_heads : Stands bare plain (sealed two_keys) (record two_kept { windows = record { load = day 2; feeds = 0 ∷ [] } ∷ [] }) → ⊥
  pub other_stage : Stands bare plain (sealed two_keys) (record two_kept { stage = Some two_keys_window }) → ⊥
  pub no_rows : Stands bare plain (sealed two_keys) (record two_kept { tables = [] }) → ⊥
  pub other_snapshot : Stands bare plain two_dated (record two_kept { snapshots = snapshot bare plain [] (day 2) ∷ [] }) → ⊥
  pub fresh : IsFresh empty_store
  pub mapped_store : IsFresh (mapped bare_file) → ⊥
  pub staged_store : IsFresh (record empty_store { stage = Some two_keys_window }) → ⊥
  pub headed_store : IsFresh (record empty_store { windows = record { load = day 1; feeds = [] } ∷ [] }) → ⊥
  pub filled_store : IsFresh (record empty_store { tables = hub_first }) → ⊥
  pub snapped_store : IsFresh (record empty_store { snapshots = snapshot bare plain [] (day 2) ∷ [] }) → ⊥
