-- What each task of a window gives, and what is found by them.
use Rattle.std.specs.Prelude.{◌≡◌, ℕ, All, List, [], ◌∷◌, Result, Some, IfOk, IfSome, length, map, slice_get}
use Rattle.std.specs.Option.{option_map}
use Rattle.dv_text.specs.declared.rows.Window.{Window}
use Rattle.dv_text.specs.Keys.{Hashes}
use Rattle.dv_board.specs.KeyTables.{Offerer}
use Rattle.dv_catalog.specs.Entries.{Mapping}
use Rattle.dv_crew.specs.Results.{AreResults}
use Rattle.dv_records.specs.declared.deliveries.DeltaFault.{DeltaFault}
use Rattle.dv_records.specs.declared.stores.Rows.{Rows}
use Rattle.dv_records.specs.declared.stores.TableRows.{TableRows}
use Rattle.dv_records.specs.Deltas.{HasNoClash, IfCollides, IsLeastClash}
use Rattle.dv_records.specs.HubNames.{HubName}
use Rattle.dv_records.specs.RowViews.{AreOfLoad}
use Rattle.dv_window_keys.specs.declared.hashed_windows.HashedWindow.{HashedWindow}
use Rattle.dv_window_keys.specs.declared.items.WindowItem.{WindowItem}
use Rattle.dv_window_keys.specs.declared.offered_items.ItemRange.{ItemRange}
use Rattle.dv_window_keys.specs.declared.tasks.Task.{Task}
use Rattle.dv_window_keys.specs.declared.tasks.Task.TheVariants.{Batch, Keys}
use Rattle.dv_window_keys.specs.Tasks.{tasks}
use Rattle.dv_window_keys.specs.WindowItems.{IsKept, OffersOf, item_of}
use Rattle.dv_vault.specs.declared.named_hubs.HubKeys.{HubKeys}
use Rattle.dv_vault.specs.declared.results.Found.{Found}
use Rattle.dv_vault.specs.declared.results.TableBatch.{TableBatch}
use Rattle.dv_vault.specs.declared.results.TaskResult.{TaskResult}
use Rattle.dv_vault.specs.declared.results.TaskResult.TheVariants as gives
use Rattle.dv_vault.specs.declared.tables.Table.{Table}
use Rattle.dv_vault.specs.Vaults.{Follow, added_to, entry_of, hashed_in, names_of_hubs}

-- ---- what a window adds to a table

-- the rows that a window adds to a table with its rows, or the least collision that it makes
pub record IsDelta (mapping : Mapping) (hashes : Hashes) (names : List HubName) (window : Window) (entry : TableRows) (result : Result Rows DeltaFault) : Type 0 where
  pub rows : IfOk result (λ rows. rows ≡ added_to mapping hashes window entry)
  pub apart : IfOk result (λ rows. HasNoClash (hashed_in mapping hashes names window entry))
  pub collision : IfCollides result (IsLeastClash (hashed_in mapping hashes names window entry))
  pub follow : IfOk result (λ rows. Follow entry.rows rows)
  pub stamped : IfOk result (λ rows. AreOfLoad window.load rows)

-- what a window adds to the table at a place among tables
pub record IsBatch (mapping : Mapping) (hashes : Hashes) (names : List HubName) (window : Window) (entries : List TableRows) (batch : TableBatch) : Type 0 where
  pub entry : TableRows
  pub there : slice_get entries batch.place ≡ Some entry
  pub delta : IsDelta mapping hashes names window entry batch.rows

-- ---- results

-- the batch that a result has, if it has one
abbrev pub batches_in : TaskResult → List TableBatch
batches_in gives.Keys = []
batches_in (gives.Batch batch) = batch ∷ []

-- what a task gives: of keys nothing; of a table, what the window adds to it
abbrev pub IsResultOf : Mapping → Hashes → List HubName → Window → List TableRows → Task → TaskResult → Type 0
IsResultOf mapping hashes names window entries (Batch table) (gives.Batch batch) = IsBatch mapping hashes names window entries batch × (option_map (λ entry. entry.table) (slice_get entries batch.place) ≡ Some table)
IsResultOf mapping hashes names window entries (Batch table) gives.Keys = ⊥
IsResultOf mapping hashes names window entries (Keys feed) result = batches_in result ≡ []

-- what the task at a place among the tasks of a window gives
abbrev pub IsResultAt : Mapping → Hashes → List HubName → Window → List TableRows → ℕ → TaskResult → Type 0
IsResultAt mapping hashes names window entries place given = IfSome (slice_get (tasks mapping window) place) (λ task. IsResultOf mapping hashes names window entries task given)

-- These are the results of the tasks of a window, in their order.
abbrev pub AreGiven : Mapping → Hashes → List HubName → Window → List TableRows → List TaskResult → Type 0
AreGiven mapping hashes names window entries results = AreResults (IsResultAt mapping hashes names window entries) (length (tasks mapping window)) results

-- The task at a place is done: its items were offered, and this is what it gives.
abbrev pub IsDoneAt : Mapping → Hashes → HubKeys → HashedWindow → List Table → List WindowItem → List ItemRange → ℕ → Offerer → Offerer → TaskResult → Type 0
IsDoneAt mapping hashes names window tables items ranges place before after given =
    OffersOf (map item_of items) ranges place before after × IsResultAt mapping hashes (names_of_hubs names) window.window.now (map entry_of tables) place given

-- what the tasks of a window, or some of them, have found: the keys that the window brings, and batches
pub record IsFound (mapping : Mapping) (hashes : Hashes) (names : List HubName) (window : Window) (entries : List TableRows) (found : Found) : Type 0 where
  pub kept : IsKept mapping hashes window found.kept
  pub batches : All (IsBatch mapping hashes names window entries) found.batches.items
