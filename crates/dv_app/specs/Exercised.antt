-- What `exercise` writes: how many rows are loaded of the windows that it makes.
use Rattle.std.specs.Prelude.{◌≡◌, ◌⊎◌, ℕ, zero, suc, Contains, List, ◌++◌, codes, length, slice_get, sum_by}
use Rattle.std.specs.Fmt.{decimal}
use Rattle.std.specs.List.{flat_map, range_with_len}
use Rattle.dv_text.specs.Keys.{DigestFunction, Hashes, hashes_of}
use Rattle.dv_text.specs.declared.rows.Window.{Window}
use Rattle.dv_catalog.specs.declared.tables.TableId.{TableId}
use Rattle.dv_catalog.specs.declared.windows.WindowIn.{WindowIn}
use Rattle.dv_catalog.specs.Entries.{Mapping}
use Rattle.dv_catalog.specs.Tables.{feed_name, table_name, tables}
use Rattle.dv_outside.specs.Bytes.{GotPrefix, after}
use Rattle.dv_outside.specs.Seen.{Seen}
use Rattle.dv_outside.specs.declared.statuses.Status.{Status}
use Rattle.dv_outside.specs.declared.statuses.Status.TheVariants as statuses
use Rattle.dv_mart.specs.MartTexts.{HasKind}
use Rattle.dv_records.specs.Marts.{feed_mart}
use Rattle.dv_records.specs.Outcomes.{outcome}
use Rattle.dv_records.specs.States.{State, beginning}
use Rattle.dv_records.specs.Stores.{row_count, rows_in}
use Rattle.dv_records.specs.Vault.{vault}
use Rattle.dv_records.specs.declared.stores.TableRows.{TableRows}
use Rattle.dv_vault.specs.Vaults.{RawVault}
use Rattle.dv_window.specs.Offices.{Held}
use Rattle.dv_given.specs.Lines.{memory_line}
use Rattle.dv_app.specs.Generated.{generated_mapping, generated_window, load_date}
use Rattle.dv_app.specs.Loadings.{IsReady}
use Rattle.dv_app.specs.Tried.{state_after}

-- ---- the windows, one after another

-- the state after a window, by its outcome
abbrev pub taken : Hashes → WindowIn → State → State
taken hashes given state = state_after generated_mapping given (outcome generated_mapping hashes state given) state

-- the state behind the first windows, of so many items
unfoldable pub state_behind : Hashes → ℕ → ℕ → State
state_behind hashes items zero = beginning
state_behind hashes items (suc window) = taken hashes (generated_window items window) (state_behind hashes items window)

-- ---- the counts

-- a line: a name, and a number
abbrev pub count_line : List ℕ → ℕ → List ℕ
count_line name count = name ++ codes " " ++ decimal count ++ codes "\n"

-- how many rows a table of the vault has
abbrev pub table_count : List TableRows → TableId → ℕ
table_count entries table = row_count (rows_in table entries)

abbrev pub table_line : Mapping → List TableRows → TableId → List ℕ
table_line mapping entries table = count_line (table_name mapping table) (table_count entries table)

-- how many rows the mart of a feed has at a date
abbrev pub feed_line : Mapping → List Window → ℕ → ℕ → List ℕ
feed_line mapping sealed date feed = count_line (codes "feed:" ++ feed_name (slice_get mapping.feeds feed)) (length (feed_mart sealed feed date))

-- the windows, their rows, the rows of each table in table order, and of the mart of each feed at a date
abbrev pub counts_text : Mapping → List Window → List TableRows → ℕ → List ℕ
counts_text mapping sealed entries date =
    count_line (codes "windows") (length sealed) ++ count_line (codes "rows") (sum_by (table_count entries) (tables mapping))
    ++ flat_map (table_line mapping entries) (tables mapping) ++ flat_map (feed_line mapping sealed date) (range_with_len 0 (length mapping.feeds))

-- the same of the sealed windows of a state, at the last load date
abbrev pub counts_of : Hashes → State → List ℕ
counts_of hashes state = counts_text generated_mapping state.sealed (vault generated_mapping hashes state.sealed) (load_date 3)

-- what `exercise` writes for so many items: the counts behind its four windows
unfoldable pub exercised : Hashes → ℕ → List ℕ
exercised hashes items = counts_of hashes (state_behind hashes items 4)

-- ---- its parts

-- an office has taken the first windows, of so many items
pub record HasTaken (hashes : Hashes) (items windows : ℕ) (held : Held) : Type 0 where
  pub mapping_is : held.vault.mapping ≡ generated_mapping
  pub ready : IsReady hashes (state_behind hashes items windows) held

-- the rows of each table of a vault are of its kind
abbrev pub HasKinds : RawVault → Type 0
HasKinds raw = (table : TableId) → Contains (tables raw.mapping) table → HasKind raw.tables table

-- ---- what it says

-- a front of the text was written, or, where memory ran out, of the line that says so
abbrev pub IsCutShort : List ℕ → Seen (List ℕ) → Seen (List ℕ) → Type 0
IsCutShort text out err =
    (GotPrefix out.old out.new text × (err.new ≡ err.old)) ⊎ ((out.new ≡ out.old) × GotPrefix err.old err.new memory_line)

-- what reached standard output and standard error, by the status
abbrev pub SaysText : List ℕ → Seen (List ℕ) → Seen (List ℕ) → Status → Type 0
SaysText text out err statuses.Done = (out.new ≡ after out.old text) × (err.new ≡ err.old)
SaysText text out err statuses.WriteFault = IsCutShort text out err
SaysText text out err statuses.Memory = (out.new ≡ out.old) × (err.new ≡ after err.old memory_line)
SaysText text out err status = ⊥

abbrev pub ExerciseSays : DigestFunction → ℕ → Seen (List ℕ) → Seen (List ℕ) → Status → Type 0
ExerciseSays function items out err result = SaysText (exercised (hashes_of function) items) out err result
