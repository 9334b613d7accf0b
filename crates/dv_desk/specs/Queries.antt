-- What a request that is only read is answered with, in a state of the warehouse and by its store.
use Rattle.std.specs.List.{list_any}
use Rattle.std.specs.Option.{option_map}
use Rattle.std.specs.Prelude.{◌≡◌, ℕ, ◌==◌, List, Option, Some, None, Result, Ok, Err, if◌then◌else◌}
use Rattle.dv_text.specs.declared.rows.Window.{Window}
use Rattle.dv_text.specs.Keys.{Hashes}
use Rattle.dv_text.specs.Stamps.{stamp_of}
use Rattle.dv_catalog.specs.Entries.{Mapping}
use Rattle.dv_catalog.specs.declared.tables.TableId.{TableId}
use Rattle.dv_mart.specs.MartTexts.{mart_text}
use Rattle.dv_mart.specs.Whats.{hub_place, offered_mart, table_named}
use Rattle.dv_print.specs.declared.query_rules.QueryRule.{QueryRule}
use Rattle.dv_print.specs.declared.query_rules.QueryRule.TheVariants.{BadDate}
use Rattle.dv_mart.specs.declared.whats.What.{What}
use Rattle.dv_records.specs.declared.snapshots.SnapId.{SnapId}
use Rattle.dv_records.specs.declared.snapshots.SnapId.TheVariants.{Pit}
use Rattle.dv_records.specs.declared.stores.Store.{Store}
use Rattle.dv_records.specs.Snapshots.{pit}
use Rattle.dv_records.specs.States.{State}
use Rattle.dv_records.specs.Stores.{rows_in}
use Rattle.dv_records.specs.Vault.{vault}
use Rattle.dv_print.specs.TableTexts.{table_text}
use Rattle.dv_print.specs.Texts.{pit_text}
use Rattle.dv_desk.specs.Bodies.{heads_body}
use Rattle.dv_desk.specs.declared.answers.Answer.{Answer}
use Rattle.dv_desk.specs.declared.answers.Answer.TheVariants.{Heads, Rows, NotFound, BadQuery}

-- a text, or the rule that keeps it back
abbrev pub text_or : Result (List ℕ) QueryRule → Answer
text_or (Ok text) = Rows text
text_or (Err rule) = BadQuery rule

-- ---- the windows

-- the load date of the open window
abbrev pub begun_load : Option Window → Option ℕ
begun_load stage = option_map (λ window. window.load) stage

-- the heads of the sealed windows, and the load date of the open one
abbrev pub heads_answer : Mapping → Store → Answer
heads_answer mapping store = Heads (heads_body mapping store.windows (begun_load store.stage))

-- ---- a mart

-- over the sealed windows
abbrev pub mart_on : Mapping → Hashes → State → What → ℕ → Answer
mart_on mapping hashes state what at = text_or (mart_text mapping hashes state.sealed (vault mapping hashes state.sealed) what at)

-- at a date that is a stamp
abbrev pub mart_at : Mapping → Hashes → State → What → List ℕ → Option ℕ → Answer
mart_at mapping hashes state what date None = BadQuery (BadDate date)
mart_at mapping hashes state what date (Some at) = mart_on mapping hashes state what at

-- where the word names one
abbrev pub mart_for : Mapping → Hashes → State → List ℕ → Option What → Answer
mart_for mapping hashes state date None = NotFound
mart_for mapping hashes state date (Some what) = mart_at mapping hashes state what date (stamp_of date)

-- the mart of a word over the sealed windows, at a date
abbrev pub mart_answer : Mapping → Hashes → State → List ℕ → List ℕ → Answer
mart_answer mapping hashes state word date = mart_for mapping hashes state date (offered_mart mapping word)

-- ---- a raw table

-- of a table that there is
abbrev pub table_for : Mapping → Store → Option TableId → Answer
table_for mapping store None = NotFound
table_for mapping store (Some table) = Rows (table_text mapping table (rows_in table store.tables))

-- the raw table of a name, with all its rows
abbrev pub table_answer : Mapping → Store → List ℕ → Answer
table_answer mapping store name = table_for mapping store (table_named mapping name)

-- ---- a table of a stored snapshot

-- the text of a hub's point-in-time table in the snapshot at a date, where one is stored at it
abbrev pub stored_pit : Mapping → Hashes → State → ℕ → ℕ → Answer
stored_pit mapping hashes state hub at =
    if list_any (λ other. other == at) state.dates then Rows (pit_text mapping hub at (pit mapping hashes state.sealed hub at)) else NotFound

-- at a date that is a stamp
abbrev pub pit_at : Mapping → Hashes → State → ℕ → List ℕ → Option ℕ → Answer
pit_at mapping hashes state hub date None = BadQuery (BadDate date)
pit_at mapping hashes state hub date (Some at) = stored_pit mapping hashes state hub at

-- of a hub that there is
abbrev pub pit_for : Mapping → Hashes → State → List ℕ → Option ℕ → Answer
pit_for mapping hashes state date None = NotFound
pit_for mapping hashes state date (Some hub) = pit_at mapping hashes state hub date (stamp_of date)

-- the point-in-time table of the hub with a name, in the snapshot at a date
abbrev pub pit_answer : Mapping → Hashes → State → List ℕ → List ℕ → Answer
pit_answer mapping hashes state name date = pit_for mapping hashes state date (hub_place mapping name)

-- the stored table that is asked for: the point-in-time table of the hub with a name, at a date
abbrev pub IsPitFor : Mapping → List ℕ → List ℕ → SnapId → ℕ → Type 0
IsPitFor mapping name date id at = (hub : ℕ) × (hub_place mapping name ≡ Some hub) × (stamp_of date ≡ Some at) × (id ≡ Pit hub)
