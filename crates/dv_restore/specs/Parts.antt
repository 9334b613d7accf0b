-- The tables of a vault in two by a load date: their rows of sealed windows, and those of the open one.
use Rattle.std.specs.List.{list_all}
use Rattle.std.specs.Prelude.{◌≡◌, ℕ, ◌==◌, Bool, not, All, List, map}
use Rattle.dv_text.specs.declared.rows.WindowHead.{WindowHead}
use Rattle.dv_records.specs.declared.stores.Rows.{Rows}
use Rattle.dv_records.specs.declared.stores.TableRows.{TableRows}
use Rattle.dv_records.specs.Stores.{rows_then}
use Rattle.dv_records.specs.RowViews.{loads_of}
use Rattle.dv_store_rules.specs.FormRules.{is_loaded}
use Rattle.dv_restore.specs.Sealed.{rows_loaded}

-- all rows of tables have load dates of some heads
abbrev pub are_loaded : List WindowHead → List TableRows → Bool
are_loaded heads entries = list_all (λ entry. list_all (is_loaded heads) (loads_of entry.rows)) entries

-- rows without those of a load date, and those alone
abbrev pub rows_before : ℕ → Rows → Rows
rows_before date rows = rows_loaded (λ load. not (load == date)) rows

abbrev pub rows_at : ℕ → Rows → Rows
rows_at date rows = rows_loaded (λ load. load == date) rows

-- a table without its rows of a load date
abbrev pub entry_before : ℕ → TableRows → TableRows
entry_before date entry = record { table = entry.table; rows = rows_before date entry.rows }

-- rows of a load date stand behind all others
abbrev pub EndsAt : ℕ → Rows → Type 0
EndsAt date rows = rows ≡ rows_then (rows_before date rows) (rows_at date rows)

-- a table in two
pub record IsParted (date : ℕ) (entry sealed : TableRows) (opened : Rows) : Type 0 where
  pub sealed_is : sealed ≡ entry_before date entry
  pub opened_is : opened ≡ rows_at date entry.rows
  pub whole : EndsAt date entry.rows

-- tables in two
pub record AreParted (date : ℕ) (entries sealed : List TableRows) (opened : List Rows) : Type 0 where
  pub sealed_are : sealed ≡ map (entry_before date) entries
  pub opened_are : opened ≡ map (λ entry. rows_at date entry.rows) entries
  pub whole : All (λ entry. EndsAt date entry.rows) entries
