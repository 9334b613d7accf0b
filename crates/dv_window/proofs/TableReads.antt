-- What is read of a table of an office, and of a stored one, as every reader needs it.
use Rattle.dv_window.proofs.Vocabulary.{Begun, Contains, IsErrOf, IsVaultOf, List, None, Ok, Option, RawVault, Some, StoredFault, TableId, has_table, opened_in, rows_there, tables, true, vault_has, with_has, ℕ, ◌∙◌, ◌≡◌}

-- a table of the mapping is among those of the vault, also with the rows of the open window behind them
pub has_there : (table : TableId) (raw : RawVault) (begun : Option Begun) → IsVaultOf raw.mapping raw.tables → Contains (tables raw.mapping) table → has_table table (rows_there raw begun) ≡ true
has_there table raw None is has = vault_has raw.mapping raw.tables is table has
has_there table raw (Some begun) is has = with_has table raw.tables (opened_in begun.parts.items) ∙ vault_has raw.mapping raw.tables is table has

-- a text is no fault
pub no_fault : (text : List ℕ) (fault : StoredFault) → IsErrOf (Ok text) fault → ⊥
no_fault text fault e = cc
