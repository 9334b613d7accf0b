-- What a command may change of the keeper's store: by what it says, whether or not the store stands for a state.
use Rattle.std.specs.Prelude.{◌≡◌, ◌⊎◌, ℕ}
use Rattle.dv_outside.specs.Seen.{Seen}
use Rattle.dv_outside.specs.declared.statuses.Status.{Status}
use Rattle.dv_outside.specs.declared.statuses.Status.TheVariants as statuses
use Rattle.dv_records.specs.declared.stores.Store.{Store}
use Rattle.dv_given.specs.Tried.{Tried, ended, loaded_text, window_line}
use Rattle.dv_app.specs.Kept.{IsBroken}
use Rattle.dv_app.specs.Lines.{resumed_line, snapshot_line, stored_line}
use Rattle.dv_app.specs.Words.{Command, Init, KeptCommand, Load, Mart, OnKeeper, Resume, Snapshot, Stored, Table, Windows}

-- ---- by what is said

-- what a command says that may have changed the store: that the mapping is stored, a window loaded or completed, or a
-- snapshot stored; or that it broke off. A text changes nothing
abbrev pub MayChange : KeptCommand → Tried → Type 0
MayChange Init said = (said ≡ ended statuses.Done stored_line) ⊎ IsBroken said
MayChange (Load name) said = ((rows : ℕ) × (said ≡ ended statuses.Done (window_line name (loaded_text rows)))) ⊎ IsBroken said
MayChange Resume said = ((rows : ℕ) × (said ≡ ended statuses.Done (resumed_line rows))) ⊎ IsBroken said
MayChange (Snapshot date) said = ((rows : ℕ) × (said ≡ ended statuses.Done (snapshot_line rows))) ⊎ IsBroken said
MayChange (Mart what date) said = ⊥
MayChange (Table name) said = ⊥
MayChange Windows said = ⊥
MayChange (Stored table date) said = ⊥

-- the store is as it was, or the command says so of a change
abbrev pub Leaves : KeptCommand → Seen Store → Tried → Type 0
Leaves command keeper said = (keeper.new ≡ keeper.old) ⊎ MayChange command said

-- ---- by the command and its status

-- the command writes a text of what is kept
abbrev pub IsText : Command → Type 0
IsText (OnKeeper (Mart what date)) = Unit {0}
IsText (OnKeeper (Table name)) = Unit {0}
IsText (OnKeeper Windows) = Unit {0}
IsText (OnKeeper (Stored table date)) = Unit {0}
IsText _ = ⊥

-- the status says that what was asked for was not done
abbrev pub IsRefusal : Status → Type 0
IsRefusal statuses.Refused = Unit {0}
IsRefusal statuses.Usage = Unit {0}
IsRefusal statuses.Mapping = Unit {0}
IsRefusal statuses.ReadFault = Unit {0}
IsRefusal statuses.Damaged = Unit {0}
IsRefusal status = ⊥

-- the store is left by such a command, whatever its status, and by each one with such a status
abbrev pub LeavesStore : Command → Status → Type 0
LeavesStore command status = IsText command ⊎ IsRefusal status
