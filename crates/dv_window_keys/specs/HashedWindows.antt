-- Windows with the hash keys of their rows.
use Rattle.std.specs.Prelude.{◌≡◌, ℕ, All, List, Some, map, slice_get}
use Rattle.dv_text.specs.declared.rows.Staged.{Staged}
use Rattle.dv_text.specs.Keys.{Hashes}
use Rattle.dv_digest.specs.declared.hashed_extracts.HashedExtract.{HashedExtract}
use Rattle.dv_digest.specs.HashedExtracts.{HasKeys}
use Rattle.dv_window_keys.specs.declared.hashed_windows.HashedWindow.{HashedWindow}

-- the extracts are those of the window, in its order, and each has the hash keys of its rows
pub record IsHashedWindow (hashes : Hashes) (hashed : HashedWindow) : Type 0 where
  pub extracts_are : map (λ extract. extract.staged.now) hashed.extracts ≡ hashed.window.now.extracts
  pub have_keys : All (HasKeys hashes) hashed.extracts

-- the extract at a place among extracts, with the hash keys of its rows
abbrev pub IsHashedAt : Hashes → List Staged → ℕ → HashedExtract → Type 0
IsHashedAt hashes extracts place made = (slice_get extracts place ≡ Some made.staged.now) × HasKeys hashes made
