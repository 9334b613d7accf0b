-- What the answer of a read says of the folder's count of faults.
use Rattle.std.specs.Prelude.{◌≡◌, ℕ, ◌≤◌, Result, IsErrOf}
use Rattle.dv_text.specs.Causes.{Rose}
use Rattle.dv_outside.specs.declared.folders.FolderError.{FolderError}
use Rattle.dv_outside.specs.declared.folders.FolderError.TheVariants.{Failed, Absent}

-- the count did not fall, a read failed only where it rose, and an absent file leaves it
pub record FolderCause {T : Type 0} (before now : ℕ) (result : Result T FolderError) : Type 0 where
  pub later : before ≤ now
  pub failed : IsErrOf result Failed → Rose before now
  pub absent : IsErrOf result Absent → now ≡ before
