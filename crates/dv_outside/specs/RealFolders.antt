-- What the real folder tells, and how often it failed.
use Rattle.std.specs.Prelude.{ℕ, List, Option, None}
use Rattle.dv_outside.specs.declared.folders.NamedFile.{NamedFile}
use Rattle.dv_outside.specs.declared.real_folders.RealFolder.{RealFolder}

-- it tells nothing of its files
abbrev pub real_folder_files : {R : Type 0} → RealFolder R → Option (List NamedFile)
real_folder_files folder = None

abbrev pub real_folder_faults : {R : Type 0} → RealFolder R → ℕ
real_folder_faults folder = folder.faults
