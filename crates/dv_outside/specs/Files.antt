-- The files of a folder, and what a read gives.
use Rattle.std.specs.Prelude.{◌≡◌, ℕ, List, [], ◌∷◌, Option, Some, None, Result, Ok, Err, take, if◌then◌else◌}
use Rattle.std.specs.Str.{bytes_eq}
use Rattle.dv_outside.specs.declared.folders.NamedFile.{NamedFile}
use Rattle.dv_outside.specs.declared.folders.FolderError.{FolderError}
use Rattle.dv_outside.specs.declared.folders.FolderError.TheVariants.{Failed, Absent, Memory}

-- the bytes of the first file of a name
abbrev pub file_at : List NamedFile → List ℕ → Option (List ℕ)
file_at [] name = None
file_at (file ∷ files) name = if bytes_eq file.name name then Some file.bytes else file_at files name

-- a file's front, or there is none of that name
abbrev pub Reads : List NamedFile → List ℕ → ℕ → Result (List ℕ) FolderError → Type 0
Reads files name most (Ok bytes) = (file : List ℕ) × (file_at files name ≡ Some file) × (bytes ≡ take most file)
Reads files name most (Err Absent) = file_at files name ≡ None
Reads files name most (Err Failed) = Unit {0}
Reads files name most (Err Memory) = Unit {0}

abbrev pub ReadsFile : Option (List NamedFile) → List ℕ → ℕ → Result (List ℕ) FolderError → Type 0
ReadsFile None name most result = Unit {0}
ReadsFile (Some files) name most result = Reads files name most result
