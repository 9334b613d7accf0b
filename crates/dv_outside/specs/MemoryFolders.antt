-- What a folder in memory holds, and which of its reads fail.
use Rattle.std.specs.Prelude.{ℕ, List, Bool}
use Rattle.dv_outside.specs.Calls.{fails_next}
use Rattle.dv_outside.specs.declared.folders.NamedFile.{NamedFile}
use Rattle.dv_outside.specs.declared.memory_folders.MemoryFolder.{MemoryFolder}

-- the files, the first of a name being the one that counts
abbrev pub folder_files : MemoryFolder → List NamedFile
folder_files folder = folder.files

-- how many reads there were
abbrev pub folder_reads : MemoryFolder → ℕ
folder_reads folder = folder.calls.number

-- the numbers, from 1, of the reads that are to fail
abbrev pub folder_fails : MemoryFolder → List ℕ
folder_fails folder = folder.calls.fails

-- how many reads failed
abbrev pub folder_faults : MemoryFolder → ℕ
folder_faults folder = folder.calls.faults

-- whether the next read is to fail
abbrev pub folder_fails_next : MemoryFolder → Bool
folder_fails_next folder = fails_next folder.calls
