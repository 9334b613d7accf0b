-- How a command ends that does not come to its end, and what may end its parts.
use Rattle.std.specs.Prelude.{◌≡◌, ◌≢◌, ◌⊎◌, ℕ, List, [], Some, None, Err, Contains}
use Rattle.dv_text.specs.Causes.{Rose}
use Rattle.dv_text.specs.Stamps.{stamp_of}
use Rattle.dv_catalog.specs.declared.map_error.MapError.{MapError}
use Rattle.dv_catalog.specs.declared.map_error.MapError.TheVariants as errors
use Rattle.dv_mapfile.specs.declared.manifests.ManifestExtract.{ManifestExtract}
use Rattle.dv_print.specs.declared.query_rules.QueryRule.{QueryRule}
use Rattle.dv_print.specs.declared.query_rules.QueryRule.TheVariants.{BadDate}
use Rattle.dv_outside.specs.Ends.{Ends}
use Rattle.dv_outside.specs.Files.{file_at}
use Rattle.dv_outside.specs.Seen.{Seen}
use Rattle.dv_outside.specs.declared.folders.NamedFile.{NamedFile}
use Rattle.dv_outside.specs.declared.statuses.Status.{Status}
use Rattle.dv_outside.specs.declared.statuses.Status.TheVariants as statuses
use Rattle.dv_records.specs.declared.keepers.KeeperError.{KeeperError}
use Rattle.dv_records.specs.declared.keepers.KeeperError.TheVariants as keeper_errors
use Rattle.dv_restore.specs.declared.faults.StoreFault.{StoreFault}
use Rattle.dv_restore.specs.declared.faults.StoreFault.TheVariants as store_faults
use Rattle.dv_restore.specs.declared.faults.StartFault.{StartFault}
use Rattle.dv_restore.specs.declared.faults.StartFault.TheVariants as start_faults
use Rattle.dv_given.specs.declared.endings.Ending.{Ending}
use Rattle.dv_given.specs.declared.endings.Ending.TheVariants.{BadMapping, NoMapping, OtherMapping, BadQuery, Absent, Unread, Damaged, KeeperFault, Memory, Unwritten}
use Rattle.dv_given.specs.Given.{absent_line, query_line, read_fault_line, refused_mapping_line}
use Rattle.dv_given.specs.Lines.{damaged_line, differs_line, keeper_line, mapping_file, memory_line, none_line}
use Rattle.dv_given.specs.Readings.{Reading, no_reading, read_from, read_next}
use Rattle.dv_given.specs.Says.{IsFileOf, IsReadFor}
use Rattle.dv_given.specs.Tried as spec
use Rattle.dv_given.specs.Tried.{arrival, brought, mapping_at}

-- the status of a command that ends so
abbrev pub status_of : Ending → Status
status_of (BadMapping e) = statuses.Mapping
status_of NoMapping = statuses.Mapping
status_of OtherMapping = statuses.Mapping
status_of (BadQuery rule) = statuses.Refused
status_of (Absent file) = statuses.ReadFault
status_of (Unread file) = statuses.ReadFault
status_of (Damaged damage) = statuses.Damaged
status_of KeeperFault = statuses.KeeperFault
status_of Memory = statuses.Memory
status_of Unwritten = statuses.WriteFault

-- its last line; where nothing could be written, there is none
abbrev pub line_of_ending : Ending → List ℕ
line_of_ending (BadMapping e) = refused_mapping_line e
line_of_ending NoMapping = none_line
line_of_ending OtherMapping = differs_line
line_of_ending (BadQuery rule) = query_line rule
line_of_ending (Absent file) = absent_line file
line_of_ending (Unread file) = read_fault_line file
line_of_ending (Damaged damage) = damaged_line damage
line_of_ending KeeperFault = keeper_line
line_of_ending Memory = memory_line
line_of_ending Unwritten = []

-- ---- what it comes of

-- what a keeper has could not be read
abbrev pub ending_of_store : StoreFault → Ending
ending_of_store (store_faults.Damaged damage) = Damaged damage
ending_of_store store_faults.KeeperFault = KeeperFault
ending_of_store store_faults.Memory = Memory

-- no office could be started over it
abbrev pub ending_of_start : StartFault → Ending
ending_of_start start_faults.NoMapping = NoMapping
ending_of_start (start_faults.Unread fault) = ending_of_store fault

-- a call of a keeper failed
abbrev pub ending_of_error : KeeperError → Ending
ending_of_error keeper_errors.Failed = KeeperFault
ending_of_error keeper_errors.Memory = Memory

-- ---- what is written then

-- a command ends with a line and a status, or with those of want of memory, where the line could not be made
abbrev pub EndsOrMemory : Status → List ℕ → Seen (List ℕ) → Status → Type 0
EndsOrMemory status line err result =
    Ends status line err.old err.new err.before err.now result ⊎ Ends statuses.Memory memory_line err.old err.new err.before err.now result

-- what standard error has, and the status; where nothing could be written, nothing more is
abbrev pub EndsBy : Ending → Seen (List ℕ) → Status → Type 0
EndsBy Unwritten err result = (result ≡ statuses.WriteFault) × (err.new ≡ err.old)
EndsBy ending err result = EndsOrMemory (status_of ending) (line_of_ending ending) err result

-- ---- its cause, whatever the folder and the sinks tell

-- what may end the reading of a folder: a file could not be read only where the folder's count of faults rose
abbrev pub IsReadCause : ℕ → ℕ → Ending → Type 0
IsReadCause before now (BadMapping e) = Unit {0}
IsReadCause before now (BadQuery rule) = Unit {0}
IsReadCause before now (Absent file) = Unit {0}
IsReadCause before now (Unread file) = Rose before now
IsReadCause before now Memory = Unit {0}
IsReadCause before now ending = ⊥

-- what may end the reading of a manifest and of its files
abbrev pub IsBringEnd : ℕ → ℕ → Ending → Type 0
IsBringEnd before now (Absent file) = Unit {0}
IsBringEnd before now (Unread file) = Rose before now
IsBringEnd before now Memory = Unit {0}
IsBringEnd before now ending = ⊥

-- ---- its meaning, by the folder's files

-- the reading of files, by what it says of one that is absent, and of one that could not be read
abbrev pub FileEnds : (List ℕ → Type 0) → (List ℕ → Type 0) → Ending → Type 0
FileEnds IsAbsent IsUnread (Absent file) = IsAbsent file
FileEnds IsAbsent IsUnread (Unread file) = IsUnread file
FileEnds IsAbsent IsUnread Memory = Unit {0}
FileEnds IsAbsent IsUnread ending = ⊥

-- the reading of a file
abbrev pub ReadEnds : List NamedFile → List ℕ → Ending → Type 0
ReadEnds files name ending = FileEnds (λ file. (file ≡ name) × (file_at files name ≡ None)) (λ file. file ≡ name) ending

-- the reading of an extract's file
abbrev pub ExtractEnds : List NamedFile → Reading → ManifestExtract → Ending → Type 0
ExtractEnds files r extract ending = FileEnds (λ file. read_next files extract r ≡ Err file) (λ file. extract.file ≡ file) ending

-- the reading of the files of extracts
abbrev pub ExtractsEnd : List NamedFile → List ManifestExtract → Ending → Type 0
ExtractsEnd files extracts ending =
    FileEnds (λ file. read_from files no_reading extracts ≡ Err file) (λ file. (extract : ManifestExtract) × Contains extracts extract × (extract.file ≡ file)) ending

-- the reading of the files that a manifest names
abbrev pub FilesEnd : List NamedFile → List ℕ → Ending → Type 0
FilesEnd files bytes ending = FileEnds (λ file. brought files bytes ≡ spec.Absent file) (λ file. IsFileOf bytes file) ending

-- the reading of a manifest and of the files that it names
abbrev pub BringEnds : List NamedFile → List ℕ → Ending → Type 0
BringEnds files name ending = FileEnds (λ file. arrival files name ≡ spec.Absent file) (λ file. IsReadFor files name file) ending

-- a mapping that is refused, or not read for want of memory
abbrev pub IsMappingEnd : MapError → Ending → Type 0
IsMappingEnd e (BadMapping bad) = (bad ≡ e) × (e ≢ errors.Memory)
IsMappingEnd e Memory = Unit {0}
IsMappingEnd e ending = ⊥

-- the reading of the mapping's file
abbrev pub MappingEnds : List NamedFile → Ending → Type 0
MappingEnds files (BadMapping e) = mapping_at files ≡ Some (Err e)
MappingEnds files (Absent file) = (file ≡ mapping_file) × (mapping_at files ≡ None)
MappingEnds files (Unread file) = file ≡ mapping_file
MappingEnds files Memory = Unit {0}
MappingEnds files ending = ⊥

-- ---- what is asked for

-- by what is said of a rule that it breaks
abbrev pub QueryEnds : (QueryRule → Type 0) → Ending → Type 0
QueryEnds IsBroken (BadQuery rule) = IsBroken rule
QueryEnds IsBroken Memory = Unit {0}
QueryEnds IsBroken ending = ⊥

-- the date
abbrev pub DateEnds : List ℕ → Ending → Type 0
DateEnds date ending = QueryEnds (λ rule. (rule ≡ BadDate date) × (stamp_of date ≡ None)) ending
