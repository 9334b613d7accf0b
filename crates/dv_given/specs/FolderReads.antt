-- What comes of reading the files of a folder.
use Rattle.std.specs.Prelude.{◌≡◌, ◌≤◌, ℕ, List, Some, Result, Ok, IfErr, IfOk}
use Rattle.dv_text.specs.Told.{Told}
use Rattle.dv_mapfile.specs.declared.manifests.ManifestExtract.{ManifestExtract}
use Rattle.dv_catalog.specs.declared.windows.ExtractIn.{ExtractIn}
use Rattle.dv_outside.specs.Seen.{Seen}
use Rattle.dv_outside.specs.declared.folders.NamedFile.{NamedFile}
use Rattle.dv_given.specs.declared.arrivals.Arrived.{Arrived}
use Rattle.dv_given.specs.declared.endings.Ending.{Ending}
use Rattle.dv_given.specs.declared.mapping_files.MappingFile.{MappingFile}
use Rattle.dv_given.specs.Endings.{BringEnds, ExtractEnds, ExtractsEnd, FilesEnd, IsBringEnd, IsReadCause, MappingEnds, ReadEnds}
use Rattle.dv_given.specs.Given.{given}
use Rattle.dv_given.specs.Readings.{Brings, Reading, extract_bytes, no_reading, read_from, read_next}
use Rattle.dv_given.specs.Tried.{arrival, brought, mapping_at, mapping_bytes}

-- what was given, or why nothing was, by the files, where the folder tells them; the cause of that, whatever it tells; and the folder
-- is left as it was
pub record Reads {T : Type 0} (IsGiven : List NamedFile → T → Type 0) (EndsIt : List NamedFile → Ending → Type 0) (IsCause : ℕ → ℕ → Ending → Type 0) (folder : Seen (List NamedFile)) (result : Result T Ending) : Type 0 where
  pub ok : IfOk result (λ value. Told folder.old (λ files. IsGiven files value))
  pub ends : IfErr result (λ ending. Told folder.old (λ files. EndsIt files ending))
  pub cause : IfErr result (IsCause folder.before folder.now)
  pub kept : folder.new ≡ folder.old
  pub later : folder.before ≤ folder.now

-- the first bytes of a file, at most so many
abbrev pub ReadsNamed : ℕ → List ℕ → Seen (List NamedFile) → Result (List ℕ) Ending → Type 0
ReadsNamed most name folder result =
    Reads (λ files bytes. given most files name ≡ Some bytes) (λ files ending. ReadEnds files name ending) IsBringEnd folder result

-- the bytes of the next extract
abbrev pub ReadsExtract : Reading → ManifestExtract → Seen (List NamedFile) → Result (List ℕ) Ending → Type 0
ReadsExtract r extract folder result =
    Reads (λ files bytes. extract_bytes files r extract.file ≡ Some bytes) (λ files ending. ExtractEnds files r extract ending) IsBringEnd folder result

-- the next extract, behind which the reading goes on
abbrev pub ReadsNext : ManifestExtract → Reading → Reading → Seen (List NamedFile) → Result (Unit {0}) Ending → Type 0
ReadsNext extract r next folder result =
    Reads (λ files done. read_next files extract r ≡ Ok next) (λ files ending. ExtractEnds files r extract ending) IsBringEnd folder result

-- all extracts of a manifest
abbrev pub ReadsExtracts : List ManifestExtract → Seen (List NamedFile) → Result (List ExtractIn) Ending → Type 0
ReadsExtracts extracts folder result =
    Reads (λ files read. read_from files no_reading extracts ≡ Ok read) (λ files ending. ExtractsEnd files extracts ending) IsBringEnd folder result

-- what the manifest of these bytes brings
abbrev pub ReadsFiles : List ℕ → Seen (List NamedFile) → Result Arrived Ending → Type 0
ReadsFiles bytes folder result =
    Reads (λ files came. Brings (brought files bytes) came) (λ files ending. FilesEnd files bytes ending) IsBringEnd folder result

-- what the manifest of a name brings
abbrev pub Arrives : List ℕ → Seen (List NamedFile) → Result Arrived Ending → Type 0
Arrives name folder result =
    Reads (λ files came. Brings (arrival files name) came) (λ files ending. BringEnds files name ending) IsBringEnd folder result

-- the mapping's file
abbrev pub IsMappingFile : List NamedFile → MappingFile → Type 0
IsMappingFile files file = (mapping_at files ≡ Some (Ok file.catalog)) × (mapping_bytes files ≡ Some file.bytes)

abbrev pub ReadsMapping : Seen (List NamedFile) → Result MappingFile Ending → Type 0
ReadsMapping folder result = Reads IsMappingFile MappingEnds IsReadCause folder result
