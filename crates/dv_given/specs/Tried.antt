-- What a command writes, and what it is given: what a manifest brings, and the mapping.
use Rattle.std.specs.Prelude.{ℕ, ◌+◌, Bool, true, false, ◌||◌, List, [], ◌∷◌, ◌++◌, Option, Some, None, Result, Ok, Err, codes, length, map, nat_lt, unwrap_or, option_map, if◌then◌else◌}
use Rattle.std.specs.Fmt.{decimal}
use Rattle.dv_text.specs.Keys.{Hashes}
use Rattle.dv_catalog.specs.Entries.{Mapping}
use Rattle.dv_catalog.specs.Limits.{most_manifest_bytes, most_mapping_bytes}
use Rattle.dv_catalog.specs.MappingFiles.{read_mapping}
use Rattle.dv_mapfile.specs.Manifests.{manifest_in}
use Rattle.dv_catalog.specs.Printed.{printed}
use Rattle.dv_catalog.specs.RuleTexts.{rule_text}
use Rattle.dv_catalog.specs.Windows.{window_of}
use Rattle.dv_mapfile.specs.declared.manifests.Manifest.{Manifest}
use Rattle.dv_mapfile.specs.declared.manifests.ManifestExtract.{ManifestExtract}
use Rattle.dv_catalog.specs.declared.map_error.MapError.{MapError}
use Rattle.dv_catalog.specs.declared.rules.Rule.{Rule}
use Rattle.dv_catalog.specs.declared.rules.Rule.TheVariants.{Manifest as ManifestRule}
use Rattle.dv_catalog.specs.declared.windows.ExtractIn.{ExtractIn}
use Rattle.dv_catalog.specs.declared.windows.WindowIn.{WindowIn}
use Rattle.dv_outside.specs.Ends.{line_of}
use Rattle.dv_outside.specs.Files.{file_at}
use Rattle.dv_outside.specs.declared.folders.NamedFile.{NamedFile}
use Rattle.dv_outside.specs.declared.statuses.Status.{Status}
use Rattle.dv_outside.specs.declared.statuses.Status.TheVariants as statuses
use Rattle.dv_records.specs.Loads.{loaded}
use Rattle.dv_records.specs.Limits.{most_extract_bytes, most_window_bytes}
use Rattle.dv_records.specs.States.{State}
use Rattle.dv_records.specs.declared.answers.Outcome.{Outcome}
use Rattle.dv_records.specs.declared.answers.Outcome.TheVariants as outcomes
use Rattle.dv_given.specs.Given.{given}
use Rattle.dv_given.specs.Lines.{mapping_file}

-- what a run writes to standard output and to standard error, and its status
pub record Tried : Type 0 where
  pub out : List ℕ
  pub err : List ℕ
  pub status : Status

-- a run that writes lines alone
abbrev pub ended : Status → List ℕ → Tried
ended status err = record { out = []; err = err; status = status }

-- ---- what a manifest brings

-- what the manifest and its files bring: a file that the folder hasn't, a rule that is broken before the load, or a window
pub data Arrival : Type 0 where
  Absent : (file : List ℕ) → Arrival
  Broken : (rule : Rule) → Arrival
  Brought : (given : WindowIn) → Arrival

-- an extract with all bytes of its file; none where the folder hasn't it
abbrev pub whole_extract : List NamedFile → ManifestExtract → ExtractIn
whole_extract files extract = record { feed = extract.feed; bytes = unwrap_or (file_at files extract.file) [] }

-- the window of a manifest, with all bytes of its files
abbrev pub whole_window : List NamedFile → Manifest → WindowIn
whole_window files manifest = record { load = manifest.load; extracts = map (whole_extract files) manifest.extracts }

-- an extract of so many bytes, behind so many of its window, is too long, or makes the window too long
abbrev pub is_past : ℕ → ℕ → Bool
is_past bytes count = nat_lt most_extract_bytes count || nat_lt most_window_bytes (bytes + count)

-- the file where the folder hasn't it, and else what comes of the extracts behind it; behind an extract that is too long no file is
-- wanted
abbrev pub absent_or : ℕ → List ℕ → Option (List ℕ) → (ℕ → Option (List ℕ)) → Option (List ℕ)
absent_or bytes file None rest = Some file
absent_or bytes file (Some whole) rest = if is_past bytes (length whole) then None else rest (bytes + length whole)

-- the first file that the folder hasn't, of extracts behind so many bytes of their window
abbrev pub first_absent : List NamedFile → ℕ → List ManifestExtract → Option (List ℕ)
first_absent files bytes [] = None
first_absent files bytes (extract ∷ extracts) =
    absent_or bytes extract.file (file_at files extract.file) (λ more. first_absent files more extracts)

-- the window, where no file of it is absent
abbrev pub brought_with : WindowIn → Option (List ℕ) → Arrival
brought_with whole None = Brought whole
brought_with whole (Some file) = Absent file

-- what a manifest brings by what it is read as
abbrev pub brought_if : List NamedFile → Result Manifest (List ℕ) → Arrival
brought_if files (Err place) = Broken (ManifestRule place)
brought_if files (Ok manifest) = brought_with (whole_window files manifest) (first_absent files 0 manifest.extracts)

-- what a manifest of these bytes brings
abbrev pub brought : List NamedFile → List ℕ → Arrival
brought files bytes = brought_if files (manifest_in bytes)

-- the first bytes of a manifest: one more than it may have
abbrev pub manifest_bytes : List NamedFile → List ℕ → Option (List ℕ)
manifest_bytes files name = given (most_manifest_bytes + 1) files name

-- what a manifest brings by its bytes, where the folder has it
abbrev pub arrival_by : List NamedFile → List ℕ → Option (List ℕ) → Arrival
arrival_by files name None = Absent name
arrival_by files name (Some bytes) = brought files bytes

-- what the manifest of a name brings
abbrev pub arrival : List NamedFile → List ℕ → Arrival
arrival files name = arrival_by files name (manifest_bytes files name)

-- ---- what is said of a window

-- a window's line: the manifest's name and what came of it
abbrev pub window_line : List ℕ → List ℕ → List ℕ
window_line name text = line_of (printed name) text

-- a line's words for a rule that is broken
abbrev pub refusal_text : Rule → List ℕ
refusal_text rule = codes ": " ++ rule_text rule

-- a line's words for a window that was loaded, with the number of its rows
abbrev pub loaded_text : ℕ → List ℕ
loaded_text rows = codes ": Loaded " ++ decimal rows

-- a line's words for a window that repeats a sealed one
abbrev pub repeated_text : List ℕ
repeated_text = codes ": Repeated"

-- a line's words for what came of a window
abbrev pub outcome_text : Mapping → Hashes → State → WindowIn → Outcome → List ℕ
outcome_text mapping hashes state given outcomes.Load = loaded_text (loaded mapping hashes state.sealed (window_of mapping given))
outcome_text mapping hashes state given outcomes.Repeated = repeated_text
outcome_text mapping hashes state given (outcomes.Refused rule) = refusal_text rule

-- whether a window was refused
abbrev pub is_refused : Outcome → Bool
is_refused outcomes.Load = false
is_refused outcomes.Repeated = false
is_refused (outcomes.Refused rule) = true

-- the status of a command that gave its windows, by whether one was refused
abbrev pub status_for : Bool → Status
status_for refused = if refused then statuses.Refused else statuses.Done

-- ---- the mapping's file

-- the first bytes of the mapping's file: one more than it may have
abbrev pub mapping_bytes : List NamedFile → Option (List ℕ)
mapping_bytes files = given (most_mapping_bytes + 1) files mapping_file

-- the mapping's file, read
abbrev pub mapping_at : List NamedFile → Option (Result Mapping MapError)
mapping_at files = option_map read_mapping (mapping_bytes files)
