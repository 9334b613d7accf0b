-- How the files of a manifest are read: no further than one byte past what is allowed.
use Rattle.std.specs.Prelude.{◌≡◌, ℕ, ◌+◌, ◌-◌, Bool, false, ◌||◌, List, [], ◌∷◌, ◌++◌, Option, Some, None, Result, Ok, Err, length, min, nat_lt, if◌then◌else◌}
use Rattle.dv_text.specs.Keys.{Hashes}
use Rattle.dv_catalog.specs.Entries.{Mapping}
use Rattle.dv_mapfile.specs.declared.manifests.ManifestExtract.{ManifestExtract}
use Rattle.dv_catalog.specs.declared.windows.ExtractIn.{ExtractIn}
use Rattle.dv_catalog.specs.declared.windows.WindowIn.{WindowIn}
use Rattle.dv_outside.specs.declared.folders.NamedFile.{NamedFile}
use Rattle.dv_records.specs.Outcomes.{outcome}
use Rattle.dv_records.specs.Limits.{most_extract_bytes, most_window_bytes}
use Rattle.dv_records.specs.States.{State}
use Rattle.dv_records.specs.declared.answers.Outcome.TheVariants as outcomes
use Rattle.dv_given.specs.declared.arrivals.Arrived.{Arrived}
use Rattle.dv_given.specs.declared.arrivals.Arrived.TheVariants as arrived
use Rattle.dv_given.specs.declared.arrivals.Reading.{Reading as ReadSoFar}
use Rattle.dv_given.specs.Given.{given}
use Rattle.dv_given.specs.Tried.{Absent, Arrival, Broken, Brought}

-- how far the reading of a manifest's extracts has come: the extracts so far, how many bytes are left of a window's, and whether one of
-- the extracts has too many
pub record Reading : Type 0 where
  pub extracts : List ExtractIn
  pub left : ℕ
  pub is_over : Bool

-- the reading, as the code has it
abbrev pub reading_of : ReadSoFar → Reading
reading_of r = record { extracts = r.extracts; left = r.left; is_over = r.is_over }

abbrev pub no_reading : Reading
no_reading = record { extracts = []; left = most_window_bytes; is_over = false }

-- how many bytes the next extract may have: not more than an extract may, and not more than are left of a window's
abbrev pub allowed : ℕ → ℕ
allowed left = min most_extract_bytes left

-- the next extract, with its bytes
abbrev pub with_extract : List ℕ → List ℕ → Reading → Reading
with_extract feed bytes r = record {
  extracts = r.extracts ++ record { feed = feed; bytes = bytes } ∷ [];
  left = r.left - length bytes;
  is_over = r.is_over || nat_lt (allowed r.left) (length bytes);
}

-- the first bytes of an extract's file, one more than it may have; behind an extract with too many no file is read, and none stand there
abbrev pub extract_bytes : List NamedFile → Reading → List ℕ → Option (List ℕ)
extract_bytes files r file = if r.is_over then Some [] else given (allowed r.left + 1) files file

-- the next extract is read; the name of its file, where the folder hasn't it
abbrev pub read_more : ManifestExtract → Option (List ℕ) → Reading → Result Reading (List ℕ)
read_more extract None r = Err extract.file
read_more extract (Some bytes) r = Ok (with_extract extract.feed bytes r)

abbrev pub read_next : List NamedFile → ManifestExtract → Reading → Result Reading (List ℕ)
read_next files extract r = read_more extract (extract_bytes files r extract.file) r

abbrev pub read_on : Result Reading (List ℕ) → (Reading → Result (List ExtractIn) (List ℕ)) → Result (List ExtractIn) (List ℕ)
read_on (Err file) rest = Err file
read_on (Ok r) rest = rest r

-- the extracts are read one after another
abbrev pub read_from : List NamedFile → Reading → List ManifestExtract → Result (List ExtractIn) (List ℕ)
read_from files r [] = Ok r.extracts
read_from files r (extract ∷ extracts) = read_on (read_next files extract r) (λ q. read_from files q extracts)

-- ---- what is read, and the whole files

-- a window as it is read stands for that of the whole files: under every mapping and in every state it has its outcome, and where that is
-- to be loaded it is the same window
pub record StandsForWhole (given whole : WindowIn) : Type 0 where
  pub outcome_is : (mapping : Mapping) (hashes : Hashes) (state : State) → outcome mapping hashes state given ≡ outcome mapping hashes state whole
  pub same : (mapping : Mapping) (hashes : Hashes) (state : State) → outcome mapping hashes state whole ≡ outcomes.Load → given ≡ whole

-- what the code has of what a manifest brings
abbrev pub Brings : Arrival → Arrived → Type 0
Brings (Absent file) came = ⊥
Brings (Broken rule) came = came ≡ arrived.Broken rule
Brings (Brought whole) came = (given : WindowIn) × (came ≡ arrived.Brought given) × StandsForWhole given whole

-- the code's part of it
abbrev pub arrival_of : Arrived → Arrival
arrival_of (arrived.Broken rule) = Broken rule
arrival_of (arrived.Brought given) = Brought given
