-- What `try` says, by its status: what reached standard output and standard error.
use Rattle.std.specs.Prelude.{◌≡◌, ◌⊎◌, ℕ, List, [], ◌++◌, Option, Some, None, Result, Ok, Err, slice_get, take}
use Rattle.dv_text.specs.Causes.{Rose}
use Rattle.dv_text.specs.Keys.{DigestFunction, Hashes, hashes_of}
use Rattle.dv_text.specs.Told.{Told}
use Rattle.dv_catalog.specs.Entries.{Mapping}
use Rattle.dv_catalog.specs.declared.map_error.MapError.{MapError}
use Rattle.dv_outside.specs.Bytes.{after, GotPrefix}
use Rattle.dv_outside.specs.declared.folders.NamedFile.{NamedFile}
use Rattle.dv_outside.specs.declared.statuses.Status.{Status}
use Rattle.dv_outside.specs.declared.statuses.Status.TheVariants.{Done, Refused, Usage, Mapping as Mapped, ReadFault, KeeperFault, WriteFault, Memory, Damaged}
use Rattle.dv_given.specs.Given.{read_fault_line}
use Rattle.dv_given.specs.Lines.{mapping_file, memory_line}
use Rattle.dv_given.specs.Says.{Gives, IsReadFor}
use Rattle.dv_given.specs.Tried.{Tried, ended, mapping_at}
use Rattle.dv_given.specs.Worlds.{Sight}
use Rattle.dv_app.specs.declared.words.TryWords.{TryWords}
use Rattle.dv_app.specs.Tried.{Progress, start, steps, tried}

-- what is asked of `try`: a mart or a table, a date, and the names of manifests
pub record Wanted : Type 0 where
  pub what : List ℕ
  pub date : List ℕ
  pub names : List (List ℕ)

-- the same, as the code has it
abbrev pub wanted : TryWords → Wanted
wanted a = record { what = a.what.now; date = a.date.now; names = a.manifests.now }

-- what is asked of `try`, of which files, and how keys are hashed
pub record Trial : Type 0 where
  pub hashes : Hashes
  pub files : List NamedFile
  pub what : List ℕ
  pub date : List ℕ
  pub names : List (List ℕ)

abbrev pub trial_of : DigestFunction → Wanted → List NamedFile → Trial
trial_of function w files = record { hashes = hashes_of function; files = files; what = w.what; date = w.date; names = w.names }

-- what it writes then, where nothing fails
abbrev pub tried_of : Trial → Tried
tried_of t = tried t.hashes t.files t.what t.date t.names

-- ---- what may be said behind some of the manifests

-- the lines of a run that goes on
abbrev pub lines_of : Result Progress (List ℕ) → Option (List ℕ)
lines_of (Err lines) = None
lines_of (Ok p) = Some p.lines

-- the lines of the first k manifests, by the mapping's file; none stand there where a file of these is absent
abbrev pub lines_with : Trial → ℕ → Option (Result Mapping MapError) → Option (List ℕ)
lines_with t k None = Some []
lines_with t k (Some (Err e)) = Some []
lines_with t k (Some (Ok mapping)) = lines_of (steps mapping t.hashes t.files start (take k t.names))

abbrev pub lines_before : Trial → ℕ → Option (List ℕ)
lines_before t k = lines_with t k (mapping_at t.files)

-- a file that is read behind the first k manifests: the next one, or one that it names
abbrev pub IsReadNext : List NamedFile → List (List ℕ) → ℕ → List ℕ → Type 0
IsReadNext files names k file = (name : List ℕ) × (slice_get names k ≡ Some name) × IsReadFor files name file

-- a file that is read behind the first k manifests, or the mapping's, which is read before them
abbrev pub IsNext : Trial → ℕ → List ℕ → Type 0
IsNext t k file = ((k ≡ 0) × (file ≡ mapping_file)) ⊎ IsReadNext t.files t.names k file

-- the lines of the first k manifests, of which no file is absent, and that the next file could not be read
abbrev pub IsReadFault : Trial → List ℕ → Type 0
IsReadFault t text =
    (k : ℕ) × (lines : List ℕ) × (file : List ℕ) × (lines_before t k ≡ Some lines) × IsNext t k file × (text ≡ lines ++ read_fault_line file)

-- the lines of the first k manifests, of which no file is absent, and that memory ran out
abbrev pub IsMemory : Trial → List ℕ → Type 0
IsMemory t text = (k : ℕ) × (lines : List ℕ) × (lines_before t k ≡ Some lines) × (text ≡ lines ++ memory_line)

-- what standard error may have, by the status, where the command ends before the mart's text
abbrev pub IsEnded : Trial → ℕ → ℕ → Status → List ℕ → Type 0
IsEnded t before now ReadFault text = (tried_of t ≡ ended ReadFault text) ⊎ (IsReadFault t text × Rose before now)
IsEnded t before now Memory text = IsMemory t text
IsEnded t before now Mapped text = tried_of t ≡ ended Mapped text
IsEnded t before now Refused text = tried_of t ≡ ended Refused text
IsEnded t before now _ text = ⊥

-- ---- what reached the sinks

-- nothing of the text, and such lines
pub record Broke (s : Sight) (IsText : List ℕ → Type 0) : Type 0 where
  pub out : s.out.new ≡ s.out.old
  pub text : List ℕ
  pub is_text : IsText text
  pub err : s.err.new ≡ after s.err.old text

-- a front of the text, and a front of such lines
pub record CutShort (tried : Tried) (s : Sight) (IsText : List ℕ → Type 0) : Type 0 where
  pub out : GotPrefix s.out.old s.out.new tried.out
  pub text : List ℕ
  pub is_text : IsText text
  pub err : GotPrefix s.err.old s.err.new text

-- the lines of which a front is written where a sink fails
abbrev pub IsCutLines : Trial → ℕ → ℕ → List ℕ → Type 0
IsCutLines t before now text = (text ≡ (tried_of t).err) ⊎ ((status : Status) × IsEnded t before now status text)

-- what is said of these files
abbrev pub TrialSays : Trial → Sight → Status → Type 0
TrialSays t s Done = Gives (tried_of t) s.out s.err Done
TrialSays t s Refused = Gives (tried_of t) s.out s.err Refused
TrialSays t s Mapped = Gives (tried_of t) s.out s.err Mapped
TrialSays t s ReadFault = Gives (tried_of t) s.out s.err ReadFault ⊎ (Broke s (IsReadFault t) × Rose s.folder.before s.folder.now)
TrialSays t s Memory = Broke s (IsMemory t)
TrialSays t s WriteFault = CutShort (tried_of t) s (IsCutLines t s.folder.before s.folder.now)
TrialSays t s Usage = ⊥
TrialSays t s KeeperFault = ⊥
TrialSays t s Damaged = ⊥

-- what `try` says of the folder's files, where it tells them
abbrev pub TrySays : DigestFunction → Wanted → Sight → Status → Type 0
TrySays function w s result = Told s.folder.old (λ files. TrialSays (trial_of function w files) s result)

-- all that it is to say, and nothing cut short
abbrev pub TryCompletes : DigestFunction → Wanted → Sight → Status → Type 0
TryCompletes function w s result = Told s.folder.old (λ files. Gives (tried_of (trial_of function w files)) s.out s.err result)
