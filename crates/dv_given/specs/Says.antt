-- What reached standard output and standard error, and which files are read for a manifest.
use Rattle.std.specs.Prelude.{◌≡◌, ◌⊎◌, ℕ, List, Some, Ok, Contains}
use Rattle.dv_mapfile.specs.Manifests.{manifest_in}
use Rattle.dv_mapfile.specs.declared.manifests.Manifest.{Manifest}
use Rattle.dv_mapfile.specs.declared.manifests.ManifestExtract.{ManifestExtract}
use Rattle.dv_outside.specs.Bytes.{after}
use Rattle.dv_outside.specs.Seen.{Seen}
use Rattle.dv_outside.specs.declared.folders.NamedFile.{NamedFile}
use Rattle.dv_outside.specs.declared.statuses.Status.{Status}
use Rattle.dv_given.specs.Tried.{Tried, manifest_bytes}

-- a file that a manifest of these bytes names
abbrev pub IsFileOf : List ℕ → List ℕ → Type 0
IsFileOf bytes file =
    (manifest : Manifest) × (extract : ManifestExtract) × (manifest_in bytes ≡ Ok manifest) × Contains manifest.extracts extract × (extract.file ≡ file)

-- a file that is read for a manifest: itself, or one that it names
abbrev pub IsReadFor : List NamedFile → List ℕ → List ℕ → Type 0
IsReadFor files name file =
    (file ≡ name) ⊎ ((bytes : List ℕ) × (manifest_bytes files name ≡ Some bytes) × IsFileOf bytes file)

-- all of it was written, and the status is that
pub record Gives (said : Tried) (out err : Seen (List ℕ)) (status : Status) : Type 0 where
  pub text : out.new ≡ after out.old said.out
  pub lines : err.new ≡ after err.old said.err
  pub status_is : said.status ≡ status
