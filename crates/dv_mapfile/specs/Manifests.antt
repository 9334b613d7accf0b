-- The manifest of a window: a TOML file with the load date, and for each extract its feed and the file that holds it.
use Rattle.std.specs.Prelude.{ℕ, List, Option, Some, None, Result, Ok, Err, codes, length, nat_lt, option_and_then, if◌then◌else◌}
use Rattle.toml.specs.Data.{Data, Members, as_str, as_table}
use Rattle.dv_text.specs.Stamps.{stamp_of}
use Rattle.dv_catalog.specs.Documents.{document_of}
use Rattle.dv_catalog.specs.Limits.{most_manifest_bytes}
use Rattle.dv_catalog.specs.Forms.{optional, required, text}
use Rattle.dv_catalog.specs.Shapes.{entries}
use Rattle.dv_catalog.specs.Steps.{◌>>=◌}
use Rattle.dv_mapfile.specs.declared.manifests.Manifest.{Manifest}
use Rattle.dv_mapfile.specs.declared.manifests.ManifestExtract.{ManifestExtract}

-- a text that is a stamp
abbrev pub stamp : Data → Option ℕ
stamp value = option_and_then stamp_of (as_str value)

-- an extract: its feed and its file
abbrev pub extract_of : Members → Result ManifestExtract (List ℕ)
extract_of members = do
  feed ← required text (codes "feed") members
  file ← required text (codes "file") members
  Ok (record { feed = feed; file = file })

-- a manifest's document: its load date and its extracts, which may be absent; else the place of the first fault
abbrev pub manifest_of : Members → Result Manifest (List ℕ)
manifest_of members = do
  load ← required stamp (codes "load") members
  tables ← optional as_table (codes "extract") members
  extracts ← entries extract_of (codes "extract") 1 tables
  Ok (record { load = load; extracts = extracts })

abbrev pub manifest_or_text : Option Members → Result Manifest (List ℕ)
manifest_or_text None = Err (codes "text")
manifest_or_text (Some document) = manifest_of document

-- the manifest that some bytes are, or the place of the first fault
abbrev pub manifest_in : List ℕ → Result Manifest (List ℕ)
manifest_in bytes = if nat_lt most_manifest_bytes (length bytes) then Err (codes "length") else manifest_or_text (document_of bytes)
