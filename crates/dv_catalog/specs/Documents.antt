-- Documents of TOML in bytes, and what a mapping file has of them.
use Rattle.std.specs.Prelude.{ℕ, nat_le, List, [], ◌∷◌, length, Option, None, if◌then◌else◌}
use Rattle.std.specs.Str.{is_utf8}
use Rattle.toml.specs.Data.{Members, no_members, member}
use Rattle.toml.specs.Parse.{parse_document}
use Rattle.dv_catalog.specs.Limits.{most_mapping_bytes}

-- the document that some bytes are, where `toml` reads them
abbrev pub document_of : List ℕ → Option Members
document_of bytes = if is_utf8 bytes then parse_document bytes else None

-- the document of a mapping file, which is not too long
abbrev pub mapping_document : List ℕ → Option Members
mapping_document bytes = if nat_le (length bytes) most_mapping_bytes then document_of bytes else None

-- the keys of a table, in the order of their bytes
abbrev pub keys_of : Members → List (List ℕ)
keys_of no_members = []
keys_of (member key value members) = key ∷ keys_of members
