-- The limits of mappings, files and windows, and the forms of names and columns.
use Rattle.std.specs.Prelude.{ℕ, ◌==◌, Bool, ◌&&◌, ◌||◌, List, length, nat_le}
use Rattle.std.specs.List.{list_all}
use Rattle.std.specs.Str.{bytes_eq}
use Rattle.dv_text.specs.Normal.{norm_field}
pub use Rattle.dv_text.specs.Limits.{most_field_bytes}

abbrev pub most_hubs : ℕ
most_hubs = 32

abbrev pub most_links : ℕ
most_links = 32

abbrev pub most_feeds : ℕ
most_feeds = 64

abbrev pub most_paths : ℕ
most_paths = 16

-- the parts of a hub's business keys
abbrev pub most_parts : ℕ
most_parts = 4

-- the hubs of a link
abbrev pub most_references : ℕ
most_references = 4

-- the columns of a feed that are mapped: of keys, sub and attributes
abbrev pub most_columns : ℕ
most_columns = 32

-- the columns of a feed that are ignored
abbrev pub most_ignored : ℕ
most_ignored = 64

-- the feeds of a path
abbrev pub most_steps : ℕ
most_steps = 4

-- the bytes of a name or a source
abbrev pub most_name_bytes : ℕ
most_name_bytes = 40

-- the bytes of a column's name
abbrev pub most_column_bytes : ℕ
most_column_bytes = 200

-- the bytes of a mapping file
abbrev pub most_mapping_bytes : ℕ
most_mapping_bytes = 1_048_576

-- the bytes of a manifest
abbrev pub most_manifest_bytes : ℕ
most_manifest_bytes = 65_536

-- the bytes of an extract
abbrev pub most_extract_bytes : ℕ
most_extract_bytes = 33_554_432

-- the bytes of the extracts of a window together
abbrev pub most_window_bytes : ℕ
most_window_bytes = 67_108_864

-- the records of an extract
abbrev pub most_records : ℕ
most_records = 200_000

-- the records of the extracts of a window together
abbrev pub most_window_records : ℕ
most_window_records = 400_000

-- a number is from low to high
abbrev pub is_within : ℕ → ℕ → ℕ → Bool
is_within low high n = nat_le low n && nat_le n high

-- a to z, 0 to 9 or an underscore
abbrev pub is_name_byte : ℕ → Bool
is_name_byte b = is_within 97 122 b || is_within 48 57 b || (b == 95)

-- names and sources: such bytes, at least one
abbrev pub has_name_form : List ℕ → Bool
has_name_form name = is_within 1 most_name_bytes (length name) && list_all is_name_byte name

-- column names: at least one byte, in the normal form of a field
abbrev pub has_column_form : List ℕ → Bool
has_column_form column = is_within 1 most_column_bytes (length column) && bytes_eq (norm_field column) column
