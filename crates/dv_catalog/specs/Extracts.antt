-- The records of an extract, as `csv` reads them with its default settings (RFC 4180): commas part the fields, a field in
-- quotes may hold commas, quotes and line breaks, a line ends at CR, LF or both, and a blank line is no record. One byte
-- order mark at the start is dropped. The first record is read like the others; it is the header.
use Rattle.std.specs.Prelude.{ℕ, List}
use Rattle.csv.specs.Reading.{default_config, records, strip_bom}

-- every record of the bytes, in their order, as its fields
abbrev pub extract_records : List ℕ → List (List (List ℕ))
extract_records bytes = records default_config (strip_bom bytes)
