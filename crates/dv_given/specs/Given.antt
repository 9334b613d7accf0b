-- What a folder gives a command, and the last line where it doesn't.
use Rattle.std.specs.Prelude.{ℕ, List, Option, take}
use Rattle.std.specs.Option.{option_map}
use Rattle.dv_catalog.specs.MapTexts.{map_error_text}
use Rattle.dv_catalog.specs.Printed.{printed}
use Rattle.dv_catalog.specs.declared.map_error.MapError.{MapError}
use Rattle.dv_print.specs.QueryTexts.{query_text}
use Rattle.dv_print.specs.declared.query_rules.QueryRule.{QueryRule}
use Rattle.dv_outside.specs.Ends.{line_of}
use Rattle.dv_outside.specs.Files.{file_at}
use Rattle.dv_outside.specs.declared.folders.NamedFile.{NamedFile}
use Rattle.dv_given.specs.Lines.{absent_front, mapping_front, program_front, read_fault_front}

-- the first bytes of a file, at most so many
abbrev pub given : ℕ → List NamedFile → List ℕ → Option (List ℕ)
given most files name = option_map (take most) (file_at files name)

-- the last line where a file is absent, and where it could not be read
abbrev pub absent_line : List ℕ → List ℕ
absent_line name = line_of absent_front (printed name)

abbrev pub read_fault_line : List ℕ → List ℕ
read_fault_line name = line_of read_fault_front (printed name)

-- the last line where the mapping is refused
abbrev pub refused_mapping_line : MapError → List ℕ
refused_mapping_line e = line_of mapping_front (map_error_text e)

-- the last line where what is asked for is refused
abbrev pub query_line : QueryRule → List ℕ
query_line rule = line_of program_front (query_text rule)
