-- The mapping that a mapping file declares, or why the file is refused.
use Rattle.std.specs.Prelude.{ℕ, List, Result, Ok, Err}
use Rattle.dv_catalog.specs.declared.map_error.MapError.{MapError}
use Rattle.dv_catalog.specs.declared.outlines.Outline.{Outline}
use Rattle.dv_catalog.specs.Entries.{Mapping}
use Rattle.dv_catalog.specs.Mappings.{checked}
use Rattle.dv_catalog.specs.Shapes.{outline_in}

abbrev pub checked_if : Result Outline MapError → Result Mapping MapError
checked_if (Err e) = Err e
checked_if (Ok outline) = checked outline

-- the mapping of a file's bytes; else the first refusal by number, and of one number the first place
abbrev pub read_mapping : List ℕ → Result Mapping MapError
read_mapping bytes = checked_if (outline_in bytes)
