-- A path by its place in a mapping: its feeds, its name, and whether it is too large.
use Rattle.std.specs.Option.{option_map_or}
use Rattle.std.specs.Prelude.{ℕ, Bool, false, List, [], Option, Some, None, slice_get}
use Rattle.dv_text.specs.declared.rows.Window.{Window}
use Rattle.dv_catalog.specs.declared.entries.PathDef.{PathDef}
use Rattle.dv_catalog.specs.Entries.{Mapping}
use Rattle.dv_records.specs.Steps.{is_too_large}

-- the feeds of a path; none where there is no such path
abbrev pub path_feeds : Option PathDef → List ℕ
path_feeds None = []
path_feeds (Some path) = path.feeds

-- the name of a path; without bytes where there is no such path
abbrev pub name_of_path : Option PathDef → List ℕ
name_of_path None = []
name_of_path (Some path) = path.name

-- some first steps of the path at a place give too many rows
abbrev pub is_path_too_large : Mapping → List Window → ℕ → ℕ → Bool
is_path_too_large mapping sealed path date = option_map_or (is_too_large mapping sealed date) (slice_get mapping.paths path) false
