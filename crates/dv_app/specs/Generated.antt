-- The mapping and the windows that `exercise` makes.
use Rattle.std.specs.Prelude.{ℕ, ◌+◌, ◌*◌, ◌/◌, ◌%◌, ◌==◌, List, [], ◌∷◌, ◌++◌, codes, if◌then◌else◌}
use Rattle.std.specs.Fmt.{decimal}
use Rattle.std.specs.List.{flat_map, range_with_len}
use Rattle.dv_catalog.specs.declared.entries.FeedDef.{FeedDef}
use Rattle.dv_catalog.specs.declared.entries.Parent.TheVariants.{Hub}
use Rattle.dv_catalog.specs.declared.windows.ExtractIn.{ExtractIn}
use Rattle.dv_catalog.specs.declared.windows.WindowIn.{WindowIn}
use Rattle.dv_catalog.specs.Entries.{Mapping}

-- ---- the mapping

-- a feed of items: the key is in column K, and one attribute in another column
abbrev pub generated_feed : List ℕ → List ℕ → FeedDef
generated_feed name attr = record {
  name = name;
  source = codes "gen";
  parent = Hub 0;
  keys = (codes "K" ∷ []) ∷ [];
  sub = [];
  attrs = attr ∷ [];
  ignore = [];
  driver = [];
}

abbrev pub left_feed : FeedDef
left_feed = generated_feed (codes "left") (codes "A")

abbrev pub right_feed : FeedDef
right_feed = generated_feed (codes "right") (codes "B")

-- a hub of items, and two feeds of it
abbrev pub generated_mapping : Mapping
generated_mapping = record {
  hubs = record { name = codes "item"; parts = 1 } ∷ [];
  links = [];
  feeds = left_feed ∷ right_feed ∷ [];
  paths = [];
}

-- ---- the windows

-- a record of two numbers
abbrev pub record_line : ℕ → ℕ → List ℕ
record_line key attr = decimal key ++ codes "," ++ decimal attr ++ codes "\n"

-- the record that `left` has of an item in a window, if there is one
abbrev pub left_line : ℕ → ℕ → List ℕ
left_line window item = if (item + window) % 4 == 0 then [] else record_line item ((item + window / 2) % 3)

-- the record that `right` has of an item, if there is one
abbrev pub right_line : ℕ → List ℕ
right_line item = if item % 2 == 0 then record_line item (item % 5) else []

-- what feeds deliver of so many items: a header, and the records
abbrev pub left_bytes : ℕ → ℕ → List ℕ
left_bytes items window = codes "K,A\n" ++ flat_map (left_line window) (range_with_len 0 items)

abbrev pub right_bytes : ℕ → List ℕ
right_bytes items = codes "K,B\n" ++ flat_map right_line (range_with_len 0 items)

abbrev pub left_extract : ℕ → ℕ → ExtractIn
left_extract items window = record { feed = codes "left"; bytes = left_bytes items window }

abbrev pub right_extract : ℕ → ExtractIn
right_extract items = record { feed = codes "right"; bytes = right_bytes items }

-- the extracts of a window: `right` delivers in every other one
abbrev pub generated_extracts : ℕ → ℕ → List ExtractIn
generated_extracts items window = left_extract items window ∷ (if window % 2 == 0 then right_extract items ∷ [] else [])

-- the load date of a window: 2024-01-01T00:00:00, and a day later for each window before it
abbrev pub load_date : ℕ → ℕ
load_date window = 3_913_056_000 + 86_400 * window

-- the window with a number, from 0, of so many items
abbrev pub generated_window : ℕ → ℕ → WindowIn
generated_window items window = record { load = load_date window; extracts = generated_extracts items window }
