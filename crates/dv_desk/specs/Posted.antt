-- The window that a request's body is: JSON (RFC 8259) with a load date, and for each extract its feed and its text.
use Rattle.std.specs.Prelude.{ℕ, ◌+◌, List, [], ◌∷◌, Option, Some, None, codes, ok_or, option_and_then, unwrap_or, Result, Ok, Err, if◌then◌else◌}
use Rattle.std.specs.Str.{is_utf8}
use Rattle.serde_json.specs.Data.{Data, Items, no_items, item, Members, no_members}
use Rattle.serde_json.specs.Find.{as_array, as_object, as_str, get_member}
use Rattle.serde_json.specs.Read.{read}
use Rattle.dv_text.specs.Stamps.{stamp_of}
use Rattle.dv_catalog.specs.Shapes.{placed}
use Rattle.dv_catalog.specs.Steps.{◌>>=◌}
use Rattle.dv_catalog.specs.declared.windows.ExtractIn.{ExtractIn}
use Rattle.dv_catalog.specs.declared.windows.WindowIn.{WindowIn}
use Rattle.dv_desk.specs.declared.posted.Posted.{Posted}
use Rattle.dv_desk.specs.declared.posted.Posted.TheVariants.{NotJson, Faulty, Given}

-- ---- the members of an object

-- a text that is a stamp
abbrev pub stamp : Data → Option ℕ
stamp value = option_and_then stamp_of (as_str value)

-- what is made of the member of a name; the name is the fault where there is none, or it has another form
abbrev pub required : {X : Type 0} → (Data → Option X) → List ℕ → Members → Result X (List ℕ)
required made_of name members = ok_or (option_and_then made_of (get_member name members)) name

-- ---- a window

-- an extract: its feed and its text
abbrev pub extract_of : Members → Result ExtractIn (List ℕ)
extract_of members = do
  feed ← required as_str (codes "feed") members
  text ← required as_str (codes "text") members
  Ok (record { feed = feed; bytes = text })

-- the members of an object; anything else has none
abbrev pub members_in : Data → Members
members_in value = unwrap_or (as_object value) no_members

-- the extracts, counted from a number
abbrev pub extracts_in : ℕ → Items → Result (List ExtractIn) (List ℕ)
extracts_in number no_items = Ok []
extracts_in number (item value items) = do
  extract ← placed (codes "extract") number (extract_of (members_in value))
  others ← extracts_in (number + 1) items
  Ok (extract ∷ others)

-- a window: its load date and its extracts; else the place of the first fault
abbrev pub window_of : Members → Result WindowIn (List ℕ)
window_of members = do
  load ← required stamp (codes "load") members
  items ← required as_array (codes "extracts") members
  extracts ← extracts_in 1 items
  Ok (record { load = load; extracts = extracts })

abbrev pub window_or_object : Option Members → Result WindowIn (List ℕ)
window_or_object None = Err (codes "object")
window_or_object (Some members) = window_of members

-- ---- a body

-- the JSON that bytes are; a text is UTF-8
abbrev pub json_of : List ℕ → Option Data
json_of bytes = if is_utf8 bytes then read bytes else None

abbrev pub posted_window : Result WindowIn (List ℕ) → Posted
posted_window (Ok given) = Given given
posted_window (Err place) = Faulty place

abbrev pub posted_json : Option Data → Posted
posted_json None = NotJson
posted_json (Some value) = posted_window (window_or_object (as_object value))

-- what a body is: a window, or JSON with a fault at a place, or no JSON
abbrev pub posted : List ℕ → Posted
posted body = posted_json (json_of body)
