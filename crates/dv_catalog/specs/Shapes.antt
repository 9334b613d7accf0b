-- What a mapping's document declares, or the place of its first fault: a key that is unknown or lacking, or a
-- value of another form than its key has.
use Rattle.std.specs.Prelude.{ℕ, ◌+◌, not, List, [], ◌∷◌, ◌++◌, Option, Some, None, option_map, ok_or, find, codes, decimal, Result, Ok, Err}
use Rattle.std.specs.List.{list_any}
use Rattle.std.specs.Str.{bytes_eq}
use Rattle.toml.specs.Data.{Data, Members, as_table, get_member}
use Rattle.dv_catalog.specs.declared.map_error.MapError.{MapError}
use Rattle.dv_catalog.specs.declared.map_error.MapError.TheVariants.{Text, Shape}
use Rattle.dv_catalog.specs.declared.outlines.Outline.{Outline}
use Rattle.dv_catalog.specs.declared.outlines.HubOutline.{HubOutline}
use Rattle.dv_catalog.specs.declared.outlines.LinkOutline.{LinkOutline}
use Rattle.dv_catalog.specs.declared.outlines.FeedOutline.{FeedOutline}
use Rattle.dv_catalog.specs.declared.outlines.ParentName.{ParentName}
use Rattle.dv_catalog.specs.declared.outlines.ParentName.TheVariants.{Hub, Link}
use Rattle.dv_catalog.specs.declared.outlines.PathOutline.{PathOutline}
use Rattle.dv_catalog.specs.Documents.{keys_of, mapping_document}
use Rattle.dv_catalog.specs.Forms.{column, list_of, optional, part_count, required, text}
use Rattle.dv_catalog.specs.Steps.{◌>>=◌}

-- the first key, in the order of bytes, that is not among those known
abbrev pub unknown_key : List (List ℕ) → Members → Option (List ℕ)
unknown_key known members = find (λ key. not (list_any (λ name. bytes_eq name key) known)) (keys_of members)

abbrev pub fault_if_some : Option (List ℕ) → Result (Unit {0}) (List ℕ)
fault_if_some None = Ok tt
fault_if_some (Some key) = Err key

-- no key but those known; else the first other one is the fault
abbrev pub no_others : List (List ℕ) → Members → Result (Unit {0}) (List ℕ)
no_others known members = fault_if_some (unknown_key known members)

-- a hub
abbrev pub hub_of : Members → Result HubOutline (List ℕ)
hub_of members = do
  name ← required text (codes "name") members
  parts ← required part_count (codes "parts") members
  _ ← no_others (codes "name" ∷ codes "parts" ∷ []) members
  Ok (record { name = name; parts = parts })

-- a link
abbrev pub link_of : Members → Result LinkOutline (List ℕ)
link_of members = do
  name ← required text (codes "name") members
  hubs ← required (list_of text) (codes "hubs") members
  _ ← no_others (codes "name" ∷ codes "hubs" ∷ []) members
  Ok (record { name = name; hubs = hubs })

-- a feed's parent, by the values at `hub` and `link`, of which exactly one is there
abbrev pub parent_by : Option Data → Option Data → Result ParentName (List ℕ)
parent_by (Some hub) None = ok_or (option_map (λ name. Hub name) (text hub)) (codes "hub")
parent_by None (Some link) = ok_or (option_map (λ name. Link name) (text link)) (codes "link")
parent_by None None = Err (codes "hub")
parent_by (Some hub) (Some link) = Err (codes "hub")

-- what a feed delivers to
abbrev pub parent_of : Members → Result ParentName (List ℕ)
parent_of members = parent_by (get_member (codes "hub") members) (get_member (codes "link") members)

abbrev pub feed_keys : List (List ℕ)
feed_keys =
    codes "name" ∷ codes "source" ∷ codes "hub" ∷ codes "link" ∷ codes "keys" ∷ codes "sub" ∷ codes "attrs" ∷ codes "ignore" ∷ codes "driver" ∷ []

-- a feed
abbrev pub feed_of : Members → Result FeedOutline (List ℕ)
feed_of members = do
  name ← required text (codes "name") members
  source ← required text (codes "source") members
  parent ← parent_of members
  keys ← required (list_of (list_of column)) (codes "keys") members
  sub ← optional column (codes "sub") members
  attrs ← optional column (codes "attrs") members
  ignore ← optional column (codes "ignore") members
  driver ← optional text (codes "driver") members
  _ ← no_others feed_keys members
  Ok (record { name = name; source = source; parent = parent; keys = keys; sub = sub; attrs = attrs; ignore = ignore; driver = driver })

-- a path
abbrev pub path_of : Members → Result PathOutline (List ℕ)
path_of members = do
  name ← required text (codes "name") members
  feeds ← required (list_of text) (codes "feeds") members
  via ← required (list_of text) (codes "via") members
  _ ← no_others (codes "name" ∷ codes "feeds" ∷ codes "via" ∷ []) members
  Ok (record { name = name; feeds = feeds; via = via })

-- the place of a fault in an entry: the entry's kind, its number and the key
abbrev pub place_of : List ℕ → ℕ → List ℕ → List ℕ
place_of kind number key = kind ++ 32 ∷ decimal number ++ 32 ∷ key

-- an entry, of which a fault is told with its place
abbrev pub placed : {E : Type 0} → List ℕ → ℕ → Result E (List ℕ) → Result E (List ℕ)
placed kind number (Ok entry) = Ok entry
placed kind number (Err key) = Err (place_of kind number key)

-- the entries of a kind, counted from a number
abbrev pub entries : {E : Type 0} → (Members → Result E (List ℕ)) → List ℕ → ℕ → List Members → Result (List E) (List ℕ)
entries entry_of kind number [] = Ok []
entries entry_of kind number (table ∷ tables) = do
  entry ← placed kind number (entry_of table)
  others ← entries entry_of kind (number + 1) tables
  Ok (entry ∷ others)

-- the tables that stand at the top
pub record Tops : Type 0 where
  pub hubs : List Members
  pub links : List Members
  pub feeds : List Members
  pub paths : List Members

-- the tables of each kind of entry
abbrev pub tops_of : Members → Result Tops (List ℕ)
tops_of members = do
  hubs ← optional as_table (codes "hub") members
  links ← optional as_table (codes "link") members
  feeds ← optional as_table (codes "feed") members
  paths ← optional as_table (codes "path") members
  _ ← no_others (codes "hub" ∷ codes "link" ∷ codes "feed" ∷ codes "path" ∷ []) members
  Ok (record { hubs = hubs; links = links; feeds = feeds; paths = paths })

-- what a document declares, or the place of the first fault
abbrev pub outline_of : Members → Result Outline (List ℕ)
outline_of members = do
  tops ← tops_of members
  hubs ← entries hub_of (codes "hub") 1 tops.hubs
  links ← entries link_of (codes "link") 1 tops.links
  feeds ← entries feed_of (codes "feed") 1 tops.feeds
  paths ← entries path_of (codes "path") 1 tops.paths
  Ok (record { hubs = hubs; links = links; feeds = feeds; paths = paths })

abbrev pub outline_or_shape : Result Outline (List ℕ) → Result Outline MapError
outline_or_shape (Ok outline) = Ok outline
outline_or_shape (Err place) = Err (Shape place)

abbrev pub outline_or_text : Option Members → Result Outline MapError
outline_or_text None = Err Text
outline_or_text (Some document) = outline_or_shape (outline_of document)

-- what a mapping file declares, or the refusal of the file
abbrev pub outline_in : List ℕ → Result Outline MapError
outline_in bytes = outline_or_text (mapping_document bytes)
