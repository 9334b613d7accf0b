-- The bodies of replies that are JSON (RFC 8259), written with no space, members in the order of their names' bytes.
use Rattle.std.specs.Prelude.{ℕ, List, ◌++◌, Option, Some, None, codes, map, slice_get}
use Rattle.std.specs.Fmt.{decimal}
use Rattle.std.specs.Str.Lossy.{utf8_lossy}
use Rattle.json.specs.Print.{quoted}
use Rattle.serde_json.specs.Data.{Data, null, string, array, object, no_members, member}
use Rattle.serde_json.specs.View.{items_of}
use Rattle.serde_json.specs.Written.{compact_text}
use Rattle.dv_text.specs.declared.rows.WindowHead.{WindowHead}
use Rattle.dv_text.specs.Stamps.{stamp_text}
use Rattle.dv_catalog.specs.Entries.{Mapping}
use Rattle.dv_catalog.specs.Tables.{feed_name}

-- ---- what is answered, in a word

-- the name of an answer
abbrev pub answer_body : List ℕ → List ℕ
answer_body name = codes "{\"answer\":" ++ quoted name ++ codes "}"

-- the name of an answer, and a text; what is no UTF-8 in it is written as U+FFFD
abbrev pub text_body : List ℕ → List ℕ → List ℕ
text_body name text = codes "{\"answer\":" ++ quoted name ++ codes ",\"text\":" ++ quoted (utf8_lossy text) ++ codes "}"

-- a window that was loaded, with the number of its rows
abbrev pub loaded_body : ℕ → List ℕ
loaded_body rows = codes "{\"answer\":\"Loaded\",\"rows\":" ++ decimal rows ++ codes "}"

-- ---- the windows

-- the name of a feed
abbrev pub feed_data : Mapping → ℕ → Data
feed_data mapping feed = string (utf8_lossy (feed_name (slice_get mapping.feeds feed)))

-- a window: the names of its feeds, and its load date
abbrev pub head_data : Mapping → WindowHead → Data
head_data mapping head =
    object (
    member (codes "feeds") (array (items_of (map (feed_data mapping) head.feeds)))
    (member (codes "load") (string (stamp_text head.load)) no_members))

-- the load date of the open window, or null
abbrev pub begun_data : Option ℕ → Data
begun_data None = null
begun_data (Some load) = string (stamp_text load)

-- the load date of the open window, and the sealed windows in order
abbrev pub heads_data : Mapping → List WindowHead → Option ℕ → Data
heads_data mapping sealed begun =
    object (
    member (codes "open") (begun_data begun)
    (member (codes "windows") (array (items_of (map (head_data mapping) sealed))) no_members))

-- and the text of that
abbrev pub heads_body : Mapping → List WindowHead → Option ℕ → List ℕ
heads_body mapping sealed begun = compact_text (heads_data mapping sealed begun)
