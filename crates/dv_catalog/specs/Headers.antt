-- The rules of an extract's header. A header name is the normal form of a field of the header.
use Rattle.std.specs.Prelude.{ℕ, not, List, [], ◌∷◌, ◌++◌, Option, Some, None, if◌then◌else◌, map, find, flat_map, option_map}
use Rattle.std.specs.List.{list_all}
use Rattle.std.specs.Str.{is_utf8}
use Rattle.dv_text.specs.Normal.{norm_field}
use Rattle.dv_catalog.specs.declared.entries.FeedDef.{FeedDef}
use Rattle.dv_catalog.specs.declared.rules.Rule.{Rule}
use Rattle.dv_catalog.specs.declared.rules.Rule.TheVariants.{HeaderNotUtf8, ColumnTwice, UnmappedColumn, MissingColumn}
use Rattle.dv_catalog.specs.FirstOf.{first_of}
use Rattle.dv_catalog.specs.Lookups.{is_among, text_twice}

-- the names of a header
abbrev pub header_names : List (List ℕ) → List (List ℕ)
header_names header = map norm_field header

-- the columns that a feed maps: of its keys, its sub and its attributes, in mapping order
abbrev pub mapped_columns : FeedDef → List (List ℕ)
mapped_columns feed = flat_map (λ columns. columns) feed.keys ++ feed.sub ++ feed.attrs

-- the columns that may stand in a feed's header
abbrev pub known_columns : FeedDef → List (List ℕ)
known_columns feed = mapped_columns feed ++ feed.ignore

-- W8: a field of the header isn't UTF-8
abbrev pub header_not_utf8 : FeedDef → List (List ℕ) → Option Rule
header_not_utf8 feed header = if list_all is_utf8 header then None else Some (HeaderNotUtf8 feed.name)

-- W9: the first header name that stands earlier in the header
abbrev pub column_twice : FeedDef → List (List ℕ) → Option Rule
column_twice feed names = option_map (λ name. ColumnTwice feed.name name) (text_twice names)

-- W10: the first header name that the feed neither maps nor ignores
abbrev pub unmapped_column : FeedDef → List (List ℕ) → Option Rule
unmapped_column feed names = option_map (λ name. UnmappedColumn feed.name name) (find (λ name. not (is_among (known_columns feed) name)) names)

-- W11: the first column that the feed maps and that isn't in the header
abbrev pub missing_column : FeedDef → List (List ℕ) → Option Rule
missing_column feed names = option_map (λ column. MissingColumn feed.name column) (find (λ column. not (is_among names column)) (mapped_columns feed))

-- the first rule, W8 to W11, that a header breaks
abbrev pub header_rule : FeedDef → List (List ℕ) → Option Rule
header_rule feed header =
    first_of (
    header_not_utf8 feed header
    ∷ column_twice feed (header_names header)
    ∷ unmapped_column feed (header_names header)
    ∷ missing_column feed (header_names header)
    ∷ [])
