-- The printed form of a fault of the mapping: its number, its name and its fields.
use Rattle.std.specs.Prelude.{ℕ, List, [], ◌++◌, codes}
use Rattle.dv_catalog.specs.declared.map_error.MapError.{MapError}
use Rattle.dv_catalog.specs.declared.map_error.MapError.TheVariants.{Text, Shape, NameTwice, UnknownHub, UnknownLink, KeyCount, NoKey, ColumnTwice, SubWithoutAttrs, DriverNotInLink, DriverWithSub, PathBroken, TooMany, NameForm, Memory}
use Rattle.dv_catalog.specs.Printed.{printed_field}

-- a fault's line; want of memory has none
abbrev pub map_error_text : MapError → List ℕ
map_error_text Text = codes "1 Text"
map_error_text (Shape place) = codes "2 Shape" ++ printed_field (codes "place") place
map_error_text (NameTwice name) = codes "3 NameTwice" ++ printed_field (codes "name") name
map_error_text (UnknownHub name) = codes "4 UnknownHub" ++ printed_field (codes "name") name
map_error_text (UnknownLink name) = codes "5 UnknownLink" ++ printed_field (codes "name") name
map_error_text (KeyCount feed) = codes "6 KeyCount" ++ printed_field (codes "feed") feed
map_error_text (NoKey name) = codes "7 NoKey" ++ printed_field (codes "name") name
map_error_text (ColumnTwice feed name) = codes "8 ColumnTwice" ++ printed_field (codes "feed") feed ++ printed_field (codes "name") name
map_error_text (SubWithoutAttrs feed) = codes "9 SubWithoutAttrs" ++ printed_field (codes "feed") feed
map_error_text (DriverNotInLink feed) = codes "10 DriverNotInLink" ++ printed_field (codes "feed") feed
map_error_text (DriverWithSub feed) = codes "11 DriverWithSub" ++ printed_field (codes "feed") feed
map_error_text (PathBroken path) = codes "12 PathBroken" ++ printed_field (codes "path") path
map_error_text (TooMany kind) = codes "13 TooMany" ++ printed_field (codes "kind") kind
map_error_text (NameForm name) = codes "14 NameForm" ++ printed_field (codes "name") name
map_error_text Memory = []
